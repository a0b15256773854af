-- Nothing, or the row's line.
use Rattle.memory_text.proofs.Texts.{row_none, row_shown}
use Rattle.memory_text.proofs.rows.put_row.Goals as goal

pub returns-then-not-is_blank : goal.returns-then-not-is_blank
returns-then-not-is_blank c = row_shown c.args.m.now _ _ c.is_blank.ensures c.if-not-is_blank.true c.put_row_line.ensures

pub returns-else-not-is_blank : goal.returns-else-not-is_blank
returns-else-not-is_blank c = row_none c.args.m.now _ _ c.is_blank.ensures c.if-not-is_blank.false
