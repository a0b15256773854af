-- The bytes so far are zero.
use native.Mathlib.Omega.{arith}
use Rattle.memory_text.proofs.Texts.{blank_end, blank_more, blank_none, blank_not}
use Rattle.memory_text.proofs.rows.is_blank.Goals as goal

pub loop-x-init : goal.loop-x-init
loop-x-init c = blank_none c.args.row.now

pub returns-then-x-ne0 : goal.returns-then-x-ne0
returns-then-x-ne0 c = blank_not c.args.row.now _ (omega arith) c.if-x-ne0.true

pub loop-x-preserved : goal.loop-x-preserved
loop-x-preserved c = blank_more c.args.row.now _ c.loop-x.invariant c.if-x-ne0.false

pub returns : goal.returns
returns c = blank_end c.args.row.now _ c.loop-x.invariant (omega arith)
