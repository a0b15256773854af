-- No window, or that of the run.
use borrow.Author.Rules.{rules}
use mathlib.Core.Path.{refl}
use native.Mathlib.Omega.{arith}
use Rattle.image_reader.proofs.Faults.{fault_some}
use Rattle.memory_text.proofs.Shown.{shown_long, shown_refused, shown_short, shown_window}
use Rattle.text.proofs.Adds.{puts_as}
use Rattle.memory_text.proofs.put.Goals as goal

pub returns-then-b-lt-ROOM : goal.returns-then-b-lt-ROOM
returns-then-b-lt-ROOM c = (shown_short c.args.b.now c.args.image.now c.args.log.now c.args.memory.now c.if-b-lt-ROOM.true, omega arith)

pub returns-in_default : goal.returns-in_default
returns-in_default c = (shown_refused c.args.b.now c.args.image.now c.args.log.now c.args.memory.now c.if-b-lt-ROOM.false _ c.in_default.ensures (fault_some c.in_default.field-0.fault), omega arith)

pub returns-then-log-gt-LONGEST : goal.returns-then-log-gt-LONGEST
returns-then-log-gt-LONGEST c = (shown_long c.args.b.now c.args.image.now c.args.log.now c.args.memory.now c.if-b-lt-ROOM.false _ c.in-Ok.ensures refl c.if-log-gt-LONGEST.true, omega arith)

pub returns : goal.returns
returns c = (puts_as (shown_window c.args.b.now c.args.image.now c.args.log.now c.args.memory.now c.if-b-lt-ROOM.false _ c.in-Ok.ensures _ _ _ _ refl c.if-log-gt-LONGEST.false c.filled-m.ensures c.run.ensures c.put_rows.ensures.puts) (search (rules, c.put_rows.ensures.same)), omega (arith, c.if-b-lt-ROOM.false, c.put_rows.ensures.within))
