-- A refused image, or the figures.
use borrow.Author.Rules.{rules}
use mathlib.Core.Path.{refl}
use native.Mathlib.Omega.{arith}
use Rattle.image_reader.proofs.Faults.{fault_some}
use Rattle.lines.proofs.Offsets.{offset_small}
use Rattle.tally_text.proofs.Showing.{count_few, shown_figures, shown_none, shown_refused}
use Rattle.text.proofs.Adds.{puts_as}
use Rattle.tally_text.proofs.put.Goals as goal

pub returns-then-b-lt-ROOM : goal.returns-then-b-lt-ROOM
returns-then-b-lt-ROOM c = (shown_none _ _ (omega arith), omega arith)

pub overflow_cast-r : goal.overflow_cast-r
overflow_cast-r c = record { fits = offset_small _ _ c.in-Err.ensures }

pub returns-in-Err : goal.returns-in-Err
returns-in-Err c = (puts_as (shown_refused _ _ (omega (arith, c.if-b-lt-ROOM.false)) c.in-Err.ensures (fault_some c.in-Err.r.fault) (rw c.number.ensures at c.put_refused.ensures.puts)) (search (rules, c.put_refused.ensures.same)), omega (arith, c.if-b-lt-ROOM.false, c.put_refused.ensures.within))

pub put_tally-requires : goal.put_tally-requires
put_tally-requires c = (count_few _ (λ i. (c.type_inv.image i).fits) c.in-Ok.ensures refl, omega (arith, c.if-b-lt-ROOM.false))

pub returns : goal.returns
returns c = (puts_as (shown_figures _ _ (omega (arith, c.if-b-lt-ROOM.false)) c.in-Ok.ensures refl c.put_tally.ensures.puts) (search (rules, c.put_tally.ensures.same)), omega (arith, c.if-b-lt-ROOM.false, c.put_tally.ensures.within))
