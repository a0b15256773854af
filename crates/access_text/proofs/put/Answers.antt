-- A refused image, too many queries, or the answers.
use borrow.Author.Rules.{rules}
use mathlib.Core.Path.{refl}
use native.Mathlib.Omega.{arith}
use Rattle.access_text.proofs.Answering.{shown_answers, shown_long, shown_none, shown_refused}
use Rattle.image_reader.proofs.Faults.{fault_some}
use Rattle.lines.proofs.Offsets.{offset_small}
use Rattle.text.proofs.Adds.{adds_then, puts_as}
use Rattle.access_text.proofs.put.Goals as goal

pub returns-then-b-lt-ROOM : goal.returns-then-b-lt-ROOM
returns-then-b-lt-ROOM c = (shown_none _ _ (omega arith), omega arith)

pub overflow_cast-r : goal.overflow_cast-r
overflow_cast-r c = record { fits = offset_small _ _ c.in-Err.ensures }

pub returns-in-Err : goal.returns-in-Err
returns-in-Err c = (puts_as (shown_refused _ _ (omega (arith, c.if-b-lt-ROOM.false)) c.in-Err.ensures (fault_some c.in-Err.r.fault) (rw c.number.ensures at c.put_refused.ensures.puts)) (search (rules, c.put_refused.ensures.same)), omega (arith, c.if-b-lt-ROOM.false, c.put_refused.ensures.within))

pub returns-then-size-gt-LONGEST : goal.returns-then-size-gt-LONGEST
returns-then-size-gt-LONGEST c = (puts_as (shown_long _ _ (omega (arith, c.if-b-lt-ROOM.false)) c.in-Ok.ensures refl (omega (arith, c.if-size-gt-LONGEST.true)) c.put_word.ensures.puts) (search (rules, c.put_word.ensures.same)), omega (arith, c.if-b-lt-ROOM.false, c.put_word.ensures.within))

pub returns : goal.returns
returns c =
    let a = adds_then c.put_answers.ensures c.put_rest.ensures in
    (puts_as (shown_answers _ _ (omega (arith, c.if-b-lt-ROOM.false)) c.in-Ok.ensures refl (omega (arith, c.if-size-gt-LONGEST.false)) a.puts) (search (rules, a.same)), omega (arith, c.if-b-lt-ROOM.false, a.within))
