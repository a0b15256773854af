-- What is still to be read gives what the whole gives (`Slots`).
use borrow.Author.Rules.{rules}
use native.Mathlib.Omega.{arith}
use mathlib.Core.Path.{◌≡◌, refl}
use Rattle.std.proofs.lemmas.Grind.{common_steps}
use Rattle.image_reader.specs.Reader.{reading_of, refused}
use Rattle.image_reader.specs.Faults.{fault_of}
use Rattle.image_reader.proofs.Turns.{slots_none, turn_bad, turn_end, turn_more, turn_room}
use Rattle.image_reader.proofs.reader.read_slots.Goals as goal

pub returns-then-at-eq4 : goal.returns-then-at-eq4
returns-then-at-eq4 c = turn_end c.loop-n.invariant c.loop-n-test.true c.at.ensures c.if-at-eq4.true c.read_end.ensures

pub returns-in_err-map_err : goal.returns-in_err-map_err
returns-in_err-map_err c =
    let told : reading_of c.from_residual.result ≡ refused (fault_of c.check_slot.result) c.loop-n.at = search rules in
    turn_bad c.loop-n.invariant c.loop-n-test.true c.at.ensures c.if-at-eq4.false c.check_slot.ensures (λ z. grind (arith, common_steps)) told

pub bounds-c-n : goal.bounds-c-n
bounds-c-n c =
    let none : fault_of c.check_slot.result ≡ 0 = search rules in
    turn_room c.loop-n.invariant c.loop-n-test.true c.check_slot.ensures none

pub bounds-c-n-in-loop-n : goal.bounds-c-n-in-loop-n
bounds-c-n-in-loop-n c =
    let none : fault_of c.check_slot.result ≡ 0 = search rules in
    turn_room c.loop-n.invariant c.loop-n-test.true c.check_slot.ensures none

pub loop-n-preserved : goal.loop-n-preserved
loop-n-preserved c =
    let none : fault_of c.check_slot.result ≡ 0 = search rules in
    turn_more c.loop-n.invariant c.loop-n-test.true c.at.ensures c.if-at-eq4.false c.check_slot.ensures none c.at-in-loop-n.ensures c.half.ensures (rw c.loop-n.invariant.counted)

pub returns : goal.returns
returns c = slots_none c.loop-n.invariant c.loop-n-test.false (rw c.at-2.ensures refl)
