-- What is still to be read gives what the whole gives (`Slots`).
use Rattle.image_reader.proofs.Turns.{Slots}
use Rattle.image_reader.proofs.reader.read_slots.Given as goal

abbrev pub invariant-loop-n : goal.invariant-loop-n
invariant-loop-n l = Slots l.s l.from l.initial.c l.c l.at l.n
