-- What is still to be read gives what the whole gives (`Vms`).
use Rattle.image_reader.proofs.Turns.{Vms}
use Rattle.image_reader.proofs.reader.read_vms.Given as goal

abbrev pub invariant-loop-k : goal.invariant-loop-k
invariant-loop-k l = Vms l.s l.fn.core l.c l.at l.k
