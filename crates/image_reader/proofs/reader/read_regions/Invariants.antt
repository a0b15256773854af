-- What is still to be read gives what the whole gives (`Read`).
use Rattle.image_reader.proofs.RegionTurns.{Read}
use Rattle.image_reader.proofs.reader.read_regions.Given as goal

abbrev pub invariant-loop-n : goal.invariant-loop-n
invariant-loop-n l = Read l.s l.from l.vms l.regions l.at l.n
