-- What is due is the highest of the numbers where the walk stands and below.
use Rattle.std.proofs.Common.{◌≡◌, ◌≤◌}
use Rattle.guest.specs.Deliver.{due}
use Rattle.guest.proofs.Laws.{due_to}
use Rattle.guest.proofs.bits.due.Given as goal

abbrev pub invariant-loop-status : goal.invariant-loop-status
invariant-loop-status l = (l.n ≤ 31) × (due l.status ≡ due_to l.status l.n)

abbrev pub decreases-loop-status : goal.decreases-loop-status
decreases-loop-status l = l.n
