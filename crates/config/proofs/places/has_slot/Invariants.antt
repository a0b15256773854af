-- No slot below `k` names the VM.
use Rattle.std.proofs.Common.{◌≡◌, ◌-◌, ◌≤◌, false, eqb, get_or}
use Rattle.basis.specs.Count.{some}
use Rattle.config.proofs.places.has_slot.Given as goal

abbrev pub invariant-loop-k : goal.invariant-loop-k
invariant-loop-k l = (l.k ≤ l.n) × (false ≡ some (λ j. eqb (get_or l.owners j 0) l.v) l.k)

abbrev pub decreases-loop-k : goal.decreases-loop-k
decreases-loop-k l = l.n - l.k
