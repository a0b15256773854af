-- The places below `k` are tested.
use Rattle.std.proofs.Common.{◌≡◌, ◌-◌, ◌≤◌, eqb, get_or}
use Rattle.basis.specs.Count.{every}
use Rattle.config.specs.Places.{owner_fits}
use Rattle.config.proofs.places.owners_fit.Given as goal

abbrev pub invariant-loop-k : goal.invariant-loop-k
invariant-loop-k l = (l.k ≤ 64) × (eqb l.bits 0 ≡ every (λ j. owner_fits l.count l.slots j (get_or l.owners j 0)) l.k)

abbrev pub decreases-loop-k : goal.decreases-loop-k
decreases-loop-k l = 64 - l.k
