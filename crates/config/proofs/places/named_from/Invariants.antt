-- The bits that are set are the numbers named below `k` by slots in use.
use Rattle.std.proofs.Common.{◌≡◌, ℕ, ◌+◌, ◌-◌, ◌<◌, ◌≤◌, eqb, ltb, get_or}
use Rattle.basis.specs.Bits.{bit}
use Rattle.basis.specs.Choice.{both}
use Rattle.basis.specs.Count.{some}
use Rattle.config.proofs.places.named_from.Given as goal

abbrev pub invariant-loop-k : goal.invariant-loop-k
invariant-loop-k l = (l.k ≤ 64) × ((v : ℕ) → v < 4 → bit v l.seen ≡ some (λ j. both (ltb j l.slots) (eqb (get_or l.owners j 0) (l.first + v))) l.k)

abbrev pub decreases-loop-k : goal.decreases-loop-k
decreases-loop-k l = 64 - l.k
