-- The bits that are set are the numbers named below `k`.
use Rattle.std.proofs.Common.{◌≡◌, ℕ, ◌-◌, ◌%◌, ◌≤◌, eqb, get_or}
use Rattle.basis.specs.Bits.{bit}
use Rattle.basis.specs.Count.{some}
use Rattle.config.proofs.places.served_short.Given as goal

abbrev pub invariant-loop-k : goal.invariant-loop-k
invariant-loop-k l = (l.k ≤ l.n) × ((v : ℕ) → bit v l.seen ≡ some (λ j. eqb (get_or l.owners j 0 % 64) v) l.k)

abbrev pub decreases-loop-k : goal.decreases-loop-k
decreases-loop-k l = l.n - l.k
