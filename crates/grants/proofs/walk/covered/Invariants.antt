-- Every byte from the first on, below `at`, is granted.
use Prim.Native.Nat.{◌-◌, ◌≤◌}
use Rattle.grants.proofs.Reaching.{Walked}
use Rattle.grants.proofs.walk.covered.Given as goal

abbrev pub invariant-loop-at : goal.invariant-loop-at
invariant-loop-at l = (l.from ≤ l.at) × Walked l.r l.v l.way l.from l.at

abbrev pub decreases-loop-at : goal.decreases-loop-at
decreases-loop-at l = l.end - l.at
