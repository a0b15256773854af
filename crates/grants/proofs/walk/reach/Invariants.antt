-- From `k` on no region grants the byte.
use mathlib.Core.Path.{◌≡◌}
use Rattle.grants.specs.Cover.{reach}
use Rattle.grants.proofs.walk.reach.Given as goal

abbrev pub invariant-loop-k : goal.invariant-loop-k
invariant-loop-k l = reach l.r l.v l.way l.at l.k ≡ reach l.r l.v l.way l.at l.r.count
