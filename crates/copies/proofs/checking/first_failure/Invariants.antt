-- Nothing fails in the extents below `k`.
use lib.ListN.{take}
use mathlib.Core.Path.{◌≡◌}
use Rattle.copies.specs.Failing.{extent_failure, fine, first_failure, may}
use Rattle.copies.proofs.checking.first_failure.Given as goal

abbrev pub invariant-loop-k : goal.invariant-loop-k
invariant-loop-k l = first_failure (extent_failure (may l.regions l.v) l.w) (take l.k l.extents) ≡ fine
