-- The regions below `k` are tested.
use Rattle.basis.specs.Count.{every}
use Rattle.regions.specs.Rules.{known, permission_at}
use mathlib.Core.Path.{◌≡◌}
use Rattle.regions.proofs.rules.permissions_fit.Given as goal

abbrev pub invariant-loop-k : goal.invariant-loop-k
invariant-loop-k l = l.ok ≡ every (λ j. known (permission_at l.r j)) l.k
