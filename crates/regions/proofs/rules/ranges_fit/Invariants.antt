-- The regions below `k` are tested.
use Rattle.basis.specs.Count.{every}
use Rattle.regions.specs.Rules.{last_at, start_at}
use lib.Dec.{leb}
use mathlib.Core.Path.{◌≡◌}
use Rattle.regions.proofs.rules.ranges_fit.Given as goal

abbrev pub invariant-loop-k : goal.invariant-loop-k
invariant-loop-k l = l.ok ≡ every (λ j. leb (start_at l.r j) (last_at l.r j)) l.k
