-- The regions below `k` are clear.
use Rattle.basis.specs.Count.{every}
use Rattle.regions.specs.Beside.{clear}
use Rattle.regions.specs.Rules.{last_at, start_at}
use mathlib.Core.Path.{◌≡◌}
use Rattle.regions.proofs.overlap.clear_of_all.Given as goal

abbrev pub invariant-loop-k : goal.invariant-loop-k
invariant-loop-k l = l.ok ≡ every (λ j. clear l.region.start l.region.last (start_at l.r j) (last_at l.r j)) l.k
