-- The regions below `k` are tested.
use Rattle.basis.specs.Count.{every}
use Rattle.regions.specs.Beside.{agrees}
use Rattle.regions.specs.Rules.{holder_at, last_at, permission_at, start_at}
use mathlib.Core.Path.{◌≡◌}
use Rattle.regions.proofs.overlap.agrees_each.Given as goal

abbrev pub invariant-loop-k : goal.invariant-loop-k
invariant-loop-k l = l.ok ≡ every (λ j. agrees l.region.permission l.region.holder l.region.start l.region.last (permission_at l.r j) (holder_at l.r j) (start_at l.r j) (last_at l.r j)) l.k
