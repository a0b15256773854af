-- The regions below `k` are tested.
use Rattle.basis.specs.Count.{every}
use Rattle.regions.specs.Rules.{holder_at}
use lib.Dec.{ltb}
use mathlib.Core.Path.{◌≡◌}
use Rattle.regions.proofs.rules.holders_fit.Given as goal

abbrev pub invariant-loop-k : goal.invariant-loop-k
invariant-loop-k l = l.ok ≡ every (λ j. ltb (holder_at l.r j) l.vms) l.k
