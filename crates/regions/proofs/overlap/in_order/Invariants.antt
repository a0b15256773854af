-- The regions below `k` are in order.
use Prim.Native.Nat.{◌+◌}
use Rattle.basis.specs.Count.{every}
use Rattle.regions.specs.Beside.{follows}
use Rattle.regions.specs.Rules.{last_at, start_at}
use mathlib.Core.Path.{◌≡◌}
use Rattle.regions.proofs.overlap.in_order.Given as goal

abbrev pub invariant-loop-k : goal.invariant-loop-k
invariant-loop-k l = l.ok ≡ every (λ j. follows (start_at l.r j) (last_at l.r j) (start_at l.r (j + 1)) (last_at l.r (j + 1))) l.k
