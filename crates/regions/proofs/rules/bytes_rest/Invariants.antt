-- The bytes of the places from `n` on, below `k`, are joined.
use Rattle.basis.specs.Bounds.{empty_past}
use Rattle.basis.specs.Count.{every}
use Rattle.regions.specs.Rules.{holder_at, permission_at}
use lib.Dec.{eqb}
use mathlib.Core.Path.{◌≡◌}
use Rattle.regions.proofs.rules.bytes_rest.Given as goal

abbrev pub invariant-loop-k : goal.invariant-loop-k
invariant-loop-k l = eqb l.bits 0 ≡ every (λ j. empty_past l.n j (holder_at l.r j) (permission_at l.r j)) l.k
