-- The addresses of the places from `n` on, below `k`, are joined.
use Rattle.basis.specs.Bounds.{empty_past}
use Rattle.basis.specs.Count.{every}
use Rattle.regions.specs.Rules.{last_at, start_at}
use lib.Dec.{eqb}
use mathlib.Core.Path.{◌≡◌}
use Rattle.regions.proofs.rules.words_rest.Given as goal

abbrev pub invariant-loop-k : goal.invariant-loop-k
invariant-loop-k l = eqb l.bits 0 ≡ every (λ j. empty_past l.n j (start_at l.r j) (last_at l.r j)) l.k
