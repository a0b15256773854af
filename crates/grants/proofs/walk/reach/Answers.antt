-- From `k` on no region grants the byte.
use Prim.Native.Nat.{◌-◌}
use mathlib.Core.Path.{sym, ◌∙◌}
use native.Mathlib.Omega.{arith}
use Rattle.grants.proofs.Reaching.{reach_end, reach_hit, reach_pass, reached_far, reached_nowhere}
use Rattle.grants.proofs.walk.reach.Goals as goal

pub returns-then-allows : goal.returns-then-allows
returns-then-allows c = reached_far _ _ (reach_hit _ _ _ _ _ (c.loop-k.k - 1) _ _ c.loop-k.invariant (omega arith) (sym (rw c.at-region.ensures at c.allows.ensures) ∙ c.if-allows.true) (rw (c.from.ensures, c.at-region.ensures))) (λ e. omega arith)

pub loop-k-preserved : goal.loop-k-preserved
loop-k-preserved c = reach_pass _ _ _ _ _ (c.loop-k.k - 1) _ c.loop-k.invariant (omega arith) (sym (rw c.at-region.ensures at c.allows.ensures) ∙ c.if-allows.false)

pub returns : goal.returns
returns c = reached_nowhere _ (reach_end _ _ _ _ _ _ c.loop-k.invariant (omega arith))
