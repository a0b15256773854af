-- The regions below `i` agree with all.
use mathlib.Core.Path.{sym, ◌∙◌}
use native.Mathlib.Omega.{arith}
use Rattle.basis.proofs.Laws.{every_end, every_miss}
use Rattle.regions.specs.Rules.{all_agree}
use Rattle.regions.proofs.overlap.each_agrees.Goals as goal

pub returns-then-not-one_agrees : goal.returns-then-not-one_agrees
unfolding all_agree
returns-then-not-one_agrees c = every_miss _ _ c.loop-i.i (omega arith) (rw c.at.ensures at (sym c.one_agrees.ensures ∙ c.if-not-one_agrees.true))

pub returns : goal.returns
unfolding all_agree
returns c = every_end _ _ _ _ c.loop-i.invariant (omega arith)
