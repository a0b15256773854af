-- The regions below `k` are counted.
use mathlib.Core.Path.{refl}
use native.Mathlib.Omega.{arith}
use Rattle.basis.proofs.Laws.{byte_most, count_next, count_none}
use Rattle.regions.specs.Rules.{held}
use Rattle.regions.proofs.rules.held.Goals as goal

pub loop-k-init : goal.loop-k-init
unfolding held
loop-k-init c = (count_none _ _ refl, omega arith)

pub loop-k-preserved : goal.loop-k-preserved
unfolding held
loop-k-preserved c = (count_next _ _ _ _ c.loop-k.invariant.0 c.from-m.ensures, omega (arith, byte_most))
