-- The standings below `k` are tested.
use mathlib.Core.Path.{refl}
use native.Mathlib.Omega.{arith}
use Rattle.basis.proofs.Laws.{every_end, fault_more}
use Rattle.basis.specs.Count.{every}
use Rattle.checks.specs.Standings.{none_in}
use Rattle.checks.proofs.sound.none_ready.Goals as goal

pub loop-k-init : goal.loop-k-init
unfolding every
loop-k-init c = (omega arith, refl)

pub loop-k-preserved : goal.loop-k-preserved
loop-k-preserved c = (omega arith, fault_more _ c.loop-k.k _ c.loop-k.bits _ c.loop-k.invariant.1 c.fault-bits.ensures refl)

pub returns : goal.returns
unfolding none_in
returns c = every_end _ _ _ _ c.loop-k.invariant.1 (omega arith)
