-- The entries below `k` are tested.
use native.Mathlib.Omega.{arith}
use Rattle.basis.proofs.Laws.{every_more, turns}
use Rattle.checks.proofs.sound.entries_ready.Goals as goal

pub loop-k-init : goal.loop-k-init
loop-k-init c = search turns

pub loop-k-preserved : goal.loop-k-preserved
loop-k-preserved c = (omega arith, every_more _ _ _ _ c.loop-k.invariant.1 (rw c.is_ready.ensures at c.both-ok.ensures))
