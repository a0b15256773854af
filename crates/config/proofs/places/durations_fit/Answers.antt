-- The places below `k` are tested.
use Rattle.std.proofs.Common.{get_or, refl, arith}
use Rattle.basis.specs.Count.{every}
use Rattle.config.proofs.Walks.{ticks_turn}
use Rattle.config.proofs.places.durations_fit.Goals as goal

pub loop-k-init : goal.loop-k-init
unfolding every
loop-k-init c = (omega arith, refl)

pub loop-k-preserved : goal.loop-k-preserved
loop-k-preserved c = (omega arith, ticks_turn c.args.places.now _ c.loop-k.k (get_or c.args.owners.now c.loop-k.k 0) _ c.loop-k.bits _ _ c.requires (omega arith) c.loop-k.invariant.1 refl (get_or c.args.durations.now c.loop-k.k 0) refl c.ticks_fault-bits.ensures)
