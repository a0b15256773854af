-- The loop has joined the places below `k` that are past the count.
use Rattle.std.proofs.Common.{get_or, refl, arith}
use Rattle.basis.proofs.Bounds.{past_more}
use Rattle.basis.specs.Count.{every}
use Rattle.config.proofs.places.vms_rest.Goals as goal

pub loop-k-init : goal.loop-k-init
unfolding every
loop-k-init c = (omega arith, refl)

pub loop-k-preserved : goal.loop-k-preserved
loop-k-preserved c = (omega arith, past_more _ _ _ (get_or c.args.entries.now c.loop-k.k 0) (get_or c.args.handlers.now c.loop-k.k 0) _ c.loop-k.bits _ refl c.loop-k.invariant.1 c.past-bits.ensures refl)
