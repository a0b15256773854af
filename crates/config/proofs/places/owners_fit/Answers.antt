-- The places below `k` are tested.
use Rattle.std.proofs.Common.{get_or, refl, arith}
use Rattle.basis.specs.Count.{every}
use Rattle.config.proofs.Walks.{owner_turn}
use Rattle.config.proofs.places.owners_fit.Goals as goal

pub loop-k-init : goal.loop-k-init
unfolding every
loop-k-init c = (omega arith, refl)

pub loop-k-preserved : goal.loop-k-preserved
loop-k-preserved c = (omega arith, owner_turn c.args.places.now _ c.loop-k.k (get_or c.args.owners.now c.loop-k.k 0) _ c.loop-k.bits _ _ c.requires.1 (omega arith) c.loop-k.invariant.1 refl _ _ (omega arith) refl refl c.owner_fault-bits.ensures)
