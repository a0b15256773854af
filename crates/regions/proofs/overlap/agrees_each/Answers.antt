-- The regions below `k` are tested.
use Rattle.basis.proofs.Laws.{every_turn}
use Rattle.regions.proofs.overlap.agrees_each.Goals as goal

pub loop-k-preserved : goal.loop-k-preserved
loop-k-preserved c = every_turn _ _ _ _ c.loop-k.invariant (rw c.at.ensures at c.agrees-ok.ensures)
