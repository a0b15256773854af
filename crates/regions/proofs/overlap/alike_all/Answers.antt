-- The regions below `k` are tested.
use Rattle.basis.proofs.Laws.{every_turn}
use Rattle.regions.specs.Rules.{alike_all}
use Rattle.regions.proofs.overlap.alike_all.Goals as goal

pub loop-k-preserved : goal.loop-k-preserved
unfolding alike_all
loop-k-preserved c = every_turn _ _ _ _ c.loop-k.invariant (rw c.at.ensures at c.is_alike-ok.ensures)
