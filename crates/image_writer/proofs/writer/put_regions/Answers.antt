-- The first `k` region records are put.
use mathlib.Core.Path.{refl}
use Rattle.basis.proofs.Buffer.{records_more, records_none}
use Rattle.image_writer.proofs.writer.put_regions.Goals as goal

pub loop-k-init : goal.loop-k-init
loop-k-init c = records_none _ 11 (λ j. refl) _ _

pub loop-k-preserved : goal.loop-k-preserved
loop-k-preserved c = records_more _ 11 (λ j. refl) _ _ _ _ _ _ c.loop-k.invariant refl c.put_region.ensures
