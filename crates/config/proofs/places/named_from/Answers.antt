-- The bits that are set are the numbers named below `k` by slots in use.
use Rattle.std.proofs.Common.{refl, arith}
use Rattle.config.proofs.Walks.{named_begins, named_end, named_more}
use Rattle.config.proofs.places.named_from.Goals as goal

pub loop-k-init : goal.loop-k-init
loop-k-init c = (omega arith, named_begins c.args.first c.args.slots c.args.owners.now)

pub loop-k-preserved : goal.loop-k-preserved
loop-k-preserved c = (omega arith, named_more c.args.places.now c.args.owners.now _ _ c.loop-k.k c.loop-k.seen _ _ c.requires.2 (omega arith) c.loop-k.invariant.1 c.named_by-seen.ensures refl)

pub returns : goal.returns
returns c = named_end c.args.first c.args.slots c.loop-k.k c.loop-k.seen c.args.owners.now c.loop-k.invariant.1 (omega arith) (omega arith)
