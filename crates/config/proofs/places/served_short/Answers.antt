-- The bits that are set are the numbers named below `k`.
use Rattle.std.proofs.Common.{◌%◌, get_or, refl, arith}
use Rattle.config.proofs.Walks.{seen_more, seen_none}
use Rattle.config.proofs.places.served_short.Goals as goal

pub loop-k-init : goal.loop-k-init
loop-k-init c = (omega arith, λ v. seen_none _ v)

pub loop-k-preserved : goal.loop-k-preserved
loop-k-preserved c = (omega arith, λ v. seen_more (λ j. get_or c.args.owners.now j 0 % 64) v c.loop-k.k c.loop-k.seen _ _ (c.loop-k.invariant.1 v) c.power-seen.ensures refl)
