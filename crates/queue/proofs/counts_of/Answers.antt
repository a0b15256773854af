-- The loop has counted the entries before where it stands.
use Rattle.std.proofs.Common.{refl}
use Rattle.queue.proofs.Counted.{counts_more, counts_none, counts_past}
use Rattle.queue.proofs.counts_of.Goals.{then-i-lt8, else-i-lt8}
use Rattle.queue.proofs.counts_of.Goals as goal

pub loop-v-init : goal.loop-v-init
loop-v-init c = (refl, counts_none)

pub loop-v-preserved : goal.loop-v-preserved
loop-v-preserved c = let l = c.loop-v in
    elim c.if-i-lt8.branch [
      | then-i-lt8 w ↦ counts_more c.args.entries.now l.counts l.v-index c.requires c.loop-v-test.true l.invariant.0 l.invariant.1 _ _ refl w.counts-is
      | else-i-lt8 w ↦ counts_past c.args.entries.now l.counts l.v-index c.requires c.loop-v-test.true l.invariant.0 l.invariant.1 _ w.if-i-lt8.false w.counts-is
    ]
