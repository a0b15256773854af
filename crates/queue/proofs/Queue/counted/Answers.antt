-- The counts are those that the entries have.
use Rattle.std.proofs.Common.{rules}
use Rattle.queue.proofs.Counted.{counted_test}
use Rattle.queue.proofs.Queue.counted.Goals as goal

pub returns : goal.returns
returns c = counted_test c.args.self.now c.counts_of.result c.eq.result (search rules) (search rules) (rw (← c.entries.ensures) c.counts_of.ensures) c.eq.ensures
