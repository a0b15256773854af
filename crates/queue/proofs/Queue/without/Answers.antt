-- The queue is shorter by the entries that left it.
use Rattle.std.proofs.Common.{refl, ap, length}
use Rattle.queue.proofs.Turns.{removal_is, removed_few}
use Rattle.queue.proofs.Queue.without.Goals as goal

pub overflow_sub-count : goal.overflow_sub-count
overflow_sub-count c = removed_few c.args.v c.args.self c.others-rest.result _ (ap length c.entries.ensures) c.others-rest.ensures

pub returns : goal.returns
returns c = removal_is c.args.v c.args.self c.others-rest.result _ (ap length c.entries.ensures) c.others-rest.ensures _ refl
