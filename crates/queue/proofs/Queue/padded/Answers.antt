-- The places before where the loop stands hold zero.
use Rattle.std.proofs.Common.{rules, arith, ap, length}
use Rattle.queue.proofs.Turns.{pads_all, pads_more, pads_none}
use Rattle.queue.proofs.Queue.padded.Goals as goal

pub loop-item-init : goal.loop-item-init
loop-item-init c = pads_none c.args.self.now _ (search rules) (ap length c.entries.ensures)

pub loop-item-preserved : goal.loop-item-preserved
loop-item-preserved c = pads_more c.args.self.now _ (search rules) (ap length c.entries.ensures) c.loop-item.item-index _ (omega arith) c.loop-item.invariant

pub returns : goal.returns
returns c = pads_all c.args.self.now _ (search rules) (ap length c.entries.ensures) c.loop-item.item-index _ (omega arith) c.loop-item.invariant
