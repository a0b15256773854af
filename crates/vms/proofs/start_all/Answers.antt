-- The VMs below `k` are started.
use Rattle.std.proofs.Common.{arith}
use Rattle.vms.proofs.Laws.{each_end, each_more, each_none}
use Rattle.vms.proofs.start_all.Goals as goal

pub loop-k-init : goal.loop-k-init
loop-k-init c = each_none _ _

pub loop-k-preserved : goal.loop-k-preserved
loop-k-preserved c = each_more _ _ _ _ _ c.loop-k.invariant (rw c.started.ensures)

pub returns : goal.returns
returns c = each_end _ _ _ _ _ c.told-vms c.loop-k.invariant (omega (arith, c.at_most_8-k-end.ensures))
