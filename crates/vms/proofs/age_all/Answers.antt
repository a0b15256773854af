-- The VMs below `i` are older.
use Rattle.std.proofs.Common.{arith, refl}
use Rattle.vms.proofs.Laws.{each_end, each_more, each_none}
use Rattle.vms.proofs.age_all.Goals as goal

pub loop-i-init : goal.loop-i-init
loop-i-init c = each_none _ _

pub loop-i-preserved : goal.loop-i-preserved
loop-i-preserved c = each_more _ _ _ _ _ c.loop-i.invariant (rw c.older.ensures refl)

pub returns : goal.returns
returns c = each_end _ _ _ _ _ c.told-vms c.loop-i.invariant (omega (arith, c.at_most_8-i-end.ensures))
