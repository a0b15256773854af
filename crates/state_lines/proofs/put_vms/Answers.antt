-- The VMs below `k` are put.
use mathlib.Core.Path.{◌≡◌}
use native.Mathlib.Omega.{arith}
use Rattle.lines.proofs.Texts.{joined_more, joined_none}
use Rattle.state_lines.specs.State.{vms_text}
use Rattle.state_lines.proofs.put_vms.Goals as goal

pub loop-k-init : goal.loop-k-init
loop-k-init c = joined_none _ 146 _

pub loop-k-preserved : goal.loop-k-preserved
loop-k-preserved c = joined_more _ 146 c.loop-k.invariant c.put_vm.ensures

pub returns : goal.returns
unfolding vms_text
returns c = let e : c.loop-k.k ≡ 8 = omega arith in rw e at c.loop-k.invariant
