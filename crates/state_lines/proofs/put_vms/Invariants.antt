-- The VMs below `k` are put.
use Prim.Native.Nat.{◌*◌}
use Rattle.basis.specs.Count.{joined}
use Rattle.guest.specs.Record.{fresh}
use Rattle.state_lines.specs.State.{vm_text}
use Rattle.text.specs.Adds.{Adds}
use lib.ListN.{get_or}
use Rattle.state_lines.proofs.put_vms.Given as goal

abbrev pub invariant-loop-k : goal.invariant-loop-k
invariant-loop-k l = Adds (joined (λ j. vm_text j (get_or l.vms j fresh)) l.k) (l.k * 146) l.initial.page l.page
