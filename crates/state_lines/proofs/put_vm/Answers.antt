-- The parts of a VM's line.
use Rattle.state_lines.specs.State.{vm_text}
use Rattle.text.proofs.Adds.{adds_then}
use Rattle.state_lines.proofs.put_vm.Goals as goal

pub returns : goal.returns
unfolding vm_text
returns c = adds_then c.put_word.ensures (adds_then c.put_two.ensures (adds_then c.put_address.ensures (adds_then c.put_fields.ensures c.put_two-2.ensures)))
