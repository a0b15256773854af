-- Ten addresses.
use Rattle.state_lines.specs.State.{fields_text, five_text}
use Rattle.text.proofs.Adds.{adds_then}
use Rattle.state_lines.proofs.put_fields.Goals as goal

pub returns : goal.returns
unfolding fields_text five_text
returns c = adds_then (adds_then c.put_address.ensures (adds_then c.put_address-2.ensures (adds_then c.put_address-3.ensures (adds_then c.put_address-4.ensures c.put_address-5.ensures)))) (adds_then c.put_address-6.ensures (adds_then c.put_address-7.ensures (adds_then c.put_address-8.ensures (adds_then c.put_address-9.ensures c.put_address-10.ensures))))
