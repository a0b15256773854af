-- The word, the address, the bytes, the line's end.
use Rattle.memory_text.specs.Memory.{row_line}
use Rattle.text.proofs.Adds.{adds_then}
use Rattle.memory_text.proofs.rows.put_row_line.Goals as goal

pub returns : goal.returns
unfolding row_line
returns c = adds_then c.put_word.ensures (adds_then c.put_address.ensures (adds_then (rw c.requires.0 at c.put_bytes.ensures) c.put_byte.ensures))
