-- The bytes so far are put.
use Rattle.lines.proofs.Texts.{joined_more, joined_none}
use Rattle.lines.specs.Text.{bytes_text}
use Rattle.lines.proofs.hex.put_bytes.Goals as goal

pub loop-byte-init : goal.loop-byte-init
unfolding bytes_text
loop-byte-init c = joined_none _ 2 _

pub loop-byte-preserved : goal.loop-byte-preserved
unfolding bytes_text
loop-byte-preserved c = joined_more _ 2 c.loop-byte.invariant c.put_hex_byte.ensures
