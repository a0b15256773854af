-- The bytes so far are put.
use Prim.Native.Nat.{◌*◌}
use Rattle.lines.specs.Text.{bytes_text}
use Rattle.text.specs.Adds.{Adds}
use Rattle.lines.proofs.hex.put_bytes.Given as goal

abbrev pub invariant-loop-byte : goal.invariant-loop-byte
invariant-loop-byte l = Adds (bytes_text l.bytes l.byte-index) (l.byte-index * 2) l.initial.page l.page
