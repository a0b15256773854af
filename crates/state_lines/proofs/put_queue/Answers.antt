-- The word, the entries, the line's end.
use native.Mathlib.Omega.{arith}
use Rattle.state_lines.specs.State.{queue_text}
use Rattle.text.proofs.Adds.{adds_most, adds_then}
use Rattle.state_lines.proofs.put_queue.Goals as goal

pub returns : goal.returns
unfolding queue_text
returns c = rw (← c.min-n.ensures) (adds_most (adds_then c.put_word.ensures (adds_then c.put_items.ensures c.put_byte.ensures)) (omega (arith, c.min-n.ensures)))
