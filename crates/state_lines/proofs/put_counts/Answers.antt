-- The word, the counts, the line's end.
use Rattle.state_lines.specs.State.{counts_text}
use Rattle.text.proofs.Adds.{adds_then}
use Rattle.state_lines.proofs.put_counts.Goals as goal

pub returns : goal.returns
unfolding counts_text
returns c = adds_then c.put_word.ensures (adds_then c.put_items.ensures c.put_byte.ensures)
