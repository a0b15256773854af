-- The word and the number.
use Rattle.lines.specs.Text.{cut_text}
use Rattle.text.proofs.Adds.{adds_then}
use Rattle.lines.proofs.line.put_cut.Goals as goal

pub returns : goal.returns
unfolding cut_text
returns c = adds_then c.put_word.ensures c.put_number.ensures
