-- The word and two numbers.
use Rattle.lines.specs.Text.{refused_text}
use Rattle.text.proofs.Adds.{adds_then}
use Rattle.lines.proofs.line.put_refused.Goals as goal

pub returns : goal.returns
unfolding refused_text
returns c = adds_then c.put_word.ensures c.put_two.ensures
