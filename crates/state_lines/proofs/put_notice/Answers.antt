-- The word and three numbers.
use Rattle.state_lines.specs.State.{notice_text}
use Rattle.text.proofs.Adds.{adds_then}
use Rattle.state_lines.proofs.put_notice.Goals as goal

pub returns : goal.returns
unfolding notice_text
returns c = adds_then c.put_word.ensures (adds_then c.put_two.ensures c.put_number.ensures)
