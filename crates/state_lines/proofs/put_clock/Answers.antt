-- The word, four numbers and the VM.
use Rattle.state_lines.specs.State.{clock_text}
use Rattle.text.proofs.Adds.{adds_then}
use Rattle.state_lines.proofs.put_clock.Goals as goal

pub returns : goal.returns
unfolding clock_text
returns c = adds_then c.put_word.ensures (adds_then c.put_two.ensures (adds_then c.put_two-2.ensures c.put_choice.ensures))
