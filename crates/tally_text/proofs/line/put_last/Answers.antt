-- A word and a number, twice.
use Rattle.tally_text.specs.Report.{last_text}
use Rattle.text.proofs.Adds.{adds_then}
use Rattle.tally_text.proofs.line.put_last.Goals as goal

pub returns : goal.returns
unfolding last_text
returns c = adds_then (adds_then c.put_word.ensures c.put_number.ensures) (adds_then c.put_word-2.ensures c.put_number-2.ensures)
