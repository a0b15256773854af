-- Two pairs of numbers.
use Rattle.tally_text.specs.Report.{row_text}
use Rattle.text.proofs.Adds.{adds_then}
use Rattle.tally_text.proofs.line.put_row.Goals as goal

pub returns : goal.returns
unfolding row_text
returns c = adds_then c.put_two.ensures c.put_two-2.ensures
