-- The VMs' lines, and then the last two.
use Rattle.tally_text.specs.Shown.{tally_text}
use Rattle.text.proofs.Adds.{adds_then}
use Rattle.tally_text.proofs.line.put_tally.Goals as goal

pub returns : goal.returns
unfolding tally_text
returns c = adds_then c.put_rows.ensures c.put_last.ensures
