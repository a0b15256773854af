-- The eight parts.
use Rattle.lines.specs.Text.{line_text}
use Rattle.text.proofs.Adds.{adds_then}
use Rattle.lines.proofs.line.put_line.Goals as goal

pub returns : goal.returns
unfolding line_text
returns c = adds_then c.put_two.ensures (adds_then c.put_runs.ensures (adds_then c.put_two-2.ensures c.put_number.ensures))
