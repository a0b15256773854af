-- Three parts, one behind the other.
use Rattle.lines.specs.Text.{runs_text}
use Rattle.text.proofs.Adds.{adds_then}
use Rattle.lines.proofs.line.put_runs.Goals as goal

pub returns : goal.returns
unfolding runs_text
returns c = adds_then c.put_choice.ensures (adds_then c.put_where.ensures c.put_choice-2.ensures)
