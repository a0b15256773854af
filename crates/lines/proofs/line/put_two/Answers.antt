-- Two numbers.
use Rattle.text.proofs.Adds.{adds_then}
use Rattle.lines.proofs.line.put_two.Goals as goal

pub returns : goal.returns
returns c = adds_then c.put_number.ensures c.put_number-2.ensures
