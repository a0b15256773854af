-- One byte, then the other.
use Rattle.text.proofs.Adds.{adds_then}
use Rattle.text.proofs.page.Page.put_mark.Goals as goal

pub returns : goal.returns
returns c = adds_then c.put_byte.ensures c.put_byte-2.ensures
