-- The digits, then the byte.
use Rattle.text.proofs.Adds.{adds_then}
use Rattle.text.proofs.page.Page.put_address.Goals as goal

pub returns : goal.returns
returns c = adds_then c.put_hex8.ensures c.put_byte.ensures
