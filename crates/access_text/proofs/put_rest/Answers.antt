-- Nothing, or the number of the record that is cut.
use Rattle.access_text.proofs.Answering.{rest_cut, rest_none}
use Rattle.access_text.proofs.put_rest.Goals as goal

pub returns-then-size-ne0 : goal.returns-then-size-ne0
returns-then-size-ne0 c = rest_cut _ c.if-size-ne0.true c.put_cut.ensures

pub returns-else-size-ne0 : goal.returns-else-size-ne0
returns-else-size-ne0 c = rest_none _ _ c.if-size-ne0.false
