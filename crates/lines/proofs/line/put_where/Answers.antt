-- One or the other.
use Rattle.lines.proofs.Texts.{where_none, where_some}
use Rattle.lines.proofs.line.put_where.Goals as goal

pub returns-then-running-eq-NOBODY : goal.returns-then-running-eq-NOBODY
returns-then-running-eq-NOBODY c = where_none _ _ c.if-running-eq-NOBODY.true c.put_mark.ensures

pub returns : goal.returns
returns c = where_some _ _ c.if-running-eq-NOBODY.false c.put_address.ensures
