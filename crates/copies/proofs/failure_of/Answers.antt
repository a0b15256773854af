-- Too many extents are told first; else the first failure of those in use.
use Rattle.copies.proofs.Requests.{request_is, request_long}
use Rattle.copies.proofs.failure_of.Goals as goal

pub returns-then-p-gt-MOST : goal.returns-then-p-gt-MOST
returns-then-p-gt-MOST c = request_long _ _ _ _ c.if-p-gt-MOST.true c.from.ensures

pub returns : goal.returns
returns c = request_is _ _ _ _ _ c.if-p-gt-MOST.false c.extents.ensures c.first_failure.ensures
