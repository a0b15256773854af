-- No bytes, past the end of the space, or the walk.
use Rattle.grants.proofs.Reaching.{allowed_none, allowed_past, allowed_walked}
use borrow.Author.Rules.{rules}
use Rattle.grants.proofs.walk.allowed.Goals as goal

pub returns-then-length-eq0 : goal.returns-then-length-eq0
returns-then-length-eq0 c = search (rules, allowed_none)

pub returns-then-end-gt4294967296 : goal.returns-then-end-gt4294967296
returns-then-end-gt4294967296 c = search (rules, allowed_past)

pub returns : goal.returns
returns c = search (rules, allowed_walked)
