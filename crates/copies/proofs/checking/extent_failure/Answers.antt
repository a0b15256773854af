-- Each way is the one that the definition picks.
use Rattle.copies.proofs.Failing.{extent_destination, extent_good, extent_long, extent_none, extent_source}
use Rattle.copies.proofs.checking.extent_failure.Goals as goal

pub returns-then-x-eq0 : goal.returns-then-x-eq0
returns-then-x-eq0 c = extent_none _ _ _ c.if-x-eq0.true

pub returns-then-x-gt-LONGEST : goal.returns-then-x-gt-LONGEST
returns-then-x-gt-LONGEST c = extent_long _ _ _ c.if-x-eq0.false c.if-x-gt-LONGEST.true

pub returns-then-not-reaches : goal.returns-then-not-reaches
returns-then-not-reaches c = extent_source _ _ _ _ c.if-x-eq0.false c.if-x-gt-LONGEST.false c.reaches.ensures c.if-not-reaches.true

pub returns-then-not-reaches-2 : goal.returns-then-not-reaches-2
returns-then-not-reaches-2 c = extent_destination _ _ _ _ c.if-x-eq0.false c.if-x-gt-LONGEST.false c.reaches.ensures _ c.reaches-2.ensures c.if-not-reaches.false c.if-not-reaches-2.true

pub returns : goal.returns
returns c = extent_good _ _ _ _ c.if-x-eq0.false c.if-x-gt-LONGEST.false c.reaches.ensures _ c.reaches-2.ensures c.if-not-reaches.false c.if-not-reaches-2.false
