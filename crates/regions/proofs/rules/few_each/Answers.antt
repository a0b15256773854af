-- So few regions in all are few of each.
use Rattle.regions.proofs.Steps.{few_short}
use Rattle.regions.proofs.rules.few_each.Goals as goal

pub returns-then-r-le-EACH : goal.returns-then-r-le-EACH
returns-then-r-le-EACH c = few_short _ _ c.if-r-le-EACH.true
