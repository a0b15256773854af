-- Where there are no regions, all rules but H1 hold.
use Rattle.regions.proofs.Lawful.{blank_lawful}
use Rattle.regions.proofs.Regions.lawful.Goals as goal

pub returns-then-self-eq0 : goal.returns-then-self-eq0
returns-then-self-eq0 c = blank_lawful _ _ _ c.if-self-eq0.true c.blank.ensures
