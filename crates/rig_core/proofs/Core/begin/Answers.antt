-- The VMs started, and the clock.
use Rattle.rig_core.specs.Events.{done, start_core}
use Rattle.rig_core.proofs.Core.begin.Goals as goal

pub returns-clause-core : goal.returns-clause-core
unfolding done start_core
returns-clause-core c = rw (c.start_all.ensures, c.started-self.ensures)

pub returns-clause-answer : goal.returns-clause-answer
unfolding done start_core
returns-clause-answer c = rw (c.quiet.ensures, c.address.ensures, c.start_all.ensures)
