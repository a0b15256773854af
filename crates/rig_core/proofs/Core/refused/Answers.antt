-- The state as it was.
use Rattle.rig_core.specs.Refusals.{refused}
use Rattle.rig_core.proofs.Core.refused.Goals as goal

pub returns : goal.returns
unfolding refused
returns c = rw c.refusal.ensures
