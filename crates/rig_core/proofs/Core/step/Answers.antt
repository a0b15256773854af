-- On a sound state the inner event, else refusal 1.
use Rattle.rig_core.proofs.Inner.{step_goes, step_stays}
use Rattle.rig_core.proofs.Core.step.Goals as goal

pub returns-then-sound : goal.returns-then-sound
returns-then-sound c = step_goes _ _ _ _ c.sound.ensures c.if-sound.true c.inner.ensures

pub returns-else-sound : goal.returns-else-sound
returns-else-sound c = step_stays _ _ _ _ c.sound.ensures c.if-sound.false c.refused.ensures
