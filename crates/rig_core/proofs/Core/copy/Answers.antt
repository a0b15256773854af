-- Tested, and then the Copy; where the state is not sound no byte moves.
use Rattle.rig_core.proofs.Copying.{memory_goes, memory_stays}
use Rattle.rig_core.proofs.Inner.{step_goes, step_stays}
use Rattle.rig_core.proofs.Core.copy.Goals as goal

pub returns-then-sound : goal.returns-then-sound
returns-then-sound c = (step_goes _ _ _ _ c.sound.ensures c.if-sound.true c.copied.ensures.0, memory_goes _ _ _ _ _ c.sound.ensures c.if-sound.true c.copied.ensures.1)

pub returns : goal.returns
returns c = (step_stays _ _ _ _ c.sound.ensures c.if-sound.false c.refused.ensures, memory_stays _ _ _ _ _ c.sound.ensures c.if-sound.false)
