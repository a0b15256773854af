-- The test of its parts, then that of its regions (`sound_yes`, `sound_no`).
use Rattle.rig_core.proofs.Tests.{sound_no, sound_yes}
use Rattle.regions.proofs.Lawful.{blank_lawful}
use Rattle.rig_core.proofs.Core.sound.Goals as goal

pub returns-then-self-eq0 : goal.returns-then-self-eq0
returns-then-self-eq0 c = sound_yes _ _ _ c.parts_sound.ensures c.if-parts_sound.true (blank_lawful _ _ _ c.if-self-eq0.true c.blank.ensures)

pub returns-then-parts_sound : goal.returns-then-parts_sound
returns-then-parts_sound c = sound_yes _ _ _ c.parts_sound.ensures c.if-parts_sound.true c.lawful.ensures

pub returns : goal.returns
returns c = sound_no _ _ c.parts_sound.ensures c.if-parts_sound.false
