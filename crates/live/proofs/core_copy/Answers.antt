-- Tested, and then the Copy; where the state is not sound no byte moves.
use Rattle.std.proofs.Common.{ap, sym, ◌∙◌}
use Rattle.rig_core.proofs.Copying.{memory_goes, memory_stays}
use Rattle.rig_core.proofs.Inner.{step_sound, step_unsound}
use Rattle.rig_core.specs.Memory.{copy_in}
use Rattle.rig_core.specs.Refusals.{refused}
use Rattle.rig_core.specs.declared.Stepped.{Stepped}
use Rattle.live.proofs.core_copy.Goals as goal

pub returns-then-sound : goal.returns-then-sound
returns-then-sound c =
    let w = sym (step_sound c.args.c.now (copy_in c.args.p c.args.base c.args.m.now) (sym c.sound.ensures ∙ c.if-sound.true)) in (
      ap (λ (s : Stepped). s.core) (c.copied-after.ensures.0 ∙ w),
      ap (λ (s : Stepped). s.answer) (c.copied-after.ensures.0 ∙ w),
      memory_goes _ _ _ _ _ c.sound.ensures c.if-sound.true c.copied-after.ensures.1,
    )

pub returns : goal.returns
unfolding refused
returns c =
    let w = sym (step_unsound c.args.c.now (copy_in c.args.p c.args.base c.args.m.now) (sym c.sound.ensures ∙ c.if-sound.false)) in
    (ap (λ (s : Stepped). s.core) w, c.barred.ensures ∙ ap (λ (s : Stepped). s.answer) w, memory_stays _ _ _ _ _ c.sound.ensures c.if-sound.false)
