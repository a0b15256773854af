-- On a sound core the event without the test, else refusal 1.
use Rattle.std.proofs.Common.{ap, sym, ◌∙◌}
use Rattle.live.proofs.Host.{host_sound, host_unsound}
use Rattle.live.proofs.core_live.Goals as goal
use Rattle.rig_core.specs.declared.Stepped.{Stepped}

pub returns-then-sound : goal.returns-then-sound
returns-then-sound c =
    let w = sym (host_sound c.args.c.now c.args.e (sym c.sound.ensures ∙ c.if-sound.true)) in
    (c.core_inner.ensures.0 ∙ ap (λ (s : Stepped). s.core) w, c.core_inner.ensures.1 ∙ ap (λ (s : Stepped). s.answer) w)

pub returns : goal.returns
returns c =
    let w = host_unsound c.args.c.now c.args.e (sym c.sound.ensures ∙ c.if-sound.false) in
    (w.0, c.barred.ensures ∙ w.1)
