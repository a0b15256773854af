-- From fresh, after any events: the state is sound, so refusal 1 never comes.
use mathlib.Core.Bool.{false, true}
use mathlib.Core.List.{List, [], ◌++◌, ◌∷◌}
use mathlib.Core.Path.{ap, refl, sym, ◌∙◌, ◌≡◌}
use Rattle.config.proofs.Legality.{legal_is}
use Rattle.config.specs.Ranges.{Sized}
use Rattle.config.specs.Sizes.{legal}
use Rattle.config.specs.declared.Config.{Config}
use Rattle.rig_core.proofs.Inner.{step_sound}
use Rattle.rig_core.specs.Events.{inner_of, step_of}
use Rattle.rig_core.specs.Refusals.{refusal_of, row_of}
use Rattle.rig_core.specs.Sound.{Sound, sound}
use Rattle.rig_core.specs.State.{Shaped, fresh_core}
use Rattle.rig_core.specs.declared.Core.{Core}
use Rattle.core_laws.proofs.Events.{step_facts}
use Rattle.core_laws.proofs.Facts.{illegal_unsound, sound_of}
use Rattle.core_laws.proofs.Fresh.{fresh_facts}
use Rattle.core_laws.proofs.Kept.{shaped_fresh, shaped_step, step_config}
use Rattle.core_laws.proofs.Refused.{step_number}
use Rattle.core_laws.proofs.View.{refusal_row, refusal_unsound, row_not_one}
use Rattle.core_laws.specs.Run.{run}
use Rattle.event.specs.declared.Event.{Event}

pub run_none : (c : Core) → run c [] ≡ c
unfolding run
run_none c = refl

pub run_more : (c : Core) (e : Event) (es : List Event) → run c (e ∷ es) ≡ run (step_of c e).core es
unfolding run
run_more c e es = refl

pub run_append : (c : Core) (es fs : List Event) → run c (es ++ fs) ≡ run (run c es) fs
unfolding run
run_append c [] fs = refl
run_append c (e ∷ es) fs = run_append (step_of c e).core es fs

-- a fact that every event keeps holds after any events
pub run_keeps : (P : Core → Type 0) → ((c : Core) (e : Event) → P c → P (step_of c e).core) → (es : List Event) (c : Core) → P c → P (run c es)
unfolding run
run_keeps P f [] c p = p
run_keeps P f (e ∷ es) c p = run_keeps P f es (step_of c e).core (f c e p)

pub run_config : (es : List Event) (c : Core) → (run c es).config ≡ c.config
run_config es c = run_keeps (λ d. d.config ≡ c.config) (λ d e h. step_config d e ∙ h) es c refl

pub run_shaped : (es : List Event) (c : Core) → Shaped c → Shaped (run c es)
run_shaped es c p = run_keeps Shaped shaped_step es c p

-- sound, with lists of the lengths that the types say
pub record Good (c : Core) : Type 0 where
  pub shaped : Shaped c
  pub facts : Sound c

pub good_step : (c : Core) (e : Event) → Good c → Good (step_of c e).core
good_step c e h = record { shaped = shaped_step c e h.shaped; facts = step_facts c e h.shaped h.facts }

-- there the event that does not test for soundness is the event
pub inner_good : (c : Core) (e : Event) → Good c → inner_of c e ≡ step_of c e
inner_good c e h = sym (step_sound c e (sound_of c h.facts))

pub good_fresh : (g : Config) → legal g ≡ true → Sized g → Good (fresh_core g)
good_fresh g h z = record { shaped = shaped_fresh g z; facts = fresh_facts g (legal_is g h) }

pub run_good : (es : List Event) (c : Core) → Good c → Good (run c es)
run_good es c h = run_keeps Good good_step es c h

pub always_good : (g : Config) → legal g ≡ true → Sized g → (es : List Event) → Good (run (fresh_core g) es)
always_good g h z es = run_good es (fresh_core g) (good_fresh g h z)

-- W1 to W13, in every run
pub always_sound : (g : Config) → legal g ≡ true → Sized g → (es : List Event) → sound (run (fresh_core g) es) ≡ true
always_sound g h z es = sound_of (run (fresh_core g) es) (always_good g h z es).facts

-- so an event is refused by its row or done, and never with 1
pub always_row : (g : Config) → legal g ≡ true → Sized g → (es : List Event) (e : Event) → refusal_of (run (fresh_core g) es) e ≡ row_of (run (fresh_core g) es) e
always_row g h z es e = refusal_row (run (fresh_core g) es) e (always_sound g h z es)

-- R1: row 1 never applies in a run
pub never_refused_1 : (g : Config) → legal g ≡ true → Sized g → (es : List Event) (e : Event) → (step_of (run (fresh_core g) es) e).answer.refusal ≡ 1 → ⊥
never_refused_1 g h z es e q =
    row_not_one (run (fresh_core g) es) e (sym (always_row g h z es e) ∙ sym (step_number (run (fresh_core g) es) e) ∙ q)

-- T7: with a configuration that is not legal, the state never changes and every event is refused with 1
pub always_refused_1 : (g : Config) → legal g ≡ false → (es : List Event) (e : Event) → (step_of (run (fresh_core g) es) e).answer.refusal ≡ 1
always_refused_1 g h es e =
    step_number (run (fresh_core g) es) e
    ∙ refusal_unsound (run (fresh_core g) es) e (illegal_unsound (run (fresh_core g) es) (ap legal (run_config es (fresh_core g)) ∙ h))
