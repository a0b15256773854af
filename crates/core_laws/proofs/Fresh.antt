-- The fresh state is sound where its configuration is legal (T6), and only there (T7).
use lib.ListN.{get_or-replicate}
use mathlib.Core.Bool.{false, true}
use mathlib.Core.List.{[]}
use mathlib.Core.Path.{refl, ◌≡◌}
use native.Mathlib.Omega.{arith}
use Rattle.basis.proofs.Laws.{false_true}
use Rattle.config.proofs.Legality.{legal_is}
use Rattle.config.specs.Sizes.{Legal, legal}
use Rattle.config.specs.declared.Config.{Config}
use Rattle.rig_core.specs.Refusals.{refusal_of}
use Rattle.rig_core.specs.Sound.{Sound, sound}
use Rattle.rig_core.specs.State.{fresh_core}
use Rattle.core_laws.proofs.Facts.{illegal_unsound, sound_of}
use Rattle.core_laws.proofs.View.{refusal_unsound}
use Rattle.event.specs.declared.Event.{Event}
use Rattle.guest.specs.Record.{fresh}
use Rattle.queue.proofs.Counted.{counts_none}
use Rattle.queue.proofs.Lists.{zeros_at}

pub fresh_facts : (g : Config) → Legal g → Sound (fresh_core g)
fresh_facts g l =
    record {
      legal = l;
      rest = λ k h i. get_or-replicate 8 k fresh fresh i;
      few = omega arith;
      queued = λ k h. absurd (omega arith);
      padded = λ k h i. zeros_at 16 k;
      first = λ h. refl;
      unstarted = λ h. (λ k i. rw (get_or-replicate 8 k fresh fresh i), refl, refl, refl);
      slot = λ h. false_true h;
      left = λ h. false_true h;
      ready = λ h. absurd (h refl);
      named = λ h. absurd (h refl);
      flags = (omega arith, omega arith);
      standings = λ k h. rw (get_or-replicate 8 k fresh fresh h) (omega arith);
      counted = counts_none;
    }

-- T6
pub fresh_sound : (g : Config) → legal g ≡ true → sound (fresh_core g) ≡ true
fresh_sound g h = sound_of (fresh_core g) (fresh_facts g (legal_is g h))

-- T7
pub fresh_unsound : (g : Config) → legal g ≡ false → sound (fresh_core g) ≡ false
fresh_unsound g h = illegal_unsound (fresh_core g) h

-- T7: every event is refused with 1
pub fresh_refuses : (g : Config) → legal g ≡ false → (e : Event) → refusal_of (fresh_core g) e ≡ 1
fresh_refuses g h e = refusal_unsound (fresh_core g) e (fresh_unsound g h)
