-- Each vector of the rules holds of the definitions, by computation; and each broken state is refused.
use Prim.Native.Nat.{◌≤◌}
use borrow.Author.Tests.{lt-ltb}
use lib.Dec.{ltb}
use lib.ListN.{get_or-eq_default, length}
use mathlib.Core.Bool.{Bool, false, not, true}
use mathlib.Core.List.{List, map, [], ◌∷◌}
use mathlib.Core.Path.{refl, ◌≡◌}
use native.Mathlib.Decide.{dec_lt}
use native.Mathlib.Omega.{arith}
use Rattle.basis.proofs.Bounds.{within_is}
use Rattle.basis.specs.Bounds.{zeros}
use Rattle.basis.specs.Choice.{either}
use Rattle.basis.specs.Count.{every, how_many, joined, some, up_to}
use Rattle.change.specs.Changes.{called_from, copying_from, running_without}
use Rattle.config.proofs.Legality.{legal_is}
use Rattle.config.specs.Sizes.{duration_at, durations_fit, has_slot, legal, owners_fit, slots_rest, vms_rest, vms_served}
use Rattle.copies.specs.Failing.{copy_failure, extent_failure, first_failure}
use Rattle.rig_core.proofs.Inner.{step_unsound}
use Rattle.rig_core.specs.Events.{done, inner_of, start_core, step_of, tick_clock, tick_queue, tick_turn}
use Rattle.rig_core.specs.Memory.{memory_as}
use Rattle.rig_core.specs.Refusals.{refusal_of, refused, row_of}
use Rattle.rig_core.specs.Sound.{config_sound, left_sound, none_ready, queued_ready, slot_sound, sound, standings_known}
use Rattle.rig_core.specs.declared.Core.{Core}
use Rattle.event.specs.declared.Event.{Event}
use Rattle.grants.specs.Access.{allowed, allows, granted, granted_all}
use Rattle.guest.specs.Bits.{clear_bit, highest, set_bit}
use Rattle.guest.specs.Deliver.{deliver, due, enter, shown}
use Rattle.guest.specs.Record.{is_blank, is_fresh, pend}
use Rattle.guest.specs.Write.{is_field, stored, write}
use Rattle.history.specs.History.{moments, state_after}
use Rattle.image_reader.specs.Reader.{read_end, read_image, read_regions, read_slots, read_vms}
use Rattle.image_reader.specs.Records.{core_fault, owner_fault, place_fault, region_fault, slot_fault, vm_fault}
use Rattle.queue.specs.Entries.{counted_of, entries_of, front_of, others, padded_of, popped, pushed, rest}
use Rattle.regions.specs.Beside.{agrees_all}
use Rattle.regions.specs.Rules.{alike_all, all_agree, bytes_rest, few_each, held, holders_fit, kept, lawful, permissions_fit, ranges_fit, words_rest}
use Rattle.table.specs.Position.{has_ticked, next_clock}
use Rattle.trials.specs.Broken.{Broken, broken_states, clauses_of, good}
use Rattle.trials.specs.Copies.{copy_shown, tabled}
use Rattle.trials.specs.Vectors.{Vector, call_shown, counts_shown, lines_in, removed_shown, vectors}
use Rattle.vms.specs.Records.{each, rest_fresh}
use Rattle.vms.specs.Tick.{entering, passed, runner_of, saving, turn, turn_by}
use Rattle.window.specs.Bytes.{copied as copiedBytes}
use Rattle.window.specs.Pieces.{copied_all, inside}

abbrev AllFalse : List Bool → Type 0
AllFalse [] = Unit {0}
AllFalse (b ∷ l) = (b ≡ false) × AllFalse l

abbrev sound_in : List Broken → List Bool
sound_in l = map (λ (b : Broken). sound b.state) l

record Computed : Type 0 where
  vectors : map (λ (v : Vector). v.found) vectors ≡ map (λ (v : Vector). v.says) vectors
  good : sound good ≡ true
  broken : map (λ (b : Broken). clauses_of b.state) broken_states ≡ map (λ (b : Broken). b.clauses) broken_states
  unsound : AllFalse (sound_in broken_states)

computed : Computed
unfolding vectors lines_in call_shown removed_shown counts_shown broken_states clauses_of good read_image read_end read_slots read_vms core_fault owner_fault slot_fault vm_fault step_of refusal_of row_of sound queued_ready none_ready standings_known done start_core tick_clock tick_turn tick_queue called_from running_without refused inner_of legal durations_fit owners_fit vms_served has_slot vms_rest slots_rest every some up_to joined is_field stored write due deliver enter shown highest set_bit clear_bit pend is_fresh is_blank front_of rest others popped pushed padded_of counted_of next_clock each rest_fresh saving runner_of entering turn_by passed turn state_after moments entries_of lawful kept holders_fit permissions_fit ranges_fit few_each held how_many alike_all all_agree bytes_rest words_rest zeros read_regions region_fault place_fault agrees_all copy_shown tabled memory_as copying_from copy_failure first_failure extent_failure inside copied_all copiedBytes allowed granted_all granted allows
computed =
    record { vectors = refl; good = refl; broken = refl; unsound = (refl, (refl, (refl, (refl, (refl, (refl, (refl, (refl, (refl, (refl, (refl, (refl, (refl, (refl, (refl, (refl, (refl, (refl, tt)))))))))))))))))) }

-- X1, X2, P1 to P22, C7
pub vectors_hold : map (λ (v : Vector). v.found) vectors ≡ map (λ (v : Vector). v.says) vectors
vectors_hold = computed.vectors

-- the state that they are made from is sound
pub good_sound : sound good ≡ true
good_sound = computed.good

-- W1 to W13: each breaks the rules that stand beside it, and no other
pub broken_exactly : map (λ (b : Broken). clauses_of b.state) broken_states ≡ map (λ (b : Broken). b.clauses) broken_states
broken_exactly = computed.broken

unsound_refused : (l : List Broken) → AllFalse (sound_in l) → (e : Event) → map (λ (b : Broken). step_of b.state e) l ≡ map (λ (b : Broken). refused b.state 1) l
unsound_refused [] h e = refl
unsound_refused (b ∷ l) h e = rw (step_unsound b.state e h.0, unsound_refused l h.1 e)

-- R1, R2, R3: whatever the event, each is answered with refusal 1, shows no VM, and is handed back
pub broken_refused : (e : Event) → map (λ (b : Broken). step_of b.state e) broken_states ≡ map (λ (b : Broken). refused b.state 1) broken_states
broken_refused e = unsound_refused broken_states computed.unsound e

-- W8 cannot be broken alone: with W1 and W9 it holds
pub slot_follows : (c : Core) → length c.config.durations ≡ 64 → config_sound c ≡ true → left_sound c ≡ true → slot_sound c ≡ true
slot_follows c n l h = go (has_ticked c.clock) refl
  where
    past : c.config.slots ≤ c.clock.slot → duration_at c.config c.clock.slot ≡ 0
    past p =
        elim (dec_lt c.clock.slot 64) [
          | yes q ↦ ((legal_is c.config l).slots_empty c.clock.slot p q).1
          | no q ↦ (let z : length c.config.durations ≤ c.clock.slot = omega arith in get_or-eq_default c.config.durations 0 z)
        ]

    go : (b : Bool) → has_ticked c.clock ≡ b → either (not (has_ticked c.clock)) (ltb c.clock.slot c.config.slots) ≡ true
    go false e = rw e
    go true e =
        elim (dec_lt c.clock.slot c.config.slots) [
          | yes p ↦ rw e (lt-ltb c.clock.slot c.config.slots p)
          | no p ↦ (let w = within_is 1 (duration_at c.config c.clock.slot) c.clock.left (rw e at h) in
              absurd (omega (arith, w.0, w.1, past (omega arith))))
        ]
