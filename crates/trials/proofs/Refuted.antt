-- Each worthless core, and each easy mistake, fails a demand that is named; and the promises are not empty. Both by computation.
use Rattle.std.proofs.Common.{Some}
use Prim.Native.Nat.{ℕ}
use lib.ListN.{get_or}
use mathlib.Core.Bool.{true}
use mathlib.Core.List.{List, [], ◌∷◌}
use mathlib.Core.Path.{ap, refl, ◌≡◌}
use native.Mathlib.Omega.{arith}
use Rattle.basis.proofs.Laws.{false_true}
use Rattle.basis.specs.Bounds.{zeros}
use Rattle.basis.specs.Count.{every, how_many, joined, some, up_to}
use Rattle.change.specs.Changes.{called_from, copying_from, running_without}
use Rattle.config.specs.Ranges.{Given}
use Rattle.config.specs.Sizes.{durations_fit, has_slot, legal, owners_fit, slots_rest, vms_rest, vms_served}
use Rattle.copies.specs.Failing.{copy_failure, extent_failure, first_failure}
use Rattle.rig_core.specs.Events.{done, inner_of, start_core, step_of, tick_clock, tick_queue, tick_turn}
use Rattle.rig_core.specs.Refusals.{refusal_of, refused, row_of}
use Rattle.rig_core.specs.Sound.{none_ready, queued_ready, sound, standings_known}
use Rattle.rig_core.specs.State.{fresh_core}
use Rattle.event.specs.declared.Event.TheVariants.{Call, Extra, Fault, Restart, Shutdown, Start, Stop, Tick, Write}
use Rattle.event.specs.declared.Event.{Event}
use Rattle.grants.specs.Access.{allowed, allows, granted, granted_all}
use Rattle.guest.specs.Bits.{clear_bit, highest, set_bit}
use Rattle.guest.specs.Deliver.{deliver, due, enter, shown}
use Rattle.guest.specs.Record.{is_blank, is_fresh, pend}
use Rattle.guest.specs.Write.{is_field, stored, write}
use Rattle.guest.specs.declared.Status.{Status}
use Rattle.guest.specs.declared.Vm.{Vm}
use Rattle.history.specs.History.{count_after, moments, state_after, times, told}
use Rattle.history.specs.Moments.{asks, begins, naming}
use Rattle.history.specs.Queueing.{effect, entries_not, removed_in, served_in}
use Rattle.history.specs.Telling.{ends, queue_after, standing_after, started_after}
use Rattle.promises.proofs.Due.{found_highest}
use Rattle.promises.specs.Delivering.{Highest, Offer}
use Rattle.promises.specs.Framing.{Enabled, OnTick, Previous, Reason, Restore, Resume}
use Rattle.promises.specs.Refusing.{first_of, lines_of}
use Rattle.queue.specs.Entries.{counted_of, entries_of, front_of, others, padded_of, popped, pushed, rest}
use Rattle.regions.specs.Rules.{alike_all, all_agree, bytes_rest, few_each, held, holders_fit, kept, lawful, permissions_fit, ranges_fit, words_rest}
use Rattle.table.specs.Place.{table_to}
use Rattle.table.specs.Position.{next_clock}
use Rattle.trials.specs.Copies.{copy_of, piece}
use Rattle.trials.specs.Examples.{copy_example, example}
use Rattle.trials.specs.Occurs.{NotEmpty}
use Rattle.trials.specs.Refuted.{Refuted}
use Rattle.trials.specs.Worthless.{deliver_empty, deliver_low, lowest}
use Rattle.vms.specs.Records.{each, rest_fresh}
use Rattle.vms.specs.Tick.{entering, passed, runner_of, saving, turn, turn_by}
use Rattle.window.specs.Bytes.{copied}
use Rattle.window.specs.Pieces.{copied_all, inside}

given : (n : ℕ) → legal (example n) ≡ true → Given (example n)
given n h = record { legal = h; sized = record { entries = refl; handlers = refl; owners = refl; durations = refl; regions = record { holders = refl; permissions = refl; starts = refl; lasts = refl } } }

copy_given : legal copy_example ≡ true → Given copy_example
copy_given h = record { legal = h; sized = record { entries = refl; handlers = refl; owners = refl; durations = refl; regions = record { holders = refl; permissions = refl; starts = refl; lasts = refl } } }

-- a Copy of one byte from place 0 to place 1 of the window
abbrev one_byte : Event
one_byte = copy_of 1 (piece 0 1 1 ∷ [])

-- an offer with these numbers pending and enabled
abbrev offered : ℕ → ℕ → Status
offered pending enabled = record { since = 0; left = 0; enabled = enabled; pending = pending; resume = 0; reason = 0; previous = 0; restore = 0; ontick = 0; running = 0 }

highest_is : (o : Offer) (p e n : ℕ) → p ≡ o.pending → e ≡ o.enabled → due (offered p e) ≡ Some n → Highest o n
highest_is o p e n a b h = found_highest o (offered p e) a b n h

abbrev begun_once : List Event
begun_once = Start ∷ Tick 0 ∷ []

abbrev both37 : List Event
both37 = Start ∷ Tick 0 ∷ Write 12 136 ∷ Write 8 136 ∷ []

record Computed : Type 0 where
  refutes : Refuted
  occurs : NotEmpty

computed : Computed
unfolding step_of refusal_of row_of sound queued_ready none_ready standings_known done start_core tick_clock tick_turn tick_queue called_from running_without refused inner_of legal durations_fit owners_fit vms_served has_slot vms_rest slots_rest every some up_to joined is_field stored write due deliver enter shown highest set_bit clear_bit pend is_fresh is_blank front_of rest others popped pushed padded_of counted_of next_clock each rest_fresh saving runner_of entering turn_by passed turn moments state_after count_after times told standing_after started_after queue_after ends table_to naming asks begins entries_of effect entries_not served_in removed_in first_of lines_of deliver_empty deliver_low lowest lawful kept holders_fit permissions_fit ranges_fit few_each held how_many alike_all all_agree bytes_rest words_rest zeros copying_from copy_failure first_failure extent_failure inside copied_all copied allowed granted_all granted allows
computed =
    record {
      refutes = record {
        refuses_all_lem = λ n k h. k (h (fresh_core (example 1)) Start).number;
        hands_back = λ h. (let z : ◌≡◌ {A = ℕ} 0 1 = ap (λ (w : Vm). w.standing) (h (example 1) (given 1 refl) [] Start 0 (omega arith) refl) in omega arith);
        idle = λ h. false_true ((h (example 1) (given 1 refl) 0 (omega arith) (Start ∷ []) (Tick 0 ∷ [])).runs_named.0 refl refl);
        repeats = λ h. (let z : ◌≡◌ {A = ℕ} 0 1 = (h (example 1) (given 1 refl) (Start ∷ Tick 0 ∷ Tick 0 ∷ [])).stands.place in omega arith);
        makes_up = λ h. (let z : ◌≡◌ {A = ℕ} 7 1 = (h (example 1) (given 1 refl) (Start ∷ []) (Tick 0) 0 (omega arith) refl).ran in omega arith);
        charges = λ h. (let z : ◌≡◌ {A = ℕ} 1 0 = (h (example 1) (given 1 refl) (Start ∷ Tick 0 ∷ Extra 0 ∷ Tick 0 ∷ Tick 0 ∷ Tick 0 ∷ Tick 0 ∷ [])).stands.place in omega arith);
        charges_slices = λ h. false_true ((h (example 1) (given 1 refl) 0 (omega arith) (Start ∷ Tick 0 ∷ Extra 0 ∷ Tick 0 ∷ Tick 0 ∷ Tick 0 ∷ Tick 0 ∷ []) (Tick 0 ∷ [])).runs_named.0 refl refl);
        leaves = λ h. false_true ((h (example 2) (given 2 refl) 0 (omega arith) (Start ∷ Extra 1 ∷ []) (Extra 0) (Stop 1 ∷ Tick 0 ∷ Tick 0 ∷ Tick 0 ∷ Tick 0 ∷ Tick 0 ∷ Tick 0 ∷ Tick 0 ∷ Tick 0 ∷ []) refl).served refl (omega arith));
        leaves_queue = λ h. (let z : ◌≡◌ {A = ℕ} 1 0 = ap (entries_of 1) (h (example 2) (given 2 refl) (Start ∷ Extra 1 ∷ Stop 1 ∷ [])).queue in omega arith);
        newest = λ h. false_true ((h (example 2) (given 2 refl) 1 (omega arith) (Start ∷ []) (Extra 1) (Extra 0 ∷ Tick 0 ∷ Tick 0 ∷ Tick 0 ∷ Tick 0 ∷ []) refl).served refl (omega arith));
        forgets = λ h. (let z : ◌≡◌ {A = ℕ} 0x1010 0x1020 = ((h (example 1) (given 1 refl) (Start ∷ Tick 0 ∷ Tick 0x1010 ∷ []) (Tick 0x1020)).accepted refl).addresses 0 (omega arith) (λ e. omega arith) in omega arith);
        copy = λ h. (let z : ◌≡◌ {A = ℕ} 101 2 = (h (example 1) (given 1 refl) (Start ∷ Tick 0 ∷ Write 36 100 ∷ []) (Tick 0) 0 (omega arith) refl).ran in omega arith);
        stop_moves = λ h. (let z : ◌≡◌ {A = ℕ} 1 0 = (h (example 1) (given 1 refl) (Start ∷ Tick 0 ∷ Stop 1 ∷ [])).stands.place in omega arith);
        stop_moves_slices = λ h. false_true ((h (example 1) (given 1 refl) 0 (omega arith) (Start ∷ Tick 0 ∷ Stop 1 ∷ []) (Tick 0 ∷ [])).runs_named.0 refl refl);
        empties = λ h. (let z : ◌≡◌ {A = ℕ} 0 8 = ((((h (example 1) (given 1 refl) both37 (Call 0 0 0x1010)).accepted refl).sync refl).given 7 (highest_is _ 136 136 7 refl refl refl)).1.pending in omega arith);
        lowest = λ h. (let z : ◌≡◌ {A = ℕ} 3 7 = ((((h (example 1) (given 1 refl) both37 (Call 0 0 0x1010)).accepted refl).sync refl).given 7 (highest_is _ 136 136 7 refl refl refl)).0 in omega arith);
        lowest_tick = λ h. (let z : ◌≡◌ {A = ℕ} 3 7 = ((((h (example 1) (given 1 refl) both37 (Tick 0x1010)).accepted refl).to_runner 0 (omega arith) refl).given 7 (highest_is _ 136 136 7 refl refl refl)).0 in omega arith);
        waits = λ h. (let z : ◌≡◌ {A = ℕ} 255 3 = ((((h (example 1) (given 1 refl) (Start ∷ Tick 0 ∷ Write 8 8 ∷ []) (Call 2 3 0x1030)).accepted refl).inject refl (omega arith)).given 3 (highest_is _ 8 8 3 refl refl refl)).0 in omega arith);
        own = λ h. (let z : ◌≡◌ {A = ℕ} 3 7 = ((((h (example 1) (given 1 refl) (Start ∷ Tick 0 ∷ Write 12 128 ∷ Write 8 136 ∷ []) (Call 2 3 0x1030)).accepted refl).inject refl (omega arith)).given 7 (highest_is _ 136 136 7 refl refl refl)).0 in omega arith);
        at_once = λ h. (let z : ◌≡◌ {A = ℕ} 11 255 = ((h (example 1) (given 1 refl) (Start ∷ Tick 0 ∷ Write 8 2048 ∷ []) (Shutdown 0)).accepted refl).never in omega arith);
        tells_all_lem = λ h. (let z : ◌≡◌ {A = ℕ} 1 2 = h (example 2) (given 2 refl) 0 (omega arith) (Start ∷ Extra 0 ∷ Extra 1 ∷ Stop 0 ∷ []) in omega arith);
        tells_none_lem = λ h. (let z : ◌≡◌ {A = ℕ} 1 0 = h (example 2) (given 2 refl) 0 (omega arith) (Start ∷ Extra 0 ∷ Stop 0 ∷ []) in omega arith);
        silent = λ h. (let z : ◌≡◌ {A = ℕ} 1 0 = h (example 2) (given 2 refl) 0 (omega arith) (Start ∷ Extra 0 ∷ Restart 0 ∷ []) in omega arith);
        served = λ h. (let z : ◌≡◌ {A = ℕ} 1 0 = (h (example 1) (given 1 refl) (Start ∷ Extra 0 ∷ Tick 0 ∷ Tick 0 ∷ Tick 0 ∷ []) (Tick 0)).count in omega arith);
        unused = λ h. (let z : ◌≡◌ {A = ℕ} 2 1 = (h (example 1) (given 1 refl) begun_once).standing 1 (omega arith) in omega arith);
        stop_errs = λ h. (let z : ◌≡◌ {A = ℕ} 4 2 = (h (example 1) (given 1 refl) (Start ∷ Stop 0 ∷ [])).standing 0 (omega arith) in omega arith);
        fault_stops = λ h. (let z : ◌≡◌ {A = ℕ} 2 4 = (h (example 1) (given 1 refl) (Start ∷ Tick 0 ∷ Fault 3 0 ∷ [])).standing 0 (omega arith) in omega arith);
        stays_ready = λ h. (let z : ◌≡◌ {A = ℕ} 1 2 = (h (example 0) (given 0 refl) (Start ∷ Stop 0 ∷ [])).standing 0 (omega arith) in omega arith);
        begins_anew = λ h. (let z : ◌≡◌ {A = ℕ} 0 1 = (h (example 1) (given 1 refl) (Start ∷ Stop 0 ∷ Stop 1 ∷ [])).started in omega arith);
        yields = λ h. (let z : ◌≡◌ {A = ℕ} 255 0 = (h (example 1) (given 1 refl) begun_once (Call 0 0 0x1010)).other refl refl in omega arith);
        restart_runs = λ h. (let z : ◌≡◌ {A = ℕ} 0 255 = (h (example 1) (given 1 refl) (Start ∷ Tick 0 ∷ Stop 0 ∷ []) (Restart 0)).other refl refl in omega arith);
        hands_on = λ h. (let z : ◌≡◌ {A = ℕ} 1 255 = (h (example 1) (given 1 refl) (Start ∷ Extra 0 ∷ Tick 0 ∷ Tick 0 ∷ Tick 0 ∷ Tick 0 ∷ []) (Stop 0)).other refl refl in omega arith);
        ignores = λ h. (let z : ◌≡◌ {A = ℕ} 0 5 = h (example 1) (given 1 refl) begun_once (Write 8 5) 8 5 refl refl Enabled refl in omega arith);
        writes_all_lem = λ h. (let z : ◌≡◌ {A = ℕ} 5 0 = (h (example 1) (given 1 refl) begun_once (Write 8 5)).fields refl 1 (omega arith) Enabled refl in omega arith);
        stop_wipes = λ h. (let z : ◌≡◌ {A = ℕ} 0 0x1000 = (h (example 1) (given 1 refl) (Start ∷ []) (Stop 0)).address refl 0 (omega arith) refl in omega arith);
        fault_wipes = λ h. (let z : ◌≡◌ {A = ℕ} 0 0x1000 = (h (example 1) (given 1 refl) begun_once (Fault 3 0)).address refl 0 (omega arith) refl in omega arith);
        extra_resets_lem = λ h. (let z : ◌≡◌ {A = ℕ} 0 0x1000 = (h (example 1) (given 1 refl) (Start ∷ []) (Extra 0)).address refl 0 (omega arith) refl in omega arith);
        uses_up_lem = λ h. (let z : ◌≡◌ {A = ℕ} 0 5 = (h (example 1) (given 1 refl) (Start ∷ Tick 0 ∷ Write 32 5 ∷ []) (Tick 0)).fields refl 0 (omega arith) OnTick refl in omega arith);
        loses_restore_lem = λ h. (let z : ◌≡◌ {A = ℕ} 0 5 = (h (example 1) (given 1 refl) (Start ∷ Tick 0 ∷ Write 28 5 ∷ []) (Tick 0)).fields refl 0 (omega arith) Restore refl in omega arith);
        moves_reason = λ h. (let z : ◌≡◌ {A = ℕ} 9 0 = (h (example 1) (given 1 refl) (Start ∷ []) (Extra 0)).fields refl 0 (omega arith) Reason refl in omega arith);
        moves_previous = λ h. (let z : ◌≡◌ {A = ℕ} 9 0 = (h (example 1) (given 1 refl) (Start ∷ []) (Extra 0)).fields refl 0 (omega arith) Previous refl in omega arith);
        moves_resume = λ h. (let z : ◌≡◌ {A = ℕ} 9 0 = (h (example 1) (given 1 refl) (Start ∷ []) (Extra 0)).fields refl 0 (omega arith) Resume refl in omega arith);
        served_uncounted = λ h. false_true (h (example 1) (given 1 refl) (Start ∷ Extra 0 ∷ Tick 0 ∷ Tick 0 ∷ Tick 0 ∷ Tick 0 ∷ []));
        lowers_other_lem = λ h. false_true (h (example 2) (given 2 refl) (Start ∷ Extra 0 ∷ Extra 1 ∷ Tick 0 ∷ Tick 0 ∷ Tick 0 ∷ Tick 0 ∷ []));
        stop_uncounted = λ h. false_true (h (example 1) (given 1 refl) (Start ∷ Extra 0 ∷ Stop 0 ∷ []));
        restart_uncounted = λ h. false_true (h (example 1) (given 1 refl) (Start ∷ Extra 0 ∷ Restart 0 ∷ []));
        joins_uncounted_lem = λ h. false_true (h (example 1) (given 1 refl) (Start ∷ Extra 0 ∷ []));
        strays = λ h. (let z : ◌≡◌ {A = ℕ} 5 0 = ((h (example 1) (given 1 refl) (Start ∷ [])).unentered refl).0 in omega arith);
        ninth = λ h. (let z : ◌≡◌ {A = ℕ} 9 8 = (h (example 1) (given 1 refl) (Start ∷ [])).records in omega arith);
        longer = λ h. (let z : ◌≡◌ {A = ℕ} 17 16 = (h (example 1) (given 1 refl) (Start ∷ [])).places.items in omega arith);
        ninth_count = λ h. (let z : ◌≡◌ {A = ℕ} 9 8 = (h (example 1) (given 1 refl) (Start ∷ [])).places.counts in omega arith);
        next_lost = λ h. (let z : ◌≡◌ {A = ℕ} 0x1000 0x1010 = ((h copy_example (copy_given refl) begun_once one_byte).accepted refl).saved in omega arith);
        copy_leaves = λ h. (let z : ◌≡◌ {A = ℕ} 1 0 = ap (entries_of 0) (h copy_example (copy_given refl) (Start ∷ Tick 0 ∷ Extra 0 ∷ copy_of 9 [] ∷ [])).queue in omega arith);
        moves_none = λ h. (let z : ◌≡◌ {A = ℕ} 8 7 = ap (λ (l : List ℕ). get_or l 1 0) ((h copy_example (copy_given refl) begun_once one_byte).copies refl _ _ refl (7 ∷ 8 ∷ 9 ∷ [])) in omega arith);
        unchecked = λ h. (let z : ◌≡◌ {A = ℕ} 7 8 = ap (λ (l : List ℕ). get_or l 1 0) ((h copy_example (copy_given refl) begun_once (copy_of 2 (piece 0 1 1 ∷ piece 0 1 257 ∷ []))).stays refl (7 ∷ 8 ∷ 9 ∷ [])) in omega arith);
        two_old_wheels = λ h. (let z : ◌≡◌ {A = ℕ} 8 7 = ap (λ (l : List ℕ). get_or l 1 0) ((h copy_example (copy_given refl) begun_once one_byte).copies refl _ _ refl (7 ∷ 8 ∷ 9 ∷ [])) in omega arith);
        overlapping = λ h. (let z : ◌≡◌ {A = ℕ} 7 8 = ap (λ (l : List ℕ). get_or l 2 0) ((h copy_example (copy_given refl) begun_once (copy_of 1 (piece 0 1 2 ∷ []))).copies refl _ _ refl (7 ∷ 8 ∷ 9 ∷ [])) in omega arith);
      };
      occurs = record { asked = refl; goes_on = refl; spares = refl; named = refl; handed_one = refl; ran = refl; served = refl; requests = refl; granted = refl; removed = refl; standing = refl };
    }

-- C3, M1 to M8
pub refuted : Refuted
refuted = computed.refutes

-- C9
pub not_empty : NotEmpty
not_empty = computed.occurs
