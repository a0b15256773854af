-- The report of the run of X2 is the text that the rules give.
use Prim.Native.Nat.{ℕ}
use Rattle.basis.specs.Bounds.{zeros}
use lib.ListN.{get_or}
use mathlib.Core.List.{List, append-nil, [], ◌++◌, ◌∷◌}
use mathlib.Core.Path.{ap, refl, ◌≡◌}
use Rattle.basis.specs.Count.{every, how_many, joined, some, up_to}
use Rattle.change.specs.Changes.{called_from, running_without}
use Rattle.config.specs.Sizes.{durations_fit, has_slot, legal, owners_fit, slots_rest, vms_rest, vms_served}
use Rattle.config.specs.declared.Config.{Config}
use Rattle.rig_core.specs.Events.{done, inner_of, start_core, step_of, tick_clock, tick_queue, tick_turn}
use Rattle.rig_core.specs.Refusals.{refusal_of, refused, row_of}
use Rattle.rig_core.specs.Sound.{none_ready, queued_ready, sound, standings_known}
use Rattle.events.specs.Log.{events_at, events_by, events_from}
use Rattle.event.specs.Kinds.{asked_by}
use Rattle.events.specs.Reader.{decoded, placed, read_at, size, whole_of}
use Rattle.guest.specs.Bits.{clear_bit, highest, set_bit}
use Rattle.guest.specs.Deliver.{deliver, due, enter, shown}
use Rattle.guest.specs.Record.{is_blank, is_fresh, pend}
use Rattle.guest.specs.Write.{is_field, stored, write}
use Rattle.history.specs.History.{Moment, history, moments, ticking, times}
use Rattle.history.specs.Moments.{naming}
use Rattle.image_reader.specs.Reader.{read_end, read_image, read_regions, read_slots, read_vms}
use Rattle.image_reader.specs.Records.{core_fault, owner_fault, slot_fault, vm_fault}
use Rattle.queue.specs.Entries.{counted_of, entries_of, front_of, others, padded_of, popped, pushed, rest}
use Rattle.regions.specs.Rules.{alike_all, all_agree, bytes_rest, few_each, held, holders_fit, kept, lawful, permissions_fit, ranges_fit, words_rest}
use Rattle.table.specs.Place.{table_to}
use Rattle.table.specs.Position.{next_clock}
use Rattle.tally.specs.Figures.{idle_tick, missed_tick, spare_tick, table_tick}
use Rattle.tally.specs.Logs.{happens, happens_in}
use Rattle.tally_laws.specs.Example.{empty_report, example_log, example_report, figures_of, last_of}
use Rattle.tally_text.specs.Report.{figures_text, last_text, report_text, row_text}
use Rattle.text.specs.Digits.{decimal, digits, glyph, width}
use Rattle.trials.specs.Examples.{example}
use Rattle.trials.specs.Vectors.{example_events, example_image}
use Rattle.vms.specs.Records.{each, rest_fresh}
use Rattle.vms.specs.Tick.{entering, passed, runner_of, saving, turn, turn_by}

image_read : ((read_image example_image).fault ≡ 0) × ((read_image example_image).config ≡ example 1)
unfolding read_image read_end read_slots read_regions read_vms core_fault owner_fault slot_fault vm_fault vms_served has_slot every some
image_read = (refl, refl)

log_read : events_from example_log 0 ≡ example_events
unfolding events_by events_at read_at placed decoded whole_of asked_by size
log_read = refl

run : List Moment
run = history step_of (example 1) example_events

figures : figures_of (example 1) run 0 ∷ figures_of (example 1) run 1 ∷ last_of run ∷ [] ≡ (2 ∷ 1 ∷ 1 ∷ []) ∷ (1 ∷ 0 ∷ 0 ∷ []) ∷ (1 ∷ 5 ∷ []) ∷ []
unfolding run table_tick spare_tick missed_tick idle_tick step_of refusal_of row_of sound queued_ready none_ready standings_known done start_core tick_clock tick_turn tick_queue called_from running_without refused inner_of legal durations_fit owners_fit vms_served has_slot vms_rest slots_rest every some up_to joined is_field stored write due deliver enter shown highest set_bit clear_bit pend is_fresh is_blank front_of rest others popped pushed padded_of counted_of entries_of next_clock each rest_fresh saving runner_of entering turn_by passed turn moments times table_to naming lawful kept holders_fit permissions_fit ranges_fit few_each held how_many alike_all all_agree bytes_rest words_rest zeros
figures = refl

-- two VMs' figures as text
joined_two : (f : ℕ → List ℕ) (n : ℕ) → n ≡ 2 → joined f n ≡ f 0 ++ f 1
unfolding joined
joined_two f n e = rw e

row_of_lem : (g : Config) (ms : List Moment) (v a b c : ℕ) → figures_of g ms v ≡ a ∷ b ∷ c ∷ [] → row_text v (times (table_tick g v) ms) (times (spare_tick g v) ms) (times (missed_tick g v) ms) ≡ row_text v a b c
row_of_lem g ms v a b c x = ap (λ (l : List ℕ). row_text v (get_or l 0 0) (get_or l 1 0) (get_or l 2 0)) x

last_of_lem : (ms : List Moment) (i t : ℕ) → last_of ms ≡ i ∷ t ∷ [] → last_text (times idle_tick ms) (times ticking ms) ≡ last_text i t
last_of_lem ms i t x = ap (λ (l : List ℕ). last_text (get_or l 0 0) (get_or l 1 0)) x

text_of : (g : Config) (ms : List Moment) (a b c d e f i t : ℕ) → g.count ≡ 2 → figures_of g ms 0 ≡ a ∷ b ∷ c ∷ [] → figures_of g ms 1 ≡ d ∷ e ∷ f ∷ [] → last_of ms ≡ i ∷ t ∷ []
    → figures_text g ms ≡ (row_text 0 a b c ++ row_text 1 d e f) ++ last_text i t
unfolding figures_text
text_of g ms a b c d e f i t n x y z = rw (joined_two _ g.count n, row_of_lem g ms 0 a b c x, row_of_lem g ms 1 d e f y, last_of_lem ms i t z)

happened : happens_in step_of (example 1) (example_log ∷ []) ≡ run
unfolding happens_in happens run
happened = rw log_read (append-nil (history step_of (example 1) example_events))

-- X3
pub example_report_lem : report_text example_image (example_log ∷ []) ≡ example_report
unfolding report_text row_text last_text decimal digits width glyph
example_report_lem = rw (image_read.0, image_read.1, happened, text_of (example 1) run 2 1 1 1 0 0 1 5 refl (ap (λ (l : List (List ℕ)). get_or l 0 []) figures) (ap (λ (l : List (List ℕ)). get_or l 1 []) figures) (ap (λ (l : List (List ℕ)). get_or l 2 []) figures))

-- N21: with no log at all
pub empty_report_lem : report_text example_image [] ≡ empty_report
unfolding report_text happens_in row_text last_text decimal digits width glyph times
empty_report_lem = rw (image_read.0, image_read.1, text_of (example 1) [] 0 0 0 0 0 0 0 0 refl refl refl refl)
