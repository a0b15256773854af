-- Which demand each worthless core and each easy mistake fails.
use Rattle.std.specs.Prelude.{ℕ, ◌≡◌}
use Rattle.rig_core.specs.Events.{step_of}
use Rattle.promises.specs.Answering.{Removing}
use Rattle.promises.specs.Copying.{Copies}
use Rattle.promises.specs.Delivering.{Delivers}
use Rattle.promises.specs.Framing.{Framed, Starts, Stores}
use Rattle.promises.specs.Refusing.{Refuses, StaysSound}
use Rattle.promises.specs.Sharing.{Accounts, Slices, Waiting}
use Rattle.promises.specs.Timing.{Shows, Table}
use Rattle.promises.specs.Tracing.{Runs, Traced}
use Rattle.trials.specs.Copiers.{copies_forwards, copies_half, copies_never, copies_unchecked, fails_uncleared, loses_next}
use Rattle.trials.specs.Spoilt.{adds_count, adds_place, adds_record, calls_yield, extra_resets, faults_as_stop, faults_wipe, forgets_served, ignores_write, joins_uncounted, loses_restore, lowers_other, moves, restarts_run, restarts_uncounted, stops_as_error, stops_hand_on, stops_not, stops_uncounted, stops_unused, stops_wipe, strays_at_first, unstarts, uses_up, writes_all}
use Rattle.trials.specs.Worthless.{charges_spare, empties_pending, forgets_address, idle_always, inject_waits, injects_its_own, invents, leaves_entries, lowest_first, moves_at_stop, newest_first, raises_copy, refuses_all, repeats_first, restarts_silent, shuts_at_once, tells_all, tells_none, tells_served, untouched}

-- C3, M1 to M7
pub record Refuted : Type 0 where
  -- at Start
  pub refuses_all_lem : (n : ℕ) → (n ≡ 0 → ⊥) → Refuses (refuses_all n) → ⊥
  pub hands_back : Starts untouched → ⊥
  -- at the first tick; at the second; after the first
  pub idle : Slices idle_always → ⊥
  pub repeats : Table repeats_first → ⊥
  pub makes_up : Shows invents → ⊥
  -- at the fifth tick, and at the sixth
  pub charges : Table charges_spare → ⊥
  pub charges_slices : Slices charges_spare → ⊥
  -- the request of VM 0 waits behind an entry that should have left
  pub leaves : Waiting leaves_entries → ⊥
  pub leaves_queue : Traced leaves_entries → ⊥
  -- the request of VM 1 is not served by the first spare tick
  pub newest : Waiting newest_first → ⊥
  -- when VM 1 takes over from VM 0
  pub forgets : Delivers forgets_address → ⊥
  -- after a Write of 100 to the field
  pub copy : Shows raises_copy → ⊥
  pub stop_moves : Table moves_at_stop → ⊥
  pub stop_moves_slices : Slices moves_at_stop → ⊥
  -- with 3 and 7 pending and enabled, at a sync and at a tick
  pub empties : Delivers empties_pending → ⊥
  pub lowest : Delivers lowest_first → ⊥
  pub lowest_tick : Delivers lowest_first → ⊥
  -- with 3 enabled and injected; with 7 pending and 3 injected, both enabled
  pub waits : Delivers inject_waits → ⊥
  pub own : Delivers injects_its_own → ⊥
  pub at_once : Delivers shuts_at_once → ⊥
  -- of VM 0's one entry two are told; none; none at a Restart
  pub tells_all_lem : Accounts tells_all → ⊥
  pub tells_none_lem : Accounts tells_none → ⊥
  pub silent : Accounts restarts_silent → ⊥
  -- at a spare tick
  pub served : Removing tells_served → ⊥
  -- how a VM stands
  pub unused : Traced stops_unused → ⊥
  pub stop_errs : Traced stops_as_error → ⊥
  pub fault_stops : Traced faults_as_stop → ⊥
  pub stays_ready : Traced stops_not → ⊥
  -- whether the core is started
  pub begins_anew : Traced unstarts → ⊥
  -- who runs between ticks
  pub yields : Runs calls_yield → ⊥
  pub restart_runs : Runs restarts_run → ⊥
  pub hands_on : Runs stops_hand_on → ⊥
  -- what a Write stores
  pub ignores : Stores ignores_write → ⊥
  -- what no rule names
  pub writes_all_lem : Framed writes_all → ⊥
  pub stop_wipes : Framed stops_wipe → ⊥
  pub fault_wipes : Framed faults_wipe → ⊥
  pub extra_resets_lem : Framed extra_resets → ⊥
  pub uses_up_lem : Framed uses_up → ⊥
  pub loses_restore_lem : Framed loses_restore → ⊥
  pub moves_reason : Framed (moves 20) → ⊥
  pub moves_previous : Framed (moves 24) → ⊥
  pub moves_resume : Framed (moves 16) → ⊥
  -- the queue counts: at a spare tick; at a Stop, a Restart, an Extra
  pub served_uncounted : StaysSound forgets_served → ⊥
  pub lowers_other_lem : StaysSound lowers_other → ⊥
  pub stop_uncounted : StaysSound stops_uncounted → ⊥
  pub restart_uncounted : StaysSound restarts_uncounted → ⊥
  pub joins_uncounted_lem : StaysSound joins_uncounted → ⊥
  -- the clock before the first tick, a ninth record, a seventeenth place, a ninth count
  pub strays : Table strays_at_first → ⊥
  pub ninth : Traced adds_record → ⊥
  pub longer : Traced adds_place → ⊥
  pub ninth_count : Traced adds_count → ⊥
  -- a Copy: the next address; the entries of a VM that it ends
  pub next_lost : Delivers loses_next → ⊥
  pub copy_leaves : Traced fails_uncleared → ⊥
  -- the bytes of the window: none moves; they move where the Copy fails; not all of them; one that was just written is copied
  pub moves_none : Copies copies_never step_of → ⊥
  pub unchecked : Copies copies_unchecked step_of → ⊥
  pub two_old_wheels : Copies copies_half step_of → ⊥
  pub overlapping : Copies copies_forwards step_of → ⊥
