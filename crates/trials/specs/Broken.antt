-- States that are not sound, for each of W1 to W13 at least one, each with the rules that it breaks.
use Rattle.std.specs.Prelude.{ℕ, Bool, false, true, List, [], ◌∷◌}
use Rattle.config.specs.declared.Config.{Config}
use Rattle.rig_core.specs.Events.{step_of}
use Rattle.rig_core.specs.Sound.{config_sound, counts_true, few_queued, idle_at_first, left_sound, numbers_known, places_empty, queued_ready, rest_sound, runner_named, runner_ready, slot_sound, start_sound}
use Rattle.rig_core.specs.State.{vm_at, with_clock, with_config, with_queue, with_running, with_vm}
use Rattle.rig_core.specs.declared.Core.{Core}
use Rattle.event.specs.declared.Event.TheVariants.{Extra, Start, Tick}
use Rattle.guest.specs.Record.{ended_as, fresh, older, stopped_standing}
use Rattle.history.specs.History.{state_of}
use Rattle.queue.specs.Entries.{holding, no_entries}
use Rattle.regions.specs.Rules.{listed, none}
use Rattle.table.specs.declared.Clock.{Clock}
use Rattle.trials.specs.Examples.{example, zeros}

-- W1 to W13, in this order
unfoldable pub clauses_of : Core → List Bool
clauses_of c =
    config_sound c ∷ rest_sound c ∷ few_queued c ∷ queued_ready c ∷ places_empty c ∷ idle_at_first c ∷ start_sound c ∷ slot_sound c ∷ left_sound c ∷ runner_ready c ∷ runner_named c
    ∷ numbers_known c ∷ counts_true c ∷ []

-- a sound state: two VMs, a queue of 2 with one entry of VM 1, VM 0 in the first of its two ticks
unfoldable pub good : Core
good = state_of step_of (example 2) (Start ∷ Tick 0 ∷ Extra 1 ∷ [])

pub record Broken : Type 0 where
  pub state : Core
  pub clauses : List Bool

abbrev broken : Core → List Bool → Broken
broken c l = record { state = c; clauses = l }

abbrev clock_with : ℕ → ℕ → ℕ → ℕ → Clock
clock_with started ticked slot left = record { started = started; ticked = ticked; slot = slot; left = left }

-- an entry address past the VM count
abbrev stray_config : Config
stray_config =
    record {
      count = 2;
      room = 2;
      slots = 3;
      entries = 0x1000 ∷ 0x2000 ∷ 0x3000 ∷ zeros 5;
      handlers = 0x1004 ∷ 0x2004 ∷ zeros 6;
      owners = 0 ∷ 1 ∷ 255 ∷ zeros 61;
      durations = 2 ∷ 1 ∷ 1 ∷ zeros 61;
      regions = none;
    }

-- VM 0 may write 0x1000 to 0x1fff, and VM 1 may read from the last of these bytes on (H6)
abbrev stray_regions : Config
stray_regions =
    record {
      count = 2;
      room = 2;
      slots = 3;
      entries = 0x1000 ∷ 0x2000 ∷ zeros 6;
      handlers = 0x1004 ∷ 0x2004 ∷ zeros 6;
      owners = 0 ∷ 1 ∷ 255 ∷ zeros 61;
      durations = 2 ∷ 1 ∷ 1 ∷ zeros 61;
      regions = listed 2 (0 ∷ 1 ∷ zeros 62) (2 ∷ 1 ∷ zeros 62) (0x1000 ∷ 0x1fff ∷ zeros 62) (0x1fff ∷ 0x2fff ∷ zeros 62);
    }

-- W1 to W13
unfoldable pub broken_states : List Broken
broken_states =
    -- W1: not legal
    broken (with_config good stray_config) (false ∷ true ∷ true ∷ true ∷ true ∷ true ∷ true ∷ true ∷ true ∷ true ∷ true ∷ true ∷ true ∷ [])
    -- W1: not legal for its regions
    ∷ broken (with_config good stray_regions) (false ∷ true ∷ true ∷ true ∷ true ∷ true ∷ true ∷ true ∷ true ∷ true ∷ true ∷ true ∷ true ∷ [])
    -- W2: VM record 5 has an age
    ∷ broken (with_vm good 5 (older fresh)) (true ∷ false ∷ true ∷ true ∷ true ∷ true ∷ true ∷ true ∷ true ∷ true ∷ true ∷ true ∷ true ∷ [])
    -- W3: three entries in a queue of size 2
    ∷ broken (with_queue good (holding (1 ∷ 0 ∷ 1 ∷ []) (1 ∷ 2 ∷ zeros 6))) (true ∷ true ∷ false ∷ true ∷ true ∷ true ∷ true ∷ true ∷ true ∷ true ∷ true ∷ true ∷ true ∷ [])
    -- W4: an entry of VM 3
    ∷ broken (with_queue good (holding (3 ∷ []) (0 ∷ 0 ∷ 0 ∷ 1 ∷ zeros 4))) (true ∷ true ∷ true ∷ false ∷ true ∷ true ∷ true ∷ true ∷ true ∷ true ∷ true ∷ true ∷ true ∷ [])
    -- W5: a number past the entries
    ∷ broken (with_queue good (record { items = 1 ∷ 1 ∷ zeros 14; len = 1; counts = 0 ∷ 1 ∷ zeros 6 })) (true ∷ true ∷ true ∷ true ∷ false ∷ true ∷ true ∷ true ∷ true ∷ true ∷ true ∷ true ∷ true ∷ [])
    -- W6: never ticked, and VM 0 runs
    ∷ broken (with_clock good (clock_with 1 0 0 2)) (true ∷ true ∷ true ∷ true ∷ true ∷ false ∷ true ∷ true ∷ true ∷ true ∷ true ∷ true ∷ true ∷ [])
    -- W7: not started, and VMs are ready
    ∷ broken (with_clock good (clock_with 0 1 0 2)) (true ∷ true ∷ true ∷ true ∷ true ∷ true ∷ false ∷ true ∷ true ∷ true ∷ true ∷ true ∷ true ∷ [])
    -- W8: slot 3 of 3; W9 goes with it, as no number is between 1 and the duration 0 that stands there (S7)
    ∷ broken (with_clock good (clock_with 1 1 3 1)) (true ∷ true ∷ true ∷ true ∷ true ∷ true ∷ true ∷ false ∷ false ∷ true ∷ true ∷ true ∷ true ∷ [])
    -- W9: three ticks left of two, and none
    ∷ broken (with_clock good (clock_with 1 1 0 3)) (true ∷ true ∷ true ∷ true ∷ true ∷ true ∷ true ∷ true ∷ false ∷ true ∷ true ∷ true ∷ true ∷ [])
    ∷ broken (with_clock good (clock_with 1 1 0 0)) (true ∷ true ∷ true ∷ true ∷ true ∷ true ∷ true ∷ true ∷ false ∷ true ∷ true ∷ true ∷ true ∷ [])
    -- W10: VM 0 runs and is stopped
    ∷ broken (with_vm good 0 (ended_as stopped_standing (vm_at good 0))) (true ∷ true ∷ true ∷ true ∷ true ∷ true ∷ true ∷ true ∷ true ∷ false ∷ true ∷ true ∷ true ∷ [])
    -- W11: VM 1 runs in a slot of VM 0
    ∷ broken (with_running good 1) (true ∷ true ∷ true ∷ true ∷ true ∷ true ∷ true ∷ true ∷ true ∷ true ∷ false ∷ true ∷ true ∷ [])
    -- W12: a standing of 5, and a flag of 2
    ∷ broken (with_queue (with_vm good 1 (ended_as 5 (vm_at good 1))) no_entries) (true ∷ true ∷ true ∷ true ∷ true ∷ true ∷ true ∷ true ∷ true ∷ true ∷ true ∷ false ∷ true ∷ [])
    ∷ broken (with_running (with_clock good (clock_with 1 2 0 2)) 255) (true ∷ true ∷ true ∷ true ∷ true ∷ true ∷ true ∷ true ∷ true ∷ true ∷ true ∷ false ∷ true ∷ [])
    -- W13: the entry of VM 1 is not counted; it is counted for VM 0; and VM 7 has a count as well
    ∷ broken (with_queue good (holding (1 ∷ []) (zeros 8))) (true ∷ true ∷ true ∷ true ∷ true ∷ true ∷ true ∷ true ∷ true ∷ true ∷ true ∷ true ∷ false ∷ [])
    ∷ broken (with_queue good (holding (1 ∷ []) (1 ∷ zeros 7))) (true ∷ true ∷ true ∷ true ∷ true ∷ true ∷ true ∷ true ∷ true ∷ true ∷ true ∷ true ∷ false ∷ [])
    ∷ broken (with_queue good (holding (1 ∷ []) (0 ∷ 1 ∷ 0 ∷ 0 ∷ 0 ∷ 0 ∷ 0 ∷ 1 ∷ []))) (true ∷ true ∷ true ∷ true ∷ true ∷ true ∷ true ∷ true ∷ true ∷ true ∷ true ∷ true ∷ false ∷ [])
    ∷ []
