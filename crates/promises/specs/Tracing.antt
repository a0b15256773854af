-- Second demand: the state is what the history tells, and so is who runs.
use Rattle.std.specs.Prelude.{ℕ, ◌<◌, length, false, true, List, ◌≡◌}
use Rattle.basis.specs.Choice.{pick}
use Rattle.config.specs.declared.Config.{Config}
use Rattle.rig_core.specs.State.{vm_at}
use Rattle.rig_core.specs.declared.Core.{Core}
use Rattle.event.specs.Kinds.{is_tick}
use Rattle.history.specs.History.{AtEachEvent, AtEachState, Behaviour, Moment, ticking, went}
use Rattle.history.specs.Telling.{chosen_in, ended_by, queue_in, standing_in, started_in}
use Rattle.queue.specs.Entries.{Places, entries}
use Rattle.table.specs.Place.{table_at}

pub record TracedOf (g : Config) (ms : List Moment) (k : ℕ) (c : Core) : Type 0 where
  -- T3, D1, D14, D18, D23, D27, D28, D30: how each VM stands
  pub standing : (v : ℕ) → v < g.count → (vm_at c v).standing ≡ standing_in v ms
  -- D2: whether the core is started
  pub started : c.clock.started ≡ started_in ms
  -- T5, D7, D14, D18, D20, D29: the requests that are queued, the oldest first
  pub queue : entries c.queue ≡ queue_in g ms
  -- T1, T5: eight records, sixteen places, eight counts
  pub records : length c.vms ≡ 8
  pub places : Places c.queue

abbrev pub Traced : Behaviour → Type 0
Traced = AtEachState TracedOf

pub record RunsOf (g : Config) (ms : List Moment) (m : Moment) : Type 0 where
  -- D6, D7: at a tick the VM that table, standing and queue name, or nobody
  pub tick : ticking m ≡ true → m.after.running ≡ chosen_in g (table_at g m.ticks) ms
  -- D2, D15, D19, D23, D28: at any other event the same VM, or nobody where the event ended it
  pub other : went m ≡ true → is_tick m.event ≡ false
      → m.after.running ≡ pick (ended_by m.before.running m.before.running m.answer m.event) 255 m.before.running

abbrev pub Runs : Behaviour → Type 0
Runs = AtEachEvent RunsOf
