-- The state of a core: how it is read, and the fresh one (T1 to T7).
use Rattle.std.specs.Prelude.{ℕ, eqb, leb, get_or, length, replicate, set, Bool, List, ◌≡◌}
use Rattle.basis.specs.Nobody.{nobody}
use Rattle.config.specs.Ranges.{Sized}
use Rattle.config.specs.Sizes.{owner_at}
use Rattle.config.specs.declared.Config.{Config}
use Rattle.rig_core.specs.declared.Core.{Core}
use Rattle.guest.specs.Record.{fresh, is_ready}
use Rattle.guest.specs.declared.Vm.{Vm}
use Rattle.queue.specs.Entries.{Places, no_entries}
use Rattle.queue.specs.declared.Queue.{Queue}
use Rattle.table.specs.Position.{fresh_clock}
use Rattle.table.specs.declared.Clock.{Clock}

-- VM record i; past the last the fresh one
abbrev pub vm_at : Core → ℕ → Vm
vm_at c i = get_or c.vms i fresh

abbrev pub ready_at : Core → ℕ → Bool
ready_at c i = is_ready (vm_at c i)

abbrev pub idle : Core → Bool
idle c = eqb c.running nobody

-- A7: where no VM runs this is 0
abbrev pub address_of : Core → ℕ
address_of c = (vm_at c c.running).address

-- the VM that the current slot names, or 255 for spare
abbrev pub owner_now : Core → ℕ
owner_now c = owner_at c.config c.clock.slot

-- as many entries as the queue's size: always, where that is 0 (R4)
abbrev pub full : Core → Bool
full c = leb c.config.room c.queue.len

-- T6, T7: of any configuration
abbrev pub fresh_core : Config → Core
fresh_core g = record { config = g; clock = fresh_clock; running = nobody; queue = no_entries; vms = replicate 8 fresh }

-- ---- the state with one part replaced

abbrev pub with_config : Core → Config → Core
with_config c config = record { config = config; clock = c.clock; running = c.running; queue = c.queue; vms = c.vms }

abbrev pub with_clock : Core → Clock → Core
with_clock c clock = record { config = c.config; clock = clock; running = c.running; queue = c.queue; vms = c.vms }

abbrev pub with_running : Core → ℕ → Core
with_running c running = record { config = c.config; clock = c.clock; running = running; queue = c.queue; vms = c.vms }

abbrev pub with_queue : Core → Queue → Core
with_queue c queue = record { config = c.config; clock = c.clock; running = c.running; queue = queue; vms = c.vms }

abbrev pub with_vms : Core → List Vm → Core
with_vms c vms = record { config = c.config; clock = c.clock; running = c.running; queue = c.queue; vms = vms }

-- K2: record v alone
abbrev pub with_vm : Core → ℕ → Vm → Core
with_vm c v vm = with_vms c (set c.vms v vm)

-- what the types say of the lists: eight records (T1), sixteen places and eight counts (T5), and the places of the configuration (S7)
pub record Shaped (c : Core) : Type 0 where
  pub records : length c.vms ≡ 8
  pub places : Places c.queue
  pub sized : Sized c.config
