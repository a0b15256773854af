-- The sizes: one rule for each sentence of S1 to S7; a legal configuration, with the rules of its regions; the access query.
use Rattle.std.specs.Prelude.{◌≡◌, ℕ, ◌<◌, ◌≤◌, Bool, ◌⊎◌, List, ◌==◌, ◌≢◌, nat_eq, nat_le, nat_lt, slice_index}
use Rattle.basis.specs.Bounds.{empty_past, within}
use Rattle.basis.specs.Choice.{both, either, pick}
use Rattle.basis.specs.Count.{every, some}
use Rattle.basis.specs.Nobody.{nobody}
use Rattle.config.specs.declared.Config.{Config}
use Rattle.grants.specs.Access.{Allowed, allowed}
use Rattle.regions.specs.Rules.{Lawful, holder_at, last_at, lawful, none, start_at}
use Rattle.regions.specs.declared.Regions.{Regions}

-- a configuration by its parts
abbrev pub config_of : ℕ → ℕ → ℕ → List ℕ → List ℕ → List ℕ → List ℕ → Regions → Config
config_of count room slots entries handlers owners durations regions =
    record { count = count; room = room; slots = slots; entries = entries; handlers = handlers; owners = owners; durations = durations; regions = regions }

-- without its regions
abbrev pub bare : Config → Config
bare c = config_of c.count c.room c.slots c.entries c.handlers c.owners c.durations none

-- what stands at place k
abbrev pub entry_at : Config → ℕ → ℕ
entry_at c k = slice_index c.entries k

abbrev pub handler_at : Config → ℕ → ℕ
handler_at c k = slice_index c.handlers k

abbrev pub owner_at : Config → ℕ → ℕ
owner_at c k = slice_index c.owners k

abbrev pub duration_at : Config → ℕ → ℕ
duration_at c k = slice_index c.durations k

abbrev pub is_spare : ℕ → Bool
is_spare owner = owner == nobody

-- S1: 1 to 8 VMs
abbrev pub vms_fit : Config → Bool
vms_fit c = within 1 8 c.count

-- S2: a queue of 0 to 16 entries
abbrev pub room_fits : Config → Bool
room_fits c = nat_le c.room 16

-- S3: 1 to 64 slots
abbrev pub slots_fit : Config → Bool
slots_fit c = within 1 64 c.slots

-- S4: a named slot lasts 1 to 1,000 ticks, a spare one exactly 1
abbrev pub lasts : ℕ → ℕ → Bool
lasts owner ticks = pick (is_spare owner) (ticks == 1) (within 1 1000 ticks)

unfoldable pub durations_fit : Config → Bool
durations_fit c = every (λ k. lasts (owner_at c k) (duration_at c k)) c.slots

-- S5: a slot is spare, or names a VM of the configuration
abbrev pub names : ℕ → ℕ → Bool
names count owner = either (is_spare owner) (nat_lt owner count)

unfoldable pub owners_fit : Config → Bool
owners_fit c = every (λ k. names c.count (owner_at c k)) c.slots

-- S4 and S5 of one slot
abbrev pub slot_fits : ℕ → ℕ → ℕ → Bool
slot_fits count owner ticks = both (lasts owner ticks) (names count owner)

-- S6: each VM has a slot
unfoldable pub has_slot : Config → ℕ → Bool
has_slot c v = some (λ k. nat_eq (owner_at c k) v) c.slots

unfoldable pub vms_served : Config → Bool
vms_served c = every (has_slot c) c.count

-- S7: places past the counts hold zero
unfoldable pub vms_rest : Config → Bool
vms_rest c = every (λ k. empty_past c.count k (entry_at c k) (handler_at c k)) 8

unfoldable pub slots_rest : Config → Bool
slots_rest c = every (λ k. empty_past c.slots k (owner_at c k) (duration_at c k)) 64

-- S1 to S7, H1 to H6
unfoldable pub legal : Config → Bool
legal c =
    both (vms_fit c)
    (both (room_fits c)
    (both (slots_fit c)
    (both (lawful c.count c.regions)
    (both (durations_fit c)
    (both (owners_fit c)
    (both (vms_served c)
    (both (vms_rest c) (slots_rest c))))))))

-- H8 to H11: the access query; an illegal configuration, an unknown VM and an unknown way are no
unfoldable pub access : Config → ℕ → ℕ → ℕ → ℕ → Bool
access c v address length way =
    both (legal c)
    (both (nat_lt v c.count)
    (both (within 1 3 way)
    (allowed c.regions v address length way)))

-- S1 to S7, H1 to H6 as facts
pub record Legal (c : Config) : Type 0 where
  pub vms : (1 ≤ c.count) × (c.count ≤ 8)
  pub queue : c.room ≤ 16
  pub table : (1 ≤ c.slots) × (c.slots ≤ 64)
  pub spares : (k : ℕ) → k < c.slots → owner_at c k ≡ nobody → duration_at c k ≡ 1
  pub named : (k : ℕ) → k < c.slots → (owner_at c k ≢ nobody) → (1 ≤ duration_at c k) × (duration_at c k ≤ 1000)
  pub owned : (k : ℕ) → k < c.slots → (owner_at c k ≡ nobody) ⊎ (owner_at c k < c.count)
  pub regions : Lawful c.count c.regions
  pub served : (v : ℕ) → v < c.count → (k : ℕ) × (k < c.slots) × (owner_at c k ≡ v)
  pub vms_empty : (k : ℕ) → c.count ≤ k → k < 8 → (entry_at c k ≡ 0) × (handler_at c k ≡ 0)
  pub slots_empty : (k : ℕ) → c.slots ≤ k → k < 64 → (owner_at c k ≡ 0) × (duration_at c k ≡ 0)

-- H8 to H11 as facts
pub record Accessible (c : Config) (v address length way : ℕ) : Type 0 where
  pub legal : Legal c
  pub vm : v < c.count
  pub asked : (1 ≤ way) × (way ≤ 3)
  pub bytes : Allowed c.regions v address length way

-- H6: a byte that VM v may write and VM w may access lies in a region of each, and the two have the same range
pub record Shared (c : Config) (v w a : ℕ) : Type 0 where
  pub mine : ℕ
  pub yours : ℕ
  pub listed : (mine < c.regions.count) × (yours < c.regions.count)
  pub held : (holder_at c.regions mine ≡ v) × (holder_at c.regions yours ≡ w)
  pub inside : (start_at c.regions mine ≤ a) × (a ≤ last_at c.regions mine)
  pub same : (start_at c.regions mine ≡ start_at c.regions yours) × (last_at c.regions mine ≡ last_at c.regions yours)
