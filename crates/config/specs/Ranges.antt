-- What a value of the struct `Config` is, beside what its rules ask: the premises of theorems about configurations.
use Rattle.std.specs.Prelude.{◌≡◌, ℕ, ◌^◌, ◌<◌, true, length}
use Rattle.config.specs.Sizes.{duration_at, entry_at, handler_at, legal, owner_at}
use Rattle.config.specs.declared.Config.{Config}
use Rattle.regions.specs.Ranges.{RegionsSized, RegionsTyped}

-- S7, H1: eight places for VMs, sixty-four for slots and sixty-four for regions
pub record Sized (g : Config) : Type 0 where
  pub entries : length g.entries ≡ 8
  pub handlers : length g.handlers ≡ 8
  pub owners : length g.owners ≡ 64
  pub durations : length g.durations ≡ 64
  pub regions : RegionsSized g.regions

-- a value of the struct: its lists have as many places as its arrays, and each number is of its type
pub record Typed (c : Config) : Type 0 where
  pub sized : Sized c
  pub counts : (c.count < 256) × (c.room < 256) × (c.slots < 256)
  -- S8: an address is any 32-bit number
  pub entry : (k : ℕ) → entry_at c k < 2 ^ 32
  -- S8
  pub handler : (k : ℕ) → handler_at c k < 2 ^ 32
  pub owner : (k : ℕ) → owner_at c k < 256
  pub duration : (k : ℕ) → duration_at c k < 65536
  pub regions : RegionsTyped c.regions

-- what the demands ask of a configuration: it is legal, and its lists are as long as its arrays
pub record Given (g : Config) : Type 0 where
  pub legal : legal g ≡ true
  pub sized : Sized g
