-- What a value of the struct `Regions` is, beside what its rules ask: the premises of theorems about regions.
use Rattle.std.specs.Prelude.{ℕ, ◌<◌, ◌^◌, length, ◌≡◌}
use Rattle.regions.specs.Rules.{holder_at, last_at, permission_at, start_at}
use Rattle.regions.specs.declared.Regions.{Regions}

-- H1: sixty-four places
pub record RegionsSized (r : Regions) : Type 0 where
  pub holders : length r.holders ≡ 64
  pub permissions : length r.permissions ≡ 64
  pub starts : length r.starts ≡ 64
  pub lasts : length r.lasts ≡ 64

-- a value of the struct: its lists have as many places as its arrays, and each number is of its type
pub record RegionsTyped (r : Regions) : Type 0 where
  pub sized : RegionsSized r
  pub count : r.count < 256
  pub holder : (k : ℕ) → holder_at r k < 256
  pub permission : (k : ℕ) → permission_at r k < 256
  -- S8: an address is any 32-bit number
  pub start : (k : ℕ) → start_at r k < 2 ^ 32
  pub last : (k : ℕ) → last_at r k < 2 ^ 32
