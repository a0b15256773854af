-- From what the checker knows of a value's type to the premises of the theorems.
use Rattle.std.proofs.Common.{◌≡◌, ℕ, ◌<◌, length, w8, w16, w32, Fits}
use Rattle.config.specs.Ranges.{Typed}
use Rattle.config.specs.Sizes.{duration_at, entry_at, handler_at, owner_at}
use Rattle.config.specs.declared.Config.{Config}
use Rattle.regions.specs.Ranges.{RegionsTyped}
use Rattle.regions.specs.Rules.{holder_at, last_at, permission_at, start_at}
use Rattle.regions.specs.declared.Regions.{Regions}

pub typed_of : (c : Config) → length c.entries ≡ 8 → length c.handlers ≡ 8 → length c.owners ≡ 64 → length c.durations ≡ 64
    → c.count < 256 → c.room < 256 → c.slots < 256
    → ((k : ℕ) → Fits w32 (entry_at c k)) → ((k : ℕ) → Fits w32 (handler_at c k)) → ((k : ℕ) → Fits w8 (owner_at c k)) → ((k : ℕ) → Fits w16 (duration_at c k))
    → RegionsTyped c.regions → Typed c
typed_of c a b d e x y z p q r s t = record {
  sized = record { entries = a; handlers = b; owners = d; durations = e; regions = t.sized };
  counts = (x, y, z);
  entry = λ k. (p k).fits;
  handler = λ k. (q k).fits;
  owner = λ k. (r k).fits;
  duration = λ k. (s k).fits;
  regions = t;
}

pub regions_of : (r : Regions) → length r.holders ≡ 64 → length r.permissions ≡ 64 → length r.starts ≡ 64 → length r.lasts ≡ 64 → r.count < 256
    → ((k : ℕ) → Fits w8 (holder_at r k)) → ((k : ℕ) → Fits w8 (permission_at r k)) → ((k : ℕ) → Fits w32 (start_at r k)) → ((k : ℕ) → Fits w32 (last_at r k))
    → RegionsTyped r
regions_of r a b d e x p q s t = record {
  sized = record { holders = a; permissions = b; starts = d; lasts = e };
  count = x;
  holder = λ k. (p k).fits;
  permission = λ k. (q k).fits;
  start = λ k. (s k).fits;
  last = λ k. (t k).fits;
}
