-- The table tick by tick, and the tick of it at which the clock stands (D5, D10).
use Rattle.std.specs.Prelude.{suc, zero, ℕ, ◌%◌, ◌+◌, ◌-◌, ◌<◌, ◌≤◌, get_or, length, replicate, false, true, List, ◌≡◌}
use Rattle.basis.specs.Count.{joined}
use Rattle.basis.specs.Nobody.{nobody}
use Rattle.config.specs.Sizes.{duration_at, owner_at}
use Rattle.config.specs.declared.Config.{Config}
use Rattle.table.specs.Position.{has_ticked}
use Rattle.table.specs.declared.Clock.{Clock}

-- D10: the table tick by tick, up to a slot: each slot's VM, or 255 for spare, as often as the slot lasts
unfoldable pub table_to : Config → ℕ → List ℕ
table_to g slot = joined (λ i. replicate (duration_at g i) (owner_at g i)) slot

abbrev pub table_of : Config → List ℕ
table_of g = table_to g g.slots

-- D10: the sum of all durations
abbrev pub sum_of : Config → ℕ
sum_of g = length (table_of g)

-- D10: accepted tick number k + 1 stands at table tick k modulo the sum: the VM that it names, or nobody
abbrev pub table_at : Config → ℕ → ℕ
table_at g k = get_or (table_of g) (k % sum_of g) nobody

-- D10: the clock stands at table tick k modulo the sum of durations, counted from 0
pub record Placed (g : Config) (k : ℕ) (h : Clock) : Type 0 where
  pub ticked : has_ticked h ≡ true
  pub slot : h.slot < g.slots
  pub left : (1 ≤ h.left) × (h.left ≤ duration_at g h.slot)
  pub place : length (table_to g h.slot) + (duration_at g h.slot - h.left) ≡ k % sum_of g
  pub owner : owner_at g h.slot ≡ table_at g k

-- D2, D10: after no accepted tick the table was not entered; after k + 1 the clock stands at table tick k
abbrev pub Stands : Config → ℕ → Clock → Type 0
Stands g zero h = has_ticked h ≡ false
Stands g (suc k) h = Placed g k h
