-- Second demand: the place in the table, and the clocks.
use Rattle.std.specs.Prelude.{ℕ, ◌%◌, ◌<◌, ◌^◌, true, List, [], ◌++◌, ◌∷◌, ◌≡◌}
use Rattle.config.specs.declared.Config.{Config}
use Rattle.rig_core.specs.State.{vm_at}
use Rattle.rig_core.specs.declared.Core.{Core}
use Rattle.history.specs.History.{AtEachEvent, AtEachState, Behaviour, Moment, since_last, ticking}
use Rattle.history.specs.Moments.{begins, ran_in}
use Rattle.table.specs.Place.{Stands}

-- ---- the table, after k accepted ticks

pub record TableOf (g : Config) (ms : List Moment) (k : ℕ) (c : Core) : Type 0 where
  -- the configuration stays
  pub kept : c.config ≡ g
  -- D5, D10: after no accepted tick the table was not entered; after k + 1 the core stands at table tick k modulo the sum of durations
  pub stands : Stands g k c.clock
  -- D2, T6: before the first tick the slot and the ticks left are zero
  pub unentered : k ≡ 0 → (c.clock.slot ≡ 0) × (c.clock.left ≡ 0)

-- whatever the events were
abbrev pub Table : Behaviour → Type 0
Table = AtEachState TableOf

-- ---- the core's own counts

-- the accepted ticks since v was last started or restarted, and those of them that ran v
abbrev pub age_in : ℕ → List Moment → ℕ
age_in v ms = since_last (begins v) ticking 0 ms

abbrev pub ran_since : ℕ → List Moment → ℕ
ran_since v ms = since_last (begins v) (ran_in v) 0 ms

-- T4, D4, C5
pub record ClocksOf (g : Config) (ms : List Moment) (k : ℕ) (c : Core) : Type 0 where
  pub age : (v : ℕ) → v < g.count → (vm_at c v).age ≡ age_in v ms % 2 ^ 32
  pub ran : (v : ℕ) → v < g.count → (vm_at c v).ran ≡ ran_since v ms % 2 ^ 32

abbrev pub Clocks : Behaviour → Type 0
Clocks = AtEachState ClocksOf

-- ---- what a tick shows to the VM that it runs

-- D8, C4: the fields at 0, 4 and 36 show age, ticks left and ticks run of the history
pub record Shown (v : ℕ) (c : Core) (ms : List Moment) : Type 0 where
  pub age : (vm_at c v).status.since ≡ age_in v ms % 2 ^ 32
  pub left : (vm_at c v).status.left ≡ c.clock.left
  pub ran : (vm_at c v).status.running ≡ ran_since v ms % 2 ^ 32

abbrev pub ShowsOf : Config → List Moment → Moment → Type 0
ShowsOf g ms m = (v : ℕ) → v < g.count → ran_in v m ≡ true → Shown v m.after (ms ++ (m ∷ []))

abbrev pub Shows : Behaviour → Type 0
Shows = AtEachEvent ShowsOf
