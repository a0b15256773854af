-- That the figures add up: no accepted tick is lost, and none counts twice.
use Rattle.std.specs.Prelude.{suc, zero, ℕ, ◌+◌, ◌<◌, false, true, List, ◌≡◌}
use Rattle.config.specs.declared.Config.{Config}
use Rattle.rig_core.specs.State.{ready_at}
use Rattle.history.specs.History.{Moment, ticking, times}
use Rattle.history.specs.Moments.{naming}
use Rattle.tally.specs.Figures.{idle_tick, missed_tick, spare_tick, table_tick}

-- f 0 + f 1 + .. + f (n - 1)
unfoldable pub total : (ℕ → ℕ) → ℕ → ℕ
total f zero = 0
total f (suc n) = total f n + f n

-- N16, N17
pub record Adds (g : Config) (ms : List Moment) : Type 0 where
  -- table and spare ticks of all VMs, and the idle ticks, are the accepted ticks
  pub all : total (λ v. times (table_tick g v) ms + times (spare_tick g v) ms) g.count + times idle_tick ms ≡ times ticking ms
  -- a VM's table ticks and missed ticks are the accepted ticks that the table names for it
  pub named : (v : ℕ) → v < g.count → times (table_tick g v) ms + times (missed_tick g v) ms ≡ times (naming g v) ms

-- N17: a tick that v missed found it not ready
abbrev pub Unready : Config → ℕ → Moment → Type 0
Unready g v m = missed_tick g v m ≡ true → ready_at m.before v ≡ false
