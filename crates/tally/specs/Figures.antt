-- What a moment of a history counts as (N15 to N17). The place in the table is by the ticks accepted before, and the rest by the answer.
use Rattle.std.specs.Prelude.{ℕ, Bool}
use Rattle.basis.specs.Choice.{both}
use Rattle.basis.specs.Nobody.{nobody}
use Rattle.config.specs.declared.Config.{Config}
use Rattle.history.specs.History.{Moment}
use Rattle.history.specs.Moments.{handed, naming, ran_in, runs}

-- N16: an accepted tick in a slot that names v, and runs it
unfoldable pub table_tick : Config → ℕ → Moment → Bool
table_tick g v m = both (naming g v m) (runs v m)

-- N16: an accepted tick in a spare slot, that runs v
unfoldable pub spare_tick : Config → ℕ → Moment → Bool
spare_tick g v m = handed g v m

-- N17: an accepted tick in a slot that names v, at which nothing runs
unfoldable pub missed_tick : Config → ℕ → Moment → Bool
missed_tick g v m = both (naming g v m) (runs nobody m)

-- N17: an accepted tick at which nothing runs
unfoldable pub idle_tick : Moment → Bool
idle_tick m = ran_in nobody m
