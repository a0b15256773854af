-- What a moment of a history is: a tick of the table, a spare tick, a tick that runs a VM, a request, a start.
use Rattle.std.specs.Prelude.{ℕ, eqb, Bool}
use Rattle.basis.specs.Choice.{both, either, pick}
use Rattle.basis.specs.Nobody.{nobody}
use Rattle.change.specs.declared.Answer.{Answer}
use Rattle.config.specs.declared.Config.{Config}
use Rattle.rig_core.specs.declared.Core.{Core}
use Rattle.event.specs.Kinds.{byte_of, is_call, is_extra, is_restart, is_start}
use Rattle.event.specs.declared.Event.{Event}
use Rattle.history.specs.History.{Moment, ticking, went}
use Rattle.table.specs.Place.{table_at}

-- D10, N15: an accepted tick that the table names for v
unfoldable pub naming : Config → ℕ → Moment → Bool
naming g v m = both (ticking m) (eqb (table_at g m.ticks) v)

-- an accepted tick that the table leaves spare
abbrev pub spare : Config → Moment → Bool
spare g m = naming g nobody m

abbrev pub runs : ℕ → Moment → Bool
runs v m = eqb m.answer.running v

-- N16: an accepted tick that runs v
abbrev pub ran_in : ℕ → Moment → Bool
ran_in v m = both (ticking m) (runs v m)

-- D7, N16: a spare tick handed to v
abbrev pub handed : Config → ℕ → Moment → Bool
handed g v m = both (spare g m) (runs v m)

-- D20, D29: the master's Extra for v, and v's own service 4 with result 0
abbrev pub is_request : ℕ → Core → Answer → Event → Bool
is_request v c a e =
    pick (is_extra e) (eqb (byte_of e) v)
    (both (is_call e) (both (eqb (byte_of e) 4) (both (eqb a.result 0) (eqb c.running v))))

-- A4: the answer tells that a VM went into error
abbrev pub tells_error : Answer → Bool
tells_error a = eqb a.notice.kind 3

-- C9: a request of v, accepted
unfoldable pub asks : ℕ → Moment → Bool
asks v m = both (went m) (is_request v m.before m.answer m.event)

-- D1, D18: v is started or restarted
unfoldable pub begins : ℕ → Moment → Bool
begins v m = both (went m) (either (is_start m.event) (is_restart v m.event))
