-- What a history tells: how each VM stands, whether the core is started, which requests are queued, and whom a tick has to run.
use Rattle.std.specs.Prelude.{ℕ, eqb, leb, Bool, not, List, [], ◌∷◌}
use Rattle.basis.specs.Choice.{both, either, pick}
use Rattle.basis.specs.Nobody.{nobody}
use Rattle.change.specs.declared.Answer.{Answer}
use Rattle.config.specs.Sizes.{is_spare}
use Rattle.config.specs.declared.Config.{Config}
use Rattle.event.specs.Kinds.{is_restart, is_start}
use Rattle.event.specs.declared.Event.TheVariants.{Call, Copy, Extra, Fault, Restart, Shutdown, Start, Stop, Tick, Write}
use Rattle.event.specs.declared.Event.{Event}
use Rattle.history.specs.History.{Moment, told, went}
use Rattle.history.specs.Moments.{tells_error}
use Rattle.history.specs.Queueing.{affected, effect}
use Rattle.queue.specs.Entries.{front_of}

-- at each moment, of what is told before it
abbrev pub EachTold : {A : Type 0} → (Moment → A → A) → (A → Moment → Type 0) → A → List Moment → Type 0
EachTold f p a [] = Unit {0}
EachTold f p a (m ∷ ms) = p a m × EachTold f p (f m a) ms

-- ---- standing: none (0), ready (1), stopped (2), shut down (3), in error (4)

-- D27, D28, D30: the VM that calls shuts itself down, or is in error
abbrev pub standing_by_call : ℕ → ℕ → ℕ → ℕ
standing_by_call service argument t =
    pick (eqb service 2) (pick (leb argument 31) t 4)
    (pick (eqb service 3) 3
    (pick (leb service 4) t 4))

-- D1, D14, D18, D23, D33, D34: the standing of v after an event that is done with answer a, where it was t and VM r was running
abbrev pub standing_by : ℕ → ℕ → Answer → Event → ℕ → ℕ
standing_by v r a Start t = 1
standing_by v r a (Tick at) t = t
standing_by v r a (Stop w) t = pick (eqb w v) 2 t
standing_by v r a (Shutdown w) t = t
standing_by v r a (Restart w) t = pick (eqb w v) 1 t
standing_by v r a (Extra w) t = t
standing_by v r a (Call s n at) t = pick (eqb r v) (standing_by_call s n t) t
standing_by v r a (Write o x) t = t
standing_by v r a (Fault k d) t = pick (eqb r v) 4 t
standing_by v r a (Copy p w) t = pick (both (tells_error a) (eqb r v)) 4 t

unfoldable pub standing_after : ℕ → Moment → ℕ → ℕ
standing_after v m t = pick (went m) (standing_by v m.before.running m.answer m.event t) t

-- T3: none before Start; then by the last accepted event that names v or that v made
abbrev pub standing_in : ℕ → List Moment → ℕ
standing_in v ms = told (standing_after v) 0 ms

-- an event with answer a takes v out of ready, where r was running
abbrev pub ended_by : ℕ → ℕ → Answer → Event → Bool
ended_by v r a e = not (eqb (standing_by v r a e 1) 1)

-- v is stopped, shut down, in error, or restarted
unfoldable pub ends : ℕ → Moment → Bool
ends v m = both (went m) (either (is_restart v m.event) (ended_by v m.before.running m.answer m.event))

-- ---- started: 1 from the accepted Start on

-- D2
unfoldable pub started_after : Moment → ℕ → ℕ
started_after m t = pick (both (went m) (is_start m.event)) 1 t

abbrev pub started_in : List Moment → ℕ
started_in ms = told started_after 0 ms

-- ---- the queue's entries, the oldest first, from none on

unfoldable pub queue_after : Config → Moment → List ℕ → List ℕ
queue_after g m q = affected (effect g m) q

abbrev pub queue_in : Config → List Moment → List ℕ
queue_in g ms = told (queue_after g) [] ms

-- D6, D7: whom a tick runs that the table has for `owner`: the VM that it names if that is ready; at a spare tick the oldest entry's
abbrev pub chosen_in : Config → ℕ → List Moment → ℕ
chosen_in g owner ms = pick (is_spare owner) (front_of (queue_in g ms)) (pick (eqb (standing_in owner ms) 1) owner nobody)
