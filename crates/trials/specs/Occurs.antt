-- Two runs of ours in which the premises of the third demand hold and its counts are not zero.
use Rattle.std.specs.Prelude.{true, List, [], ◌∷◌, ◌≡◌}
use Rattle.rig_core.specs.Events.{step_of}
use Rattle.event.specs.declared.Event.TheVariants.{Extra, Restart, Shutdown, Start, Stop, Tick, Write}
use Rattle.event.specs.declared.Event.{Event}
use Rattle.history.specs.History.{Moment, after, history, next, times}
use Rattle.history.specs.Moments.{asks, handed, naming, ran_in, spare}
use Rattle.history.specs.Queueing.{marked, plain, removed_in, served_in}
use Rattle.history.specs.Telling.{ends, queue_in}
use Rattle.queue.specs.Entries.{entries_of}
use Rattle.trials.specs.Examples.{example}

-- a request of VM 0 behind one of VM 1
abbrev pub behind : Moment
behind = next step_of (example 2) (Start ∷ Extra 1 ∷ []) (Extra 0)

-- eight ticks after it, and what does not matter
abbrev pub eight : List Moment
eight = after step_of behind (Tick 0 ∷ Tick 0 ∷ Tick 0 ∷ Write 36 5 ∷ Tick 0 ∷ Tick 0 ∷ Shutdown 1 ∷ Tick 0 ∷ Tick 0 ∷ Tick 0 ∷ [])

abbrev pub mixed : List Event
mixed = Start ∷ Extra 0 ∷ Extra 1 ∷ Extra 0 ∷ Extra 0 ∷ Tick 0 ∷ Tick 0 ∷ Tick 0 ∷ Tick 0 ∷ Stop 1 ∷ Restart 0 ∷ Extra 0 ∷ []

pub record NotEmpty : Type 0 where
  -- nothing ends VM 0, two ticks are spare, VM 0 has four of its own and one handed to it, and its request is served
  pub asked : asks 0 behind ≡ true
  pub goes_on : times (ends 0) eight ≡ 0
  pub spares : times (spare (example 2)) eight ≡ 2
  pub named : times (naming (example 2) 0) eight ≡ 4
  pub handed_one : times (handed (example 2) 0) eight ≡ 1
  pub ran : times (ran_in 0) eight ≡ 5
  pub served : served_in (example 2) 0 (plain 1 ∷ marked 0 ∷ []) eight ≡ true
  -- C9: of four requests of VM 0 one is served, two are removed, and one still stands
  pub requests : times (asks 0) (history step_of (example 4) mixed) ≡ 4
  pub granted : times (handed (example 4) 0) (history step_of (example 4) mixed) ≡ 1
  pub removed : removed_in (example 4) 0 (history step_of (example 4) mixed) ≡ 2
  pub standing : entries_of 0 (queue_in (example 4) (history step_of (example 4) mixed)) ≡ 1
