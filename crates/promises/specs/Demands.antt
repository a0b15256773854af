-- All demands on a behaviour: the rules for one event after the other, and what a run of them amounts to.
use Rattle.history.specs.History.{Behaviour}
use Rattle.promises.specs.Answering.{Removing, Tells}
use Rattle.promises.specs.Delivering.{Delivers}
use Rattle.promises.specs.Framing.{Framed, Starts, Stores}
use Rattle.promises.specs.Refusing.{Refuses, StaysSound}
use Rattle.promises.specs.Sharing.{Accounts, Slices, Waiting}
use Rattle.promises.specs.Timing.{Clocks, Shows, Table}
use Rattle.promises.specs.Tracing.{Runs, Traced}

-- the first and the second demand: what each event of a run answers, and what it makes of the state. They leave only one core
pub record Rules (b : Behaviour) : Type 0 where
  pub refuses : Refuses b
  pub stays_sound : StaysSound b
  pub tells : Tells b
  pub removing : Removing b
  pub table : Table b
  pub clocks : Clocks b
  pub shows : Shows b
  pub delivers : Delivers b
  pub starts : Starts b
  pub traced : Traced b
  pub runs : Runs b
  pub stores : Stores b
  pub framed : Framed b

-- C10: with the third demand, over whole runs; it follows from the rules
pub record KeepsAll (b : Behaviour) : Type 0 where
  pub rules : Rules b
  pub slices : Slices b
  pub waiting : Waiting b
  pub accounts : Accounts b
