-- Second demand: the rest of the answer. Who runs and where, the notice, the result, what is removed from the queue.
use Rattle.std.specs.Prelude.{ℕ, ◌+◌, eqb, leb, true, List, ◌≡◌}
use Rattle.basis.specs.Choice.{both, pick}
use Rattle.change.specs.declared.Notice.{Notice}
use Rattle.config.specs.declared.Config.{Config}
use Rattle.rig_core.specs.State.{vm_at}
use Rattle.rig_core.specs.declared.Core.{Core}
use Rattle.event.specs.Kinds.{byte_of, is_call}
use Rattle.event.specs.declared.Event.TheVariants.{Call, Copy, Extra, Fault, Restart, Shutdown, Start, Stop, Tick, Write}
use Rattle.event.specs.declared.Event.{Event}
use Rattle.history.specs.History.{AtEachEvent, Behaviour, Moment, went}
use Rattle.history.specs.Queueing.{effect, removed_from, removes}
use Rattle.history.specs.Telling.{queue_in}
use Rattle.promises.specs.Copying.{failure_for}

-- A4: no notice (0), stopped by the master (1), shut down by itself (2), in error (3)
abbrev pub noticed : ℕ → ℕ → ℕ → ℕ → Notice
noticed kind v code detail = record { kind = kind; vm = v; code = code; detail = detail }

abbrev pub no_notice : Notice
no_notice = noticed 0 0 0 0

-- A4, A5: the notice of an event that is done, in the state c
abbrev pub notice_by : Core → Event → Notice
notice_by c Start = no_notice
notice_by c (Tick at) = no_notice
notice_by c (Stop v) = noticed 1 v 0 0
notice_by c (Shutdown v) = no_notice
notice_by c (Restart v) = no_notice
notice_by c (Extra v) = no_notice
notice_by c (Call s n at) =
    pick (eqb s 2) (pick (leb n 31) no_notice (noticed 3 c.running 2 n))
    (pick (eqb s 3) (noticed 2 c.running 0 0)
    (pick (leb s 4) no_notice (noticed 3 c.running 1 s)))
notice_by c (Write o x) = no_notice
notice_by c (Fault k d) = noticed 3 c.running k d
notice_by c (Copy p w) = pick (eqb (failure_for c w p).code 0) no_notice (noticed 3 c.running (failure_for c w p).code (failure_for c w p).detail)

-- A6: 1 for a Call for extra time that finds the queue full, and else 0
abbrev pub result_by : Core → Event → ℕ
result_by c e = pick (both (is_call e) (both (eqb (byte_of e) 4) (leb c.config.room c.queue.len))) 1 0

-- A1, A2, A7: the answer shows the VM that now runs, and where it goes on; and the notice and the result of what was done
pub record TellsOf (g : Config) (ms : List Moment) (m : Moment) : Type 0 where
  pub running : m.answer.running ≡ m.after.running
  pub address : m.answer.address ≡ (vm_at m.after m.after.running).address
  pub notice : went m ≡ true → m.answer.notice ≡ notice_by m.before m.event
  pub result : went m ≡ true → m.answer.result ≡ result_by m.before m.event

abbrev pub Tells : Behaviour → Type 0
Tells = AtEachEvent TellsOf

pub record RemovesOf (g : Config) (ms : List Moment) (m : Moment) : Type 0 where
  -- A8: as many entries as its VM had before an event that takes them out; 0 at every other event, and at a refusal
  pub count : m.answer.removed ≡ removed_from (effect g m) (queue_in g ms)
  -- by so many such an event leaves the queue shorter
  pub shorter : (v : ℕ) → removes g v m ≡ true → m.before.queue.len ≡ m.after.queue.len + m.answer.removed

abbrev pub Removing : Behaviour → Type 0
Removing = AtEachEvent RemovesOf
