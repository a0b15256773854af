-- What each event does (D1 to D36), and an event as a whole: refused, or done.
use Rattle.std.specs.Prelude.{ℕ, eqb}
use Rattle.basis.specs.Choice.{pick}
use Rattle.basis.specs.Nobody.{nobody}
use Rattle.change.specs.Answers.{no_notice, notice_of}
use Rattle.change.specs.Changes.{called_from, copying_from}
use Rattle.change.specs.declared.Change.{Change}
use Rattle.config.specs.Sizes.{handler_at, is_spare, owner_at}
use Rattle.copies.specs.Failing.{copy_failure, may}
use Rattle.copies.specs.declared.Failure.{Failure}
use Rattle.rig_core.specs.Changes.{answering, changed_by, ending, failing, queueing, renewed, restarting}
use Rattle.rig_core.specs.Refusals.{refusal_of, refused, row_of}
use Rattle.rig_core.specs.State.{with_clock, with_queue, with_running, with_vms, full, vm_at}
use Rattle.rig_core.specs.declared.Core.{Core}
use Rattle.rig_core.specs.declared.Stepped.{Stepped}
use Rattle.event.specs.declared.Event.TheVariants.{Call, Copy, Extra, Fault, Restart, Shutdown, Start, Stop, Tick, Write}
use Rattle.event.specs.declared.Event.{Event}
use Rattle.guest.specs.Record.{pend, saved_at, stopped_standing}
use Rattle.guest.specs.Write.{write}
use Rattle.guest.specs.declared.Vm.{Vm}
use Rattle.queue.specs.Entries.{entries, front_of, popped}
use Rattle.queue.specs.declared.Queue.{Queue}
use Rattle.table.specs.Position.{next_clock, started_clock}
use Rattle.table.specs.declared.Clock.{Clock}
use Rattle.vms.specs.Records.{started_all}
use Rattle.vms.specs.Tick.{Turn, turn}
use Rattle.window.specs.declared.Pieces.{Pieces}
use Rattle.window.specs.declared.Window.{Window}

-- Start: D1, D2
unfoldable pub start_core : Core → Core
start_core c = with_vms (with_clock c (started_clock c.clock)) (started_all c.config.count c.config.entries c.vms)

-- Tick: D5, the clock and the VM that its slot names
unfoldable pub tick_clock : Core → Clock
tick_clock c = next_clock c.config.slots c.config.durations c.clock

abbrev pub tick_owner : Core → ℕ
tick_owner c = owner_at c.config (tick_clock c).slot

-- D3, D4, D6, D7, D8, D9: the VM records, who runs, what is delivered
unfoldable pub tick_turn : Core → ℕ → Turn
tick_turn c at = turn c.running at c.config.count (tick_owner c) (front_of (entries c.queue)) (tick_clock c).left c.config.handlers c.vms

-- D7: a spare slot takes the oldest entry
unfoldable pub tick_queue : Core → Queue
tick_queue c = pick (is_spare (tick_owner c)) (popped c.queue) c.queue

-- D3 to D9
abbrev pub tick_core : Core → ℕ → Core
tick_core c at = with_vms (with_queue (with_running (with_clock c (tick_clock c)) (tick_turn c at).who) (tick_queue c)) (tick_turn c at).vms

-- Call: D25 to D30
abbrev pub called : Core → ℕ → ℕ → ℕ → Vm → Change
called c v = called_from c.running c.queue (full c) (handler_at c.config v) v

-- D33, D34: what fails in a Copy of the VM that runs
abbrev pub failure_of : Core → Window → Pieces → Failure
failure_of c w p = copy_failure (may c.config.regions c.running) w p

-- Copy: D31 to D36
abbrev pub copying : Core → Window → Pieces → Change
copying c w p = copying_from c.running c.queue c.running (saved_at p.next (vm_at c c.running)) (failure_of c w p).code (failure_of c w p).detail

-- what an event does that is not refused; but for a Tick and some Calls nothing is delivered (D13), so by a Write nothing (D22)
unfoldable pub done : Core → Event → Stepped
done c Start = answering (start_core c) nobody no_notice 0 0
done c (Tick at) = answering (tick_core c at) (tick_turn c at).number no_notice 0 0
done c (Stop v) = changed_by c (ending c v (vm_at c v) stopped_standing (notice_of 1 v))
done c (Shutdown v) = changed_by c (renewed c v (pend 11 (vm_at c v)) nobody)
done c (Restart v) = changed_by c (restarting c v)
done c (Extra v) = changed_by c (queueing c v (vm_at c v))
done c (Call service argument next) = changed_by c (called c c.running service argument (saved_at next (vm_at c c.running)))
done c (Write offset value) = changed_by c (renewed c c.running (write offset value (vm_at c c.running)) nobody)
done c (Fault code detail) = changed_by c (failing c c.running (vm_at c c.running) code detail)
done c (Copy p w) = changed_by c (copying c w p)

-- an event on a state that is known to be sound: refused, or done
unfoldable pub inner_of : Core → Event → Stepped
inner_of c e = pick (eqb (row_of c e) 0) (done c e) (refused c (row_of c e))

-- T8, R1: an event: refused, or done
unfoldable pub step_of : Core → Event → Stepped
step_of c e = pick (eqb (refusal_of c e) 0) (done c e) (refused c (refusal_of c e))
