-- What an event that is done answers, and the changes of one VM that events share, on a state.
use Rattle.std.specs.Prelude.{ℕ}
use Rattle.change.specs.Changes.{ending_from, failing_from, queueing_from, renewed_from, restarting_from}
use Rattle.change.specs.declared.Change.{Change}
use Rattle.change.specs.declared.Notice.{Notice}
use Rattle.config.specs.Sizes.{entry_at, handler_at}
use Rattle.rig_core.specs.State.{address_of, full, vm_at, with_queue, with_running, with_vm}
use Rattle.rig_core.specs.declared.Core.{Core}
use Rattle.rig_core.specs.declared.Stepped.{Stepped}
use Rattle.event.specs.declared.Event.{Event}
use Rattle.guest.specs.declared.Vm.{Vm}
use Rattle.logic.specs.Changing.{change_from}
use Rattle.queue.specs.declared.Queue.{Queue}

-- A1, A2: the VM and its address are those after the event; it is done, so its refusal number is 0 (R6)
abbrev pub answering : Core → ℕ → Notice → ℕ → ℕ → Stepped
answering c delivered notice result removed =
    record { core = c; answer = record { refusal = 0; running = c.running; address = address_of c; delivered = delivered; notice = notice; result = result; removed = removed } }

-- K2: record v replaced; who runs, and the queue
abbrev pub replaced : Core → ℕ → Vm → ℕ → Queue → Core
replaced c v vm running queue = with_queue (with_running (with_vm c v vm) running) queue

-- a change of one VM, with the rest of the answer
abbrev pub changed_by : Core → Change → Stepped
changed_by c d = answering (replaced c d.place d.vm d.running d.queue) d.delivered d.notice d.result d.removed

abbrev pub renewed : Core → ℕ → Vm → ℕ → Change
renewed c = renewed_from c.running c.queue

-- D14 to D16
abbrev pub ending : Core → ℕ → Vm → ℕ → Notice → Change
ending c = ending_from c.running c.queue

-- D23
abbrev pub failing : Core → ℕ → Vm → ℕ → ℕ → Change
failing c = failing_from c.running c.queue

-- D18, D19
abbrev pub restarting : Core → ℕ → Change
restarting c v = restarting_from c.running c.queue v (entry_at c.config v)

-- D20
abbrev pub queueing : Core → ℕ → Vm → Change
queueing c = queueing_from c.running c.queue

-- what an event makes of the VM at place v
abbrev pub change_at : Core → Event → ℕ → Change
change_at c e v = change_from e v (vm_at c v) c.running c.queue (full c) 0 (entry_at c.config v) (handler_at c.config v)
