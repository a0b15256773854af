-- Behaviours that are not to pass: worthless cores, and ours with one easy mistake in it (M1 to M7).
use Rattle.std.specs.Prelude.{suc, zero, ℕ, ◌%◌, ◌+◌, ◌-◌, ◌^◌, eqb, ltb, get_or, Bool, not, List, ◌∷◌, Option, Some, None}
use Rattle.basis.specs.Bits.{bit}
use Rattle.basis.specs.Choice.{both, pick}
use Rattle.basis.specs.Nobody.{nobody}
use Rattle.change.specs.Answers.{no_notice}
use Rattle.change.specs.Changes.{delivering_from}
use Rattle.config.specs.Sizes.{handler_at, is_spare}
use Rattle.rig_core.specs.Changes.{answering, changed_by}
use Rattle.rig_core.specs.Events.{inner_of, step_of, tick_clock, tick_owner, tick_queue}
use Rattle.rig_core.specs.Refusals.{refused, row_of}
use Rattle.rig_core.specs.State.{idle, owner_now, vm_at, with_clock, with_queue, with_running, with_vm, with_vms}
use Rattle.rig_core.specs.declared.Core.{Core}
use Rattle.rig_core.specs.declared.Stepped.{Stepped}
use Rattle.event.specs.Kinds.{any_restart, byte_of, is_extra, is_shutdown, is_stop, is_tick}
use Rattle.event.specs.declared.Event.TheVariants.{Call, Copy, Extra, Fault, Restart, Shutdown, Start, Stop, Tick, Write}
use Rattle.event.specs.declared.Event.{Event}
use Rattle.guest.specs.Deliver.{back_from, deliver, deliver_by, quiet, shown}
use Rattle.guest.specs.Record.{fresh, pend, saved_at, with_pending, with_status}
use Rattle.guest.specs.declared.Delivery.{Delivery}
use Rattle.guest.specs.declared.Vm.{Vm}
use Rattle.history.specs.History.{Behaviour}
use Rattle.promises.specs.Delivering.{call_delivers}
use Rattle.queue.specs.Entries.{entries, front_of, holding, raised}
use Rattle.vms.specs.Tick.{Turn, passed, runner_of, turn_to}

-- ---- parts

abbrev pub with_core : Stepped → Core → Stepped
with_core s c = record { core = c; answer = s.answer }

-- the field ticksWhileRunning of a VM record
abbrev pub with_shown : Vm → ℕ → Vm
with_shown w n =
    with_status w
    (record {
      since = w.status.since;
      left = w.status.left;
      enabled = w.status.enabled;
      pending = w.status.pending;
      resume = w.status.resume;
      reason = w.status.reason;
      previous = w.status.previous;
      restore = w.status.restore;
      ontick = w.status.ontick;
      running = n;
    })

abbrev pub is_done : Stepped → Bool
is_done s = eqb s.answer.refusal 0

-- what an event does, changed by f where it is a tick that was done
abbrev pub tick_then : (Core → Stepped → Stepped) → Core → Event → Stepped
tick_then f c e = pick (both (is_tick e) (is_done (step_of c e))) (f c (step_of c e)) (step_of c e)

-- ---- worthless cores (C3)

-- C3: refuses everything, with n
abbrev pub refuses_all : ℕ → Behaviour
refuses_all n c e = refused c n

-- C3: hands the state back untouched
abbrev pub untouched : Behaviour
untouched c e = record { core = c; answer = (step_of c e).answer }

-- C3: answers idle always
abbrev pub idle_always : Behaviour
idle_always c e =
    record {
      core = (step_of c e).core;
      answer = record { refusal = (step_of c e).answer.refusal; running = nobody; address = 0; delivered = (step_of c e).answer.delivered; notice = (step_of c e).answer.notice; result = (step_of c e).answer.result; removed = (step_of c e).answer.removed };
    }

-- the state as if it had never ticked
abbrev pub unticked : Core → Core
unticked c = with_clock c (record { started = c.clock.started; ticked = 0; slot = 0; left = 0 })

-- C3: every tick does what the first did: it enters slot 0
abbrev pub repeats_first : Behaviour
repeats_first = tick_then (λ c s. with_core s (with_clock s.core (tick_clock (unticked c))))

-- C3: makes ticksWhileRunning up
abbrev pub invents : Behaviour
invents = tick_then (λ c s. with_core s (with_vm s.core s.core.running (with_shown (vm_at s.core s.core.running) 7)))

-- M2: a VM that had a spare tick gets one tick less of its next slice
abbrev pub charges_spare : Behaviour
charges_spare =
    tick_then
    (λ c s. pick (both (is_spare (owner_now c)) (both (not (idle c)) (eqb (owner_now s.core) c.running)))
    (with_core s (with_clock s.core (record { started = s.core.clock.started; ticked = 1; slot = s.core.clock.slot; left = s.core.clock.left - 1 })))
    s)

-- M4: leaves the entries of a VM that is stopped; it does not test its own soundness, so that it goes on
abbrev pub leaves_entries : Behaviour
leaves_entries c e = pick (is_stop e) (with_core (inner_of c e) (with_queue (inner_of c e).core c.queue)) (inner_of c e)

-- D7: serves the newest entry first: a request of the master's goes to the front
abbrev pub newest_first : Behaviour
newest_first c e = pick (both (is_extra e) (is_done (step_of c e))) (with_core (step_of c e) (with_queue c (holding (byte_of e ∷ entries c.queue) (raised (byte_of e) c.queue.counts)))) (step_of c e)

-- D3: forgets where a VM was interrupted, when another one runs next
abbrev pub forgets_address : Behaviour
forgets_address =
    tick_then
    (λ c s. pick (eqb s.core.running c.running) s
    (with_core s (with_vm s.core c.running (saved_at (vm_at c c.running).address (vm_at s.core c.running)))))

-- ---- easy mistakes

-- M1: counts up the guest's own copy of ticksWhileRunning
abbrev pub raises_copy : Behaviour
raises_copy = tick_then (λ c s. with_core s (with_vm s.core s.core.running (with_shown (vm_at s.core s.core.running) (((vm_at c s.core.running).status.running + 1) % 2 ^ 32))))

-- M2: moves the table when a VM is stopped
abbrev pub moves_at_stop : Behaviour
moves_at_stop c e = pick (both (is_stop e) (is_done (step_of c e))) (with_core (step_of c e) (with_clock (step_of c e).core (tick_clock c))) (step_of c e)

-- ours, with another delivery d in a tick and in services 0 and 1, and another delivery i where n was injected
abbrev pub entering_by : (ℕ → Vm → Delivery) → ℕ → ℕ → List ℕ → List Vm → Delivery
entering_by d who left handlers l = pick (ltb who 8) (d (get_or handlers who 0) (shown left (get_or l who fresh))) (quiet (get_or l who fresh))

abbrev pub turn_with : (ℕ → Vm → Delivery) → ℕ → ℕ → List ℕ → List Vm → Turn
turn_with d who left handlers l = turn_to who (entering_by d who left handlers l) l

abbrev pub tick_by : (ℕ → Vm → Delivery) → Core → ℕ → Turn
tick_by d c at =
    turn_with d (runner_of (tick_owner c) (front_of (entries c.queue)) (passed c.running at c.config.count c.vms)) (tick_clock c).left c.config.handlers
    (passed c.running at c.config.count c.vms)

abbrev pub call_by : (ℕ → Vm → Delivery) → (ℕ → ℕ → Vm → Delivery) → ℕ → ℕ → ℕ → Vm → Delivery
call_by d i s n handler v = pick (eqb s 0) (d handler v) (pick (eqb s 1) (d handler (back_from v)) (i n handler (pend n v)))

abbrev pub delivering_by : (ℕ → Vm → Delivery) → (ℕ → ℕ → Vm → Delivery) → Core → Event → Stepped
delivering_by d i c Start = inner_of c Start
delivering_by d i c (Tick at) =
    pick (eqb (row_of c (Tick at)) 0)
    (answering (with_vms (with_queue (with_running (with_clock c (tick_clock c)) (tick_by d c at).who) (tick_queue c)) (tick_by d c at).vms) (tick_by d c at).number no_notice 0 0)
    (refused c (row_of c (Tick at)))
delivering_by d i c (Stop v) = inner_of c (Stop v)
delivering_by d i c (Shutdown v) = inner_of c (Shutdown v)
delivering_by d i c (Restart v) = inner_of c (Restart v)
delivering_by d i c (Extra v) = inner_of c (Extra v)
delivering_by d i c (Call s n at) =
    pick (both (eqb (row_of c (Call s n at)) 0) (call_delivers s n))
    (changed_by c (delivering_from c.running c.queue c.running (call_by d i s n (handler_at c.config c.running) (saved_at at (vm_at c c.running)))))
    (inner_of c (Call s n at))
delivering_by d i c (Write o x) = inner_of c (Write o x)
delivering_by d i c (Fault k x) = inner_of c (Fault k x)
delivering_by d i c (Copy p w) = inner_of c (Copy p w)

-- nothing is pending any more
abbrev pub emptied : Vm → Option ℕ → Vm
emptied w None = w
emptied w (Some n) = with_status w (with_pending w.status 0)

unfoldable pub deliver_empty : ℕ → Vm → Delivery
deliver_empty handler v = record { vm = emptied (deliver handler v).vm (deliver handler v).number; number = (deliver handler v).number }

-- M3: empties psIntPending at a delivery
abbrev pub empties_pending : Behaviour
empties_pending = delivering_by deliver_empty (λ n. deliver_empty)

-- the first, or else the second
abbrev pub or_else : Option ℕ → Option ℕ → Option ℕ
or_else None y = y
or_else (Some n) y = Some n

unfoldable pub lowest : (ℕ → Bool) → ℕ → Option ℕ
lowest p zero = None
lowest p (suc n) = or_else (lowest p n) (pick (p n) (Some n) None)

unfoldable pub deliver_low : ℕ → Vm → Delivery
deliver_low handler v = deliver_by handler v (lowest (λ n. both (bit n v.status.pending) (bit n v.status.enabled)) 32)

-- M3: delivers the lowest number
abbrev pub lowest_first : Behaviour
lowest_first = delivering_by deliver_low (λ n. deliver_low)

-- D27: service 2 sets its bit and delivers nothing: the bit waits for a tick, a sync or a return
abbrev pub inject_waits : Behaviour
inject_waits = delivering_by deliver (λ n handler v. quiet v)

-- D27: service 2 delivers only the number that it was given, though a higher one is pending and enabled
abbrev pub injects_its_own : Behaviour
injects_its_own = delivering_by deliver (λ n handler v. deliver_by handler v (pick (bit n v.status.enabled) (Some n) None))

-- M5: delivers 11 when the master asks for the shutdown
abbrev pub shuts_at_once : Behaviour
shuts_at_once c e =
    pick (both (is_shutdown e) (is_done (step_of c e)))
    (changed_by c (delivering_from c.running c.queue (byte_of e) (deliver (handler_at c.config (byte_of e)) (pend 11 (vm_at c (byte_of e))))))
    (step_of c e)

-- ours, telling that n entries were removed
abbrev pub with_removed : Stepped → ℕ → Stepped
with_removed s n =
    record {
      core = s.core;
      answer = record { refusal = s.answer.refusal; running = s.answer.running; address = s.answer.address; delivered = s.answer.delivered; notice = s.answer.notice; result = s.answer.result; removed = n };
    }

-- M6: tells the entries of all VMs, where any was removed
abbrev pub tells_all : Behaviour
tells_all c e = with_removed (step_of c e) (pick (eqb (step_of c e).answer.removed 0) 0 c.queue.len)

-- M6: tells how many the VM has left, which is none
abbrev pub tells_none : Behaviour
tells_none c e = with_removed (step_of c e) 0

-- M6: tells nothing at a Restart
abbrev pub restarts_silent : Behaviour
restarts_silent c e = pick (any_restart e) (with_removed (step_of c e) 0) (step_of c e)

-- A8: tells the entry that a spare tick serves as removed
abbrev pub tells_served : Behaviour
tells_served = tick_then (λ c s. with_removed s (c.queue.len - s.core.queue.len))
