-- Behaviours that are ours but for one thing that an event of one kind makes wrong when it is done.
use Rattle.std.specs.Prelude.{ℕ, eqb, not, List, [], ◌++◌, ◌∷◌}
use Rattle.basis.specs.Choice.{both, pick}
use Rattle.basis.specs.Nobody.{nobody}
use Rattle.config.specs.Sizes.{is_spare}
use Rattle.rig_core.specs.Events.{step_of}
use Rattle.rig_core.specs.Sound.{none_ready}
use Rattle.rig_core.specs.State.{address_of, owner_now, ready_at, vm_at, with_clock, with_queue, with_running, with_vm, with_vms}
use Rattle.rig_core.specs.declared.Core.{Core}
use Rattle.rig_core.specs.declared.Stepped.{Stepped}
use Rattle.event.specs.Kinds.{kind_of, subject}
use Rattle.event.specs.declared.Event.TheVariants.{Call, Copy, Extra, Fault, Restart, Shutdown, Start, Stop, Tick, Write}
use Rattle.event.specs.declared.Event.{Event}
use Rattle.guest.specs.Record.{blank, ended_as, fresh, is_ready, saved_at, with_status}
use Rattle.guest.specs.Write.{write}
use Rattle.guest.specs.declared.Vm.{Vm}
use Rattle.history.specs.History.{Behaviour}
use Rattle.queue.specs.Entries.{entries, entries_of, lowered}
use Rattle.table.specs.Position.{has_ticked}
use Rattle.trials.specs.Worthless.{is_done}
use Rattle.vms.specs.Records.{each}

-- the state d in place of the one that s has; the answer shows who runs there, and where
abbrev showing : Stepped → Core → Stepped
showing s d =
    record {
      core = d;
      answer = record { refusal = 0; running = d.running; address = address_of d; delivered = s.answer.delivered; notice = s.answer.notice; result = s.answer.result; removed = s.answer.removed };
    }

-- ours, but an event of that kind which is done leaves f of the state before, the event, and the state that ours leaves
abbrev pub spoilt : ℕ → (Core → Event → Core → Core) → Behaviour
spoilt kind f c e = pick (both (eqb (kind_of e) kind) (is_done (step_of c e))) (showing (step_of c e) (f c e (step_of c e).core)) (step_of c e)

-- VM v's record put through f
abbrev touching : Core → ℕ → (Vm → Vm) → Core
touching d v f = with_vm d v (f (vm_at d v))

-- no fields, no address
abbrev wiped : Vm → Vm
wiped v = with_status (saved_at 0 v) blank

-- ---- how a VM stands

-- T3: each Tick stops every VM that neither runs nor is queued; nearly "idle always"
abbrev pub stops_unused : Behaviour
stops_unused =
    spoilt 17
    (λ c e d. with_vms d (each (λ k v. pick (both (is_ready v) (both (not (eqb d.running k)) (eqb (entries_of k (entries d.queue)) 0))) (ended_as 2 v) v) d.config.count d.vms))

-- D14: Stop writes "in error"
abbrev pub stops_as_error : Behaviour
stops_as_error = spoilt 18 (λ c e d. touching d (subject e) (ended_as 4))

-- D23: Fault writes "stopped"
abbrev pub faults_as_stop : Behaviour
faults_as_stop = spoilt 24 (λ c e d. touching d c.running (ended_as 2))

-- D14: with queue size 0, Stop leaves the VM ready and running
abbrev pub stops_not : Behaviour
stops_not = spoilt 18 (λ c e d. pick (eqb c.config.room 0) c d)

-- D2: Stop of the last ready VM before the first tick un-starts the core
abbrev pub unstarts : Behaviour
unstarts =
    spoilt 18 (λ c e d. pick (both (not (has_ticked d.clock)) (none_ready d)) (with_clock d (record { started = 0; ticked = d.clock.ticked; slot = d.clock.slot; left = d.clock.left })) d)

-- ---- who runs between ticks

-- D25, D26: every Call gives up the rest of the tick
abbrev pub calls_yield : Behaviour
calls_yield = spoilt 22 (λ c e d. with_running d nobody)

-- D19: Restart in its own slot runs the VM at once
abbrev pub restarts_run : Behaviour
restarts_run = spoilt 20 (λ c e d. pick (both (has_ticked d.clock) (eqb (owner_now d) (subject e))) (with_running d (subject e)) d)

-- D15: Stop in a spare tick hands the rest of it to VM 1
abbrev pub stops_hand_on : Behaviour
stops_hand_on = spoilt 18 (λ c e d. pick (both (has_ticked d.clock) (both (is_spare (owner_now d)) (both (eqb c.running (subject e)) (ready_at d 1)))) (with_running d 1) d)

-- ---- what a Write does

-- D21: it is ignored
abbrev pub ignores_write : Behaviour
ignores_write = spoilt 23 (λ c e d. c)

-- what it makes of a VM
abbrev wrote_by : Event → Vm → Vm
wrote_by Start v = v
wrote_by (Tick at) v = v
wrote_by (Stop w) v = v
wrote_by (Shutdown w) v = v
wrote_by (Restart w) v = v
wrote_by (Extra w) v = v
wrote_by (Call s n at) v = v
wrote_by (Write o x) v = write o x v
wrote_by (Fault k d) v = v
wrote_by (Copy p w) v = v

-- D21: it lands in every VM's block
abbrev pub writes_all : Behaviour
writes_all = spoilt 23 (λ c e d. with_vms d (each (λ k v. wrote_by e v) d.config.count d.vms))

-- ---- what no rule names

-- D16: Stop wipes the fields and the address
abbrev pub stops_wipe : Behaviour
stops_wipe = spoilt 18 (λ c e d. touching d (subject e) wiped)

-- D16, D23: and so does Fault
abbrev pub faults_wipe : Behaviour
faults_wipe = spoilt 24 (λ c e d. touching d c.running wiped)

-- D20: Extra resets the run address
abbrev pub extra_resets : Behaviour
extra_resets = spoilt 21 (λ c e d. touching d (subject e) (saved_at 0))

-- D8, F9: psIntGenerateOnTick is used up by a tick
abbrev pub uses_up : Behaviour
uses_up = spoilt 17 (λ c e d. touching d d.running (write 32 0))

-- G3, F8: the restore register is lost
abbrev pub loses_restore : Behaviour
loses_restore = spoilt 17 (λ c e d. touching d d.running (write 28 0))

-- D12, D13: the field at that offset moves without a delivery: the reason (20), the previous enabled (24), the resume address (16)
abbrev pub moves : ℕ → Behaviour
moves offset = spoilt 21 (λ c e d. touching d (subject e) (write offset 9))

-- ---- the queue counts

-- the state with these queue counts
abbrev counting : Core → List ℕ → Core
counting d counts = with_queue d (record { items = d.queue.items; len = d.queue.len; counts = counts })

-- T10, M7: a Tick leaves the count of the VM that it serves
abbrev pub forgets_served : Behaviour
forgets_served = spoilt 17 (λ c e d. counting d c.queue.counts)

-- T10, M7: a spare tick lowers the count of the VM that ran before
abbrev pub lowers_other : Behaviour
lowers_other = spoilt 17 (λ c e d. pick (is_spare (owner_now d)) (counting d (lowered c.running c.queue.counts)) d)

-- T10, M7: Stop leaves the count of its VM, and so does Restart
abbrev pub stops_uncounted : Behaviour
stops_uncounted = spoilt 18 (λ c e d. counting d c.queue.counts)

abbrev pub restarts_uncounted : Behaviour
restarts_uncounted = spoilt 20 (λ c e d. counting d c.queue.counts)

-- T10: Extra counts nothing
abbrev pub joins_uncounted : Behaviour
joins_uncounted = spoilt 21 (λ c e d. counting d c.queue.counts)

-- ---- numbers and places that the test of soundness does not look at

-- T6, D2: before the first tick the clock stands at slot 5
abbrev pub strays_at_first : Behaviour
strays_at_first = spoilt 16 (λ c e d. with_clock d (record { started = 1; ticked = 0; slot = 5; left = 0 }))

-- T1: Start makes a ninth record
abbrev pub adds_record : Behaviour
adds_record = spoilt 16 (λ c e d. with_vms d (d.vms ++ (fresh ∷ [])))

-- T5: Start makes a seventeenth place in the queue
abbrev pub adds_place : Behaviour
adds_place = spoilt 16 (λ c e d. with_queue d (record { items = d.queue.items ++ (7 ∷ []); len = d.queue.len; counts = d.queue.counts }))

-- T5: and a ninth count
abbrev pub adds_count : Behaviour
adds_count = spoilt 16 (λ c e d. counting d (d.queue.counts ++ (0 ∷ [])))
