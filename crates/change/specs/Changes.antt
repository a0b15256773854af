-- The changes of one VM that events share (D11 to D36): what becomes of it, of who runs and of the queue, and what is told.
use Rattle.std.specs.Prelude.{ℕ, eqb, leb, ltb, Bool}
use Rattle.basis.specs.Choice.{pick}
use Rattle.basis.specs.Nobody.{nobody}
use Rattle.change.specs.Answers.{error_of, no_notice, notice_of}
use Rattle.change.specs.declared.Answer.{Answer}
use Rattle.change.specs.declared.Change.{Change}
use Rattle.change.specs.declared.Notice.{Notice}
use Rattle.guest.specs.Deliver.{back_from, deliver, enter, quiet}
use Rattle.guest.specs.Record.{down_standing, ended_as, error_standing, pend, started_at}
use Rattle.guest.specs.declared.Delivery.{Delivery}
use Rattle.guest.specs.declared.Vm.{Vm}
use Rattle.queue.specs.Entries.{pushed, removal}
use Rattle.queue.specs.declared.Queue.{Queue}
use Rattle.vms.specs.Tick.{number_of}

-- A1: the answer that a change has, with its refusal, who runs and where
abbrev pub answer_by : Change → ℕ → ℕ → ℕ → Answer
answer_by d refusal running address =
    record { refusal = refusal; running = running; address = address; delivered = d.delivered; notice = d.notice; result = d.result; removed = d.removed }

-- D15: nobody, where v was running
unfoldable pub running_without : ℕ → ℕ → ℕ
running_without running v = pick (eqb running v) nobody running

-- D14: the queue without the entries of v
abbrev pub queue_without : Queue → ℕ → Queue
queue_without q v = (removal v q).queue

-- A8: how many those were
abbrev pub removed_of : Queue → ℕ → ℕ
removed_of q v = (removal v q).count

-- the VM's record changes, and nothing else; `running` and `queue` are what they were
abbrev pub renewed_from : ℕ → Queue → ℕ → Vm → ℕ → Change
renewed_from running queue v vm delivered =
    record { place = v; vm = vm; running = running; queue = queue; delivered = delivered; notice = no_notice; result = 0; removed = 0 }

-- D14, D15, A8: the VM ends with a standing, its entries leave the queue, and where it was running nobody runs
abbrev pub ending_from : ℕ → Queue → ℕ → Vm → ℕ → Notice → Change
ending_from running queue v vm standing notice =
    record { place = v; vm = ended_as standing vm; running = running_without running v; queue = queue_without queue v; delivered = nobody; notice = notice; result = 0; removed = removed_of queue v }

-- D23, A5: the VM ends in error; a Call that does so is done as well (R6)
abbrev pub failing_from : ℕ → Queue → ℕ → Vm → ℕ → ℕ → Change
failing_from running queue v vm code detail = ending_from running queue v vm error_standing (error_of v code detail)

-- D18, D19, A8, from any standing (R5); by the manual a VM that is up would go on as it is (G4)
abbrev pub restarting_from : ℕ → Queue → ℕ → ℕ → Change
restarting_from running queue v entry =
    record { place = v; vm = started_at entry; running = running; queue = queue_without queue v; delivered = nobody; notice = no_notice; result = 0; removed = removed_of queue v }

-- D20, D29: one entry of v joins the queue
abbrev pub queueing_from : ℕ → Queue → ℕ → Vm → Change
queueing_from running queue v vm = renewed_from running (pushed v queue) v vm nobody

-- D29, A6: the queue is full, and a Call is told so
abbrev pub turned_away_from : ℕ → Queue → ℕ → Vm → Change
turned_away_from running queue v vm =
    record { place = v; vm = vm; running = running; queue = queue; delivered = nobody; notice = no_notice; result = 1; removed = 0 }

-- D11, D12 within a Call
abbrev pub delivering_from : ℕ → Queue → ℕ → Delivery → Change
delivering_from running queue v d = renewed_from running queue v d.vm (number_of d.number)

-- D8, D9: the tick enters the VM that runs, and nobody from 8 on
abbrev pub entered_at : ℕ → Vm → ℕ → ℕ → Delivery
entered_at who vm left handler = pick (ltb who 8) (enter left handler vm) (quiet vm)

-- D6 to D9: the VM that a Tick runs, with what the tick left of the queue
abbrev pub ticking_from : Queue → ℕ → Vm → ℕ → ℕ → Change
ticking_from queue who vm left handler = delivering_from who queue who (entered_at who vm left handler)

-- Call: D25 to D30, for VM v, whose next address is stored in vm; service 2 takes 31 and fails with 32 (P10), and its delivery sees the number (P9)
unfoldable pub called_from : ℕ → Queue → Bool → ℕ → ℕ → ℕ → ℕ → Vm → Change
called_from running queue noRoom handler v service argument vm =
    pick (eqb service 0) (delivering_from running queue v (deliver handler vm))
    (pick (eqb service 1) (delivering_from running queue v (deliver handler (back_from vm)))
    (pick (eqb service 2) (pick (leb argument 31) (delivering_from running queue v (deliver handler (pend argument vm))) (failing_from running queue v vm 2 argument))
    (pick (eqb service 3) (ending_from running queue v vm down_standing (notice_of 2 v))
    (pick (eqb service 4) (pick noRoom (turned_away_from running queue v vm) (queueing_from running queue v vm))
    (failing_from running queue v vm 1 service)))))

-- Copy: D31 to D36, for VM v, whose next address is stored in vm: a failure ends it in error, and else it goes on; code 0 means that nothing failed
unfoldable pub copying_from : ℕ → Queue → ℕ → Vm → ℕ → ℕ → Change
copying_from running queue v vm code detail = pick (eqb code 0) (renewed_from running queue v vm nobody) (failing_from running queue v vm code detail)
