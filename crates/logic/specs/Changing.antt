-- Which VM an event is about, and what it makes of it (D6 to D30), over small values.
use Rattle.std.specs.Prelude.{ℕ, Bool}
use Rattle.basis.specs.Choice.{pick}
use Rattle.basis.specs.Nobody.{nobody}
use Rattle.change.specs.Answers.{notice_of}
use Rattle.change.specs.Changes.{called_from, ending_from, failing_from, queueing_from, renewed_from, restarting_from, ticking_from}
use Rattle.change.specs.declared.Change.{Change}
use Rattle.event.specs.Kinds.{of_master, of_running, subject}
use Rattle.event.specs.declared.Event.TheVariants.{Call, Copy, Extra, Fault, Restart, Shutdown, Start, Stop, Tick, Write}
use Rattle.event.specs.declared.Event.{Event}
use Rattle.guest.specs.Record.{pend, saved_at, stopped_standing}
use Rattle.guest.specs.Write.{write}
use Rattle.guest.specs.declared.Vm.{Vm}
use Rattle.queue.specs.declared.Queue.{Queue}

-- E11: the VM that the master names, or the one that runs; Start and Tick name none
abbrev pub place_from : Event → ℕ → ℕ
place_from e running = pick (of_master e) (subject e) (pick (of_running e) running nobody)

-- what becomes of the VM at `place`, of who runs and of the queue; a Tick's place is the VM that it runs, its queue what the tick left of it. But for a Tick and some Calls nothing is delivered (D13), so by a Write nothing (D22). Start and Copy are not made here
unfoldable pub change_from : Event → ℕ → Vm → ℕ → Queue → Bool → ℕ → ℕ → ℕ → Change
change_from Start place vm running queue noRoom left entry handler = renewed_from running queue place vm nobody
change_from (Tick at) place vm running queue noRoom left entry handler = ticking_from queue place vm left handler
change_from (Stop v) place vm running queue noRoom left entry handler = ending_from running queue place vm stopped_standing (notice_of 1 place)
change_from (Shutdown v) place vm running queue noRoom left entry handler = renewed_from running queue place (pend 11 vm) nobody
change_from (Restart v) place vm running queue noRoom left entry handler = restarting_from running queue place entry
change_from (Extra v) place vm running queue noRoom left entry handler = queueing_from running queue place vm
change_from (Call service argument next) place vm running queue noRoom left entry handler =
    called_from running queue noRoom handler place service argument (saved_at next vm)
change_from (Write offset value) place vm running queue noRoom left entry handler = renewed_from running queue place (write offset value vm) nobody
change_from (Fault code detail) place vm running queue noRoom left entry handler = failing_from running queue place vm code detail
change_from (Copy p w) place vm running queue noRoom left entry handler = renewed_from running queue place vm nobody
