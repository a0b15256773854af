-- The refusals (R1 to R6): which number an event gets, and what a refusal answers.
use Rattle.std.specs.Prelude.{ℕ, eqb}
use Rattle.basis.specs.Choice.{pick, unless}
use Rattle.basis.specs.Nobody.{nobody}
use Rattle.change.specs.Answers.{quietly}
use Rattle.rig_core.specs.Sound.{sound}
use Rattle.rig_core.specs.State.{address_of, ready_at}
use Rattle.rig_core.specs.declared.Core.{Core}
use Rattle.rig_core.specs.declared.Stepped.{Stepped}
use Rattle.event.specs.Kinds.{subject}
use Rattle.event.specs.declared.Event.{Event}
use Rattle.logic.specs.Rows.{row_from}

-- R1, the rows from 7 on; 0 where none applies
unfoldable pub row_of : Core → Event → ℕ
row_of c e = row_from e c.clock.started c.config.count c.running (ready_at c (subject e)) c.config.room c.queue.len

-- R1: row 1 stands above them all
unfoldable pub refusal_of : Core → Event → ℕ
refusal_of c e = unless (sound c) 1 (row_of c e)

-- R2, R3: the state as it was; where it is not sound, the answer shows no VM
unfoldable pub refused : Core → ℕ → Stepped
refused c n = record { core = c; answer = quietly n (pick (eqb n 1) nobody c.running) (pick (eqb n 1) 0 (address_of c)) }
