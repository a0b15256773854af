-- The rows of the refusals (R1) from 7 on, over small values.
use Rattle.std.specs.Prelude.{ℕ, eqb, leb, ltb, Bool, not}
use Rattle.basis.specs.Bounds.{within}
use Rattle.basis.specs.Choice.{both, pick}
use Rattle.basis.specs.Nobody.{nobody}
use Rattle.event.specs.Kinds.{byte_of, is_extra, is_fault, is_start, is_write, of_master, of_running, subject, wants_ready}
use Rattle.event.specs.declared.Event.{Event}
use Rattle.guest.specs.Write.{is_field}

-- R1, row 8: a Write to no field
abbrev pub stray_write : Event → Bool
stray_write e = both (is_write e) (not (is_field (byte_of e)))

-- R1, row 9: a Fault whose code is not 3, 4 or 5
abbrev pub stray_fault : Event → Bool
stray_fault e = both (is_fault e) (not (within 3 5 (byte_of e)))

-- R1, from top to bottom; 0 where none applies. `ready` is of the VM that the master names. A queue without room is always full (R4); Restart has rows 2 and 3 alone, Tick row 2 (R5)
abbrev pub row_from : Event → ℕ → ℕ → ℕ → Bool → ℕ → ℕ → ℕ
row_from e started count running ready room queued =
    pick (both (is_start e) (eqb started 1)) 7
    (pick (both (not (is_start e)) (not (eqb started 1))) 2
    (pick (both (of_master e) (not (ltb (subject e) count))) 3
    (pick (both (wants_ready e) (not ready)) 4
    (pick (both (is_extra e) (leb room queued)) 6
    (pick (both (of_running e) (eqb running nobody)) 5
    (pick (stray_write e) 8
    (pick (stray_fault e) 9 0)))))))
