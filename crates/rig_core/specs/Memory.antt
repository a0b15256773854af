-- The bytes of the window after an event (D35 to D37).
use Rattle.std.specs.Prelude.{ℕ, eqb, take, Bool, List}
use Rattle.basis.specs.Choice.{both, pick}
use Rattle.rig_core.specs.Events.{failure_of}
use Rattle.rig_core.specs.Refusals.{refusal_of, row_of}
use Rattle.rig_core.specs.declared.Core.{Core}
use Rattle.event.specs.declared.Event.TheVariants.{Call, Copy, Extra, Fault, Restart, Shutdown, Start, Stop, Tick, Write}
use Rattle.event.specs.declared.Event.{Event}
use Rattle.window.specs.Pieces.{copied_all, extents, window_of}
use Rattle.window.specs.declared.Pieces.{Pieces}
use Rattle.window.specs.declared.Window.{Window}

-- D36: with the extents in use copied
abbrev pub copied_by : ℕ → Pieces → List ℕ → List ℕ
copied_by base p m = copied_all base (take p.count (extents p)) m

-- D35: a Copy with that refusal number in which nothing fails, or not
abbrev pub copies_as : ℕ → Core → Window → Pieces → Bool
copies_as n c w p = both (eqb n 0) (eqb (failure_of c w p).code 0)

-- D35 to D37: what an event with that refusal number leaves of the bytes: only a Copy that is done and in which nothing fails changes one
unfoldable pub memory_as : ℕ → Core → Event → List ℕ → List ℕ
memory_as n c Start m = m
memory_as n c (Tick at) m = m
memory_as n c (Stop v) m = m
memory_as n c (Shutdown v) m = m
memory_as n c (Restart v) m = m
memory_as n c (Extra v) m = m
memory_as n c (Call service argument next) m = m
memory_as n c (Write offset value) m = m
memory_as n c (Fault code detail) m = m
memory_as n c (Copy p w) m = pick (copies_as n c w p) (copied_by w.base p m) m

-- the bytes after an event
abbrev pub memory_after : Core → Event → List ℕ → List ℕ
memory_after c e m = memory_as (refusal_of c e) c e m

-- the same on a state that is known to be sound
abbrev pub inner_memory : Core → Event → List ℕ → List ℕ
inner_memory c e m = memory_as (row_of c e) c e m

-- D35: a Copy that is not refused, and in which nothing fails
abbrev pub copies : Core → Window → Pieces → Bool
copies c w p = copies_as (refusal_of c (Copy p w)) c w p

-- E14: a Copy with the memory that is lent for it
abbrev pub copy_in : Pieces → ℕ → List ℕ → Event
copy_in p base m = Copy p (window_of base m)
