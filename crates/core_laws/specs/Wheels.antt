-- What somebody who reads the window can see of a Copy (C11).
use Rattle.std.specs.Prelude.{ℕ, ◌+◌, ◌<◌, get_or, true, List, ◌≡◌}
use Rattle.rig_core.specs.Memory.{copied_by, copies, copy_in, memory_after}
use Rattle.rig_core.specs.declared.Core.{Core}
use Rattle.event.specs.declared.Event.TheVariants.{Copy}
use Rattle.event.specs.declared.Event.{Event}
use Rattle.window.specs.Pieces.{extents, no_extent}
use Rattle.window.specs.Ranges.{in_destination, source_of}
use Rattle.window.specs.declared.Pieces.{Pieces}
use Rattle.window.specs.declared.Window.{Window}

-- D36: the event is a Copy that was not refused and in which nothing failed, and all its extents in use are copied
pub record Published (c : Core) (e : Event) (m : List ℕ) : Type 0 where
  pub pieces : Pieces
  pub window : Window
  pub copy : e ≡ Copy pieces window
  pub done : copies c window pieces ≡ true
  pub all : memory_after c e m ≡ copied_by window.base pieces m

-- each byte of each destination is the one that its source held before the event
abbrev pub AllNew : Core → Pieces → ℕ → List ℕ → Type 0
AllNew c p base m =
    (k i : ℕ) → k < p.count → in_destination (get_or (extents p) k no_extent) (base + i) ≡ true
    → get_or (memory_after c (copy_in p base m) m) i 0 ≡ get_or m (source_of base (get_or (extents p) k no_extent) i) 0
