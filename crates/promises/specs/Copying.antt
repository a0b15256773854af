-- Second demand: what fails in a Copy, and what an event does to the bytes of the window.
use Rattle.std.specs.Prelude.{ℕ, take, Bool, false, not, true, List, [], ◌∷◌, ◌≡◌}
use Rattle.basis.specs.Choice.{both}
use Rattle.config.specs.Sizes.{access}
use Rattle.config.specs.declared.Config.{Config}
use Rattle.copies.specs.Failing.{copy_failure}
use Rattle.copies.specs.declared.Failure.{Failure}
use Rattle.rig_core.specs.declared.Core.{Core}
use Rattle.event.specs.Kinds.{is_copy}
use Rattle.event.specs.declared.Event.TheVariants.{Copy}
use Rattle.event.specs.declared.Event.{Event}
use Rattle.history.specs.History.{AtEachEvent, Behaviour, Moment, went}
use Rattle.history.specs.Moments.{tells_error}
use Rattle.window.specs.Pieces.{copied_all, extents}
use Rattle.window.specs.declared.Pieces.{Pieces}
use Rattle.window.specs.declared.Window.{Window}

-- D33, D34: what fails in a Copy of the VM that runs, by the access query itself (H8 to H11)
abbrev pub failure_for : Core → Window → Pieces → Failure
failure_for c w p = copy_failure (access c.config c.running) w p

-- what an event makes of the bytes of a window
abbrev pub Copier : Type 0
Copier = Core → Event → List ℕ → List ℕ

-- D35: a Copy that was accepted and is no error
abbrev pub copying : Moment → Bool
copying m = both (went m) (both (is_copy m.event) (not (tells_error m.answer)))

pub record CopiesOf (t : Copier) (g : Config) (ms : List Moment) (m : Moment) : Type 0 where
  -- D35, D37, C11: no other event changes a byte
  pub stays : copying m ≡ false → (bytes : List ℕ) → t m.before m.event bytes ≡ bytes
  -- D36: such a Copy copies all its extents in use, in their order
  pub copies : copying m ≡ true → (p : Pieces) (w : Window) → m.event ≡ Copy p w → (bytes : List ℕ) → t m.before m.event bytes ≡ copied_all w.base (take p.count (extents p)) bytes

-- whatever the events were; the core is a behaviour, and what it does to the bytes stands beside it (D37)
abbrev pub Copies : Copier → Behaviour → Type 0
Copies t = AtEachEvent (CopiesOf t)

-- the bytes of a window after the events es, from the state c on
unfoldable pub bytes_after : Behaviour → Copier → Core → List Event → List ℕ → List ℕ
bytes_after b t c [] bytes = bytes
bytes_after b t c (e ∷ es) bytes = bytes_after b t (b c e).core es (t c e bytes)
