-- What is not to be done with the bytes of the window, and cores that do a Copy wrong (M8).
use Rattle.std.specs.Prelude.{suc, zero, ℕ, ◌-◌, get_or, set, take, List, [], ◌∷◌}
use Rattle.rig_core.specs.Memory.{copied_by}
use Rattle.rig_core.specs.State.{vm_at, with_queue, with_vm}
use Rattle.event.specs.declared.Event.TheVariants.{Call, Copy, Extra, Fault, Restart, Shutdown, Start, Stop, Tick, Write}
use Rattle.guest.specs.Record.{saved_at}
use Rattle.history.specs.History.{Behaviour}
use Rattle.promises.specs.Copying.{Copier}
use Rattle.trials.specs.Spoilt.{spoilt}
use Rattle.window.specs.Pieces.{copied_all, extents}
use Rattle.window.specs.declared.Extent.{Extent}
use Rattle.window.specs.declared.Pieces.{Pieces}
use Rattle.window.specs.declared.Window.{Window}

-- no event moves a byte
abbrev pub copies_never : Copier
copies_never c e m = m

-- what is done with the bytes by a Copy alone, whatever the state
abbrev on_copy : (Window → Pieces → List ℕ → List ℕ) → Copier
on_copy f c Start m = m
on_copy f c (Tick at) m = m
on_copy f c (Stop v) m = m
on_copy f c (Shutdown v) m = m
on_copy f c (Restart v) m = m
on_copy f c (Extra v) m = m
on_copy f c (Call s n at) m = m
on_copy f c (Write o x) m = m
on_copy f c (Fault k d) m = m
on_copy f c (Copy p w) m = f w p m

-- D35: copied before all of it is checked, so where it fails too
abbrev pub copies_unchecked : Copier
copies_unchecked = on_copy (λ w p m. copied_by w.base p m)

-- D36: the last extent is left out: two new wheels beside two old ones
abbrev pub copies_half : Copier
copies_half = on_copy (λ w p m. copied_all w.base (take (p.count - 1) (extents p)) m)

-- D36: byte by byte from the front, so that a byte may be copied that was just written
abbrev pub forwards : ℕ → ℕ → ℕ → List ℕ → List ℕ
forwards from to zero m = m
forwards from to (suc n) m = forwards (suc from) (suc to) n (set m to (get_or m from 0))

abbrev pub forwards_all : ℕ → List Extent → List ℕ → List ℕ
forwards_all base [] m = m
forwards_all base (x ∷ xs) m = forwards_all base xs (forwards (x.source - base) (x.destination - base) x.length m)

abbrev pub copies_forwards : Copier
copies_forwards = on_copy (λ w p m. forwards_all w.base (take p.count (extents p)) m)

-- D31: a Copy leaves its VM where it was
abbrev pub loses_next : Behaviour
loses_next = spoilt 26 (λ c e d. with_vm d c.running (saved_at (vm_at c c.running).address (vm_at d c.running)))

-- D33, D34, A8: a Copy that fails leaves the entries of its VM
abbrev pub fails_uncleared : Behaviour
fails_uncleared = spoilt 26 (λ c e d. with_queue d c.queue)
