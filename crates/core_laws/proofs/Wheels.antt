-- Nobody sees two old wheels and two new ones (C11): after any event the window holds all of a Copy, or nothing of it.
use Prim.Native.Nat.{ℕ, ◌+◌, ◌<◌, ◌≤◌}
use borrow.Author.Tests.{eqb-true, ltb-true}
use lib.Dec.{eqb, leb}
use lib.ListN.{get_or, length, length-take, take}
use lib.Seq.{get_or-take}
use mathlib.Core.Bool.{Bool, false, true}
use mathlib.Core.List.{List}
use mathlib.Core.Logic.{inl, inr, ◌⊎◌}
use mathlib.Core.Path.{ap, refl, ◌∙◌, ◌≡◌}
use native.Mathlib.Decide.{dec_lt}
use native.Mathlib.Omega.{arith}
use Rattle.basis.proofs.Laws.{both_right}
use Rattle.basis.specs.Choice.{pick}
use Rattle.copies.proofs.Requests.{request_fits}
use Rattle.copies.specs.Failing.{may}
use Rattle.rig_core.specs.Events.{failure_of}
use Rattle.rig_core.specs.Memory.{copied_by, copies, copy_in, memory_after, memory_as}
use Rattle.rig_core.specs.Refusals.{refusal_of}
use Rattle.rig_core.specs.declared.Core.{Core}
use Rattle.core_laws.specs.Wheels.{AllNew, Published}
use Rattle.event.specs.declared.Event.TheVariants.{Call, Copy, Extra, Fault, Restart, Shutdown, Start, Stop, Tick, Write}
use Rattle.event.specs.declared.Event.{Event}
use Rattle.window.proofs.Meaning.{copied_each}
use Rattle.window.specs.Pieces.{extents, no_extent, window_of}
use Rattle.window.specs.Ranges.{Apart, all_fit, in_destination, source_of}
use Rattle.std.proofs.lemmas.List.{get_or_past}
use Rattle.window.specs.declared.Extent.{Extent}
use Rattle.window.specs.declared.Pieces.{Pieces}

-- C11, D35 to D37: whatever the event and the state, all extents in use are copied, or every byte is as it was
pub all_or_nothing : (c : Core) (e : Event) (m : List ℕ) → (memory_after c e m ≡ m) ⊎ Published c e m
unfolding memory_as
all_or_nothing c Start m = inl refl
all_or_nothing c (Tick at) m = inl refl
all_or_nothing c (Stop v) m = inl refl
all_or_nothing c (Shutdown v) m = inl refl
all_or_nothing c (Restart v) m = inl refl
all_or_nothing c (Extra v) m = inl refl
all_or_nothing c (Call s n at) m = inl refl
all_or_nothing c (Write o x) m = inl refl
all_or_nothing c (Fault k d) m = inl refl
all_or_nothing c (Copy p w) m = go (copies c w p) refl
  where
    go : (b : Bool) → copies c w p ≡ b → (pick (copies c w p) (copied_by w.base p m) m ≡ m) ⊎ Published c (Copy p w) m
    go true h = inr (record { pieces = p; window = w; copy = refl; done = h; all = rw h })
    go false h = inl (rw h)

module _ (c : Core) (p : Pieces) (base : ℕ) (m : List ℕ) where
  -- the extents in use fit, where nothing fails
  used_fit : copies c (window_of base m) p ≡ true → (p.count ≤ 8) × all_fit base (take p.count (extents p)) m
  used_fit h =
      let z = eqb-true (failure_of c (window_of base m) p).code 0 (both_right (eqb (refusal_of c (copy_in p base m)) 0) _ h) in
      let f = request_fits (may c.config.regions c.running) (window_of base m) p z in (
        f.0,
        λ k l. (let low : k < p.count = omega (arith, length-take p.count (extents p)) in
            rw (get_or-take p.count (extents p) k no_extent low) (f.1 k low)),
      )

  -- past the last extent stands none, which writes nowhere
  in_use : (k i : ℕ) → in_destination (get_or (extents p) k no_extent) (base + i) ≡ true → k < length (extents p)
  in_use k i d =
      elim (dec_lt k (length (extents p))) [
        | yes g ↦ g
        | no g ↦ (let z = rw (get_or_past (extents p) k no_extent (omega arith)) at d in
            let y = ltb-true (base + i) 0 (both_right (leb 0 (base + i)) _ z) in
            absurd (omega (arith, y)))
      ]

  copied_new : Apart (take p.count (extents p)) → copies c (window_of base m) p ≡ true → AllNew c p base m
  unfolding memory_as
  copied_new a h k i l d =
      let f = used_fit h in
      let same = get_or-take p.count (extents p) k no_extent l in
      rw h
      (copied_each base (take p.count (extents p)) m f.1 a k i (omega (arith, in_use k i d, length-take p.count (extents p))) (rw same d)
      ∙ ap (λ (x : Extent). get_or m (source_of base x i) 0) same)

  -- C11: where no extent touches what a later one reads or writes, as with four wheels, every destination is new or no byte is
  pub no_two_old_wheels : Apart (take p.count (extents p)) → (memory_after c (copy_in p base m) m ≡ m) ⊎ AllNew c p base m
  unfolding memory_as
  no_two_old_wheels a = go (copies c (window_of base m) p) refl
    where
      go : (b : Bool) → copies c (window_of base m) p ≡ b → (memory_after c (copy_in p base m) m ≡ m) ⊎ AllNew c p base m
      go true h = inr (copied_new a h)
      go false h = inl (rw h)
