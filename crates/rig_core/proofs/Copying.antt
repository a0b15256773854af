-- A Copy with its bytes: when they move, and that they can.
use Prim.Native.Nat.{ℕ, ◌<◌, ◌≤◌}
use borrow.Author.Tests.{eq-eqb, eqb-true, ne_eqb}
use lib.Dec.{eqb}
use lib.ListN.{get_or, take}
use mathlib.Core.Bool.{Bool, false, true}
use mathlib.Core.List.{List}
use mathlib.Core.Path.{ap, refl, sym, ◌∙◌, ◌≡◌}
use native.Mathlib.Omega.{arith}
use Rattle.basis.specs.Choice.{pick}
use Rattle.basis.specs.Nobody.{nobody}
use Rattle.change.specs.Changes.{copying_from, failing_from, renewed_from}
use Rattle.copies.proofs.Requests.{request_fits}
use Rattle.copies.specs.Failing.{may}
use Rattle.rig_core.specs.Events.{done, failure_of, inner_of, step_of}
use Rattle.rig_core.specs.Memory.{copied_by, inner_memory, memory_after, memory_as}
use Rattle.rig_core.specs.Refusals.{refusal_of, refused, row_of}
use Rattle.rig_core.specs.Sound.{sound}
use Rattle.rig_core.specs.State.{vm_at}
use Rattle.rig_core.specs.declared.Core.{Core}
use Rattle.rig_core.specs.declared.Stepped.{Stepped}
use Rattle.event.specs.declared.Event.TheVariants.{Copy}
use Rattle.event.specs.declared.Event.{Event}
use Rattle.guest.specs.Record.{saved_at}
use Rattle.window.specs.Pieces.{copied_all, extents, fits, no_extent}
use Rattle.window.specs.declared.Extent.{Extent}
use Rattle.window.specs.declared.Pieces.{Pieces}
use Rattle.window.specs.declared.Window.{Window}

-- a Copy that was refused with n, or done where n is 0
module _ (c : Core) (p : Pieces) (w : Window) (n : ℕ) (s : Stepped) (is : s ≡ pick (eqb n 0) (done c (Copy p w)) (refused c n)) where
  -- R1: the answer tells the refusal
  pub refusal_told : s.answer.refusal ≡ n
  unfolding refused done
  refusal_told = ap (λ (x : Stepped). x.answer.refusal) is ∙ go (eqb n 0) refl
    where
      go : (b : Bool) → eqb n 0 ≡ b → (pick b (done c (Copy p w)) (refused c n)).answer.refusal ≡ n
      go true e = sym (eqb-true n 0 e)
      go false e = refl

  -- A4: and notice 3 where a Copy that is done fails
  pub notice_told : n ≡ 0 → s.answer.notice.kind ≡ pick (eqb (failure_of c w p).code 0) 0 3
  unfolding done copying_from
  notice_told h = ap (λ (x : Stepped). x.answer.notice.kind) is ∙ rw (eq-eqb n 0 h) (go (eqb (failure_of c w p).code 0))
    where
      go : (b : Bool)
          → (pick b (renewed_from c.running c.queue c.running (saved_at p.next (vm_at c c.running)) nobody) (failing_from c.running c.queue c.running (saved_at p.next (vm_at c c.running)) (failure_of c w p).code (failure_of c w p).detail)).notice.kind ≡ pick b 0 3
      go true = refl
      go false = refl

  clean : s.answer.refusal ≡ 0 → s.answer.notice.kind ≡ 0 → (failure_of c w p).code ≡ 0
  clean h k = go (eqb (failure_of c w p).code 0) refl (sym k ∙ notice_told (sym refusal_told ∙ h))
    where
      go : (b : Bool) → eqb (failure_of c w p).code 0 ≡ b → ◌≡◌ {A = ℕ} 0 (pick b 0 3) → (failure_of c w p).code ≡ 0
      go true e z = eqb-true (failure_of c w p).code 0 e
      go false e z = absurd (omega arith)

  -- refused: no byte moves
  pub stays_refused : (m : List ℕ) → (s.answer.refusal ≡ 0 → ⊥) → m ≡ memory_as n c (Copy p w) m
  unfolding memory_as
  stays_refused m h = rw (ne_eqb n 0 (λ (z : n ≡ 0). h (refusal_told ∙ z)))

  -- ended in error: no byte moves
  pub stays_failed : (m : List ℕ) → s.answer.refusal ≡ 0 → (s.answer.notice.kind ≡ 0 → ⊥) → m ≡ memory_as n c (Copy p w) m
  unfolding memory_as
  stays_failed m h k =
      rw (eq-eqb n 0 (sym refusal_told ∙ h)) (go (eqb (failure_of c w p).code 0) (notice_told (sym refusal_told ∙ h)))
    where
      go : (b : Bool) → s.answer.notice.kind ≡ pick b 0 3 → m ≡ pick b (copied_by w.base p m) m
      go true e = absurd (k e)
      go false e = refl

  -- else each extent in use can be copied
  pub copies_fit : s.answer.refusal ≡ 0 → s.answer.notice.kind ≡ 0 → (p.count ≤ 8) × ((k : ℕ) → k < p.count → fits w (get_or (extents p) k no_extent) ≡ true)
  copies_fit h k = request_fits (may c.config.regions c.running) w p (clean h k)

  -- and is
  pub copies_done : (m m' : List ℕ) (xs : List Extent) → s.answer.refusal ≡ 0 → s.answer.notice.kind ≡ 0 → xs ≡ extents p → m' ≡ copied_all w.base (take p.count xs) m → m' ≡ memory_as n c (Copy p w) m
  unfolding memory_as
  copies_done m m' xs h k x e = rw (eq-eqb n 0 (sym refusal_told ∙ h), eq-eqb (failure_of c w p).code 0 (clean h k), ← x) e

-- R1: an event as anybody calls it, and one on a state that is known to be sound, are of that form
pub by_refusal : (c : Core) (e : Event) (s : Stepped) → s ≡ step_of c e → s ≡ pick (eqb (refusal_of c e) 0) (done c e) (refused c (refusal_of c e))
unfolding step_of
by_refusal c e s h = h

pub by_row : (c : Core) (e : Event) (s : Stepped) → s ≡ inner_of c e → s ≡ pick (eqb (row_of c e) 0) (done c e) (refused c (row_of c e))
unfolding inner_of
by_row c e s h = h

pub inner_fit : (c : Core) (p : Pieces) (w : Window) (s : Stepped) → s ≡ inner_of c (Copy p w) → s.answer.refusal ≡ 0 → s.answer.notice.kind ≡ 0
    → (p.count ≤ 8) × ((k : ℕ) → k < p.count → fits w (get_or (extents p) k no_extent) ≡ true)
inner_fit c p w s h = copies_fit c p w (row_of c (Copy p w)) s (by_row c (Copy p w) s h)

module _ (c : Core) (e : Event) (b : Bool) (m m' : List ℕ) (test : b ≡ sound c) where
  -- on a sound state the bytes are those of the inner event
  pub memory_goes : b ≡ true → m' ≡ inner_memory c e m → m' ≡ memory_after c e m
  unfolding refusal_of
  memory_goes h f = rw (sym test ∙ h) f

-- R1, row 1: on any other none moves
pub memory_stays : (c : Core) (p : Pieces) (w : Window) (b : Bool) (m : List ℕ) → b ≡ sound c → b ≡ false → m ≡ memory_after c (Copy p w) m
unfolding memory_as refusal_of
memory_stays c p w b m test h = rw (sym test ∙ h)
