-- Ours meets the second demand on the bytes of the window.
use Prim.Native.Nat.{ℕ}
use borrow.Author.Tests.{eqb-true}
use lib.Dec.{eqb}
use lib.ListN.{take}
use mathlib.Core.Bool.{Bool, false, not, true}
use mathlib.Core.List.{List}
use mathlib.Core.Path.{ap, refl, subst, sym, ◌∙◌, ◌≡◌}
use native.Mathlib.Omega.{arith}
use Rattle.basis.proofs.Laws.{both_left, both_right, false_true}
use Rattle.basis.specs.Choice.{both, pick}
use Rattle.rig_core.proofs.Copying.{by_refusal, copies_done, notice_told, refusal_told, stays_failed, stays_refused}
use Rattle.rig_core.specs.Events.{done, failure_of, step_of}
use Rattle.rig_core.specs.Memory.{memory_after, memory_as}
use Rattle.rig_core.specs.Refusals.{refusal_of, refused}
use Rattle.rig_core.specs.declared.Core.{Core}
use Rattle.event.specs.declared.Event.TheVariants.{Call, Copy, Extra, Fault, Restart, Shutdown, Start, Stop, Tick, Write}
use Rattle.event.specs.declared.Event.{Event}
use Rattle.history.specs.History.{moment, state_of, ticks_of}
use Rattle.promises.specs.Copying.{Copies, copying}
use Rattle.window.specs.Pieces.{copied_all, extents}
use Rattle.window.specs.declared.Pieces.{Pieces}
use Rattle.window.specs.declared.Window.{Window}

module _ (k : ℕ) (c : Core) (p : Pieces) (w : Window) where
  abbrev n : ℕ
  n = refusal_of c (Copy p w)

  form : step_of c (Copy p w) ≡ pick (eqb n 0) (done c (Copy p w)) (refused c n)
  form = by_refusal c (Copy p w) (step_of c (Copy p w)) refl

  -- a Copy that is done tells notice 3 or none
  quiet : (step_of c (Copy p w)).answer.refusal ≡ 0 → not (eqb (step_of c (Copy p w)).answer.notice.kind 3) ≡ true → (step_of c (Copy p w)).answer.notice.kind ≡ 0
  quiet h z = go (eqb (failure_of c w p).code 0) (notice_told c p w n (step_of c (Copy p w)) form (sym (refusal_told c p w n (step_of c (Copy p w)) form) ∙ h))
    where
      go : (b : Bool) → (step_of c (Copy p w)).answer.notice.kind ≡ pick b 0 3 → (step_of c (Copy p w)).answer.notice.kind ≡ 0
      go true e = e
      go false e = false_true (rw e at z)

  copy_moves : (bytes : List ℕ) → copying (moment step_of k c (Copy p w)) ≡ true → memory_after c (Copy p w) bytes ≡ copied_all w.base (take p.count (extents p)) bytes
  copy_moves bytes h =
      let r = eqb-true (step_of c (Copy p w)).answer.refusal 0 (both_left (eqb (step_of c (Copy p w)).answer.refusal 0) _ h) in
      sym (copies_done c p w n (step_of c (Copy p w)) form bytes _ (extents p) r (quiet r (both_right (eqb (step_of c (Copy p w)).answer.refusal 0) _ h)) refl refl)

  copy_stays : (bytes : List ℕ) → copying (moment step_of k c (Copy p w)) ≡ false → memory_after c (Copy p w) bytes ≡ bytes
  copy_stays bytes h = go (eqb (step_of c (Copy p w)).answer.refusal 0) (eqb (step_of c (Copy p w)).answer.notice.kind 3) refl refl h
    where
      go : (a b : Bool) → eqb (step_of c (Copy p w)).answer.refusal 0 ≡ a → eqb (step_of c (Copy p w)).answer.notice.kind 3 ≡ b → both a (not b) ≡ false → memory_after c (Copy p w) bytes ≡ bytes
      go true true x y z =
          sym (stays_failed c p w n (step_of c (Copy p w)) form bytes (eqb-true (step_of c (Copy p w)).answer.refusal 0 x)
          (λ i. omega (arith, i, eqb-true (step_of c (Copy p w)).answer.notice.kind 3 y)))
      go true false x y z = false_true (sym z)
      go false b x y z = sym (stays_refused c p w n (step_of c (Copy p w)) form bytes (λ i. false_true (sym x ∙ ap (λ (n : ℕ). eqb n 0) i)))

stays : (k : ℕ) (c : Core) (e : Event) (bytes : List ℕ) → copying (moment step_of k c e) ≡ false → memory_after c e bytes ≡ bytes
unfolding memory_as
stays k c Start bytes h = refl
stays k c (Tick at) bytes h = refl
stays k c (Stop v) bytes h = refl
stays k c (Shutdown v) bytes h = refl
stays k c (Restart v) bytes h = refl
stays k c (Extra v) bytes h = refl
stays k c (Call i n at) bytes h = refl
stays k c (Write o x) bytes h = refl
stays k c (Fault i x) bytes h = refl
stays k c (Copy p w) bytes h = copy_stays k c p w bytes h

-- D35 to D37, C11
pub ours_copies : Copies memory_after step_of
ours_copies g d es e =
    let k = ticks_of step_of g es in
    let c = state_of step_of g es in
    record {
      stays = λ h bytes. stays k c e bytes h;
      copies = λ h p w i bytes.
          ap (λ (x : Event). memory_after c x bytes) i ∙ copy_moves k c p w bytes (subst (λ (x : Event). copying (moment step_of k c x) ≡ true) i h);
    }
