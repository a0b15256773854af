-- Ours meets the second demand on answers: who runs and where, the notice, the result.
use Prim.Native.Nat.{ℕ}
use borrow.Author.Tests.{eq-eqb, le-leb, lt-leb, ne_eqb}
use lib.Dec.{eqb}
use lib.ListN.{length}
use mathlib.Core.Bool.{true}
use mathlib.Core.Path.{refl, ◌≡◌}
use native.Mathlib.Omega.{arith}
use Rattle.basis.specs.Choice.{both, pick}
use Rattle.change.specs.declared.Change.{Change}
use Rattle.config.specs.Sizes.{handler_at}
use Rattle.rig_core.specs.Events.{done, failure_of, step_of}
use Rattle.rig_core.specs.Refusals.{row_of}
use Rattle.rig_core.specs.Sound.{sound}
use Rattle.rig_core.specs.State.{full, vm_at}
use Rattle.rig_core.specs.declared.Core.{Core}
use Rattle.rig_core.specs.declared.Stepped.{Stepped}
use Rattle.core_laws.proofs.Copying.{copy_asks}
use Rattle.core_laws.proofs.Facts.{sound_is}
use Rattle.core_laws.proofs.Refused.{step_shows}
use Rattle.core_laws.proofs.View.{call_case, copy_case, row_copy}
use Rattle.event.specs.declared.Event.TheVariants.{Call, Copy, Extra, Fault, Restart, Shutdown, Start, Stop, Tick, Write}
use Rattle.event.specs.declared.Event.{Event}
use Rattle.guest.specs.Record.{saved_at}
use Rattle.history.proofs.Steps.{ours_at}
use Rattle.history.specs.History.{state_of, ticks_of}
use Rattle.promises.proofs.Meets.Starting.{ours_stays_sound, when_done}
use Rattle.promises.specs.Answering.{Tells, notice_by, result_by}
use Rattle.promises.specs.Copying.{failure_for}
use Rattle.window.specs.declared.Pieces.{Pieces}
use Rattle.window.specs.declared.Window.{Window}

call_notice : (c : Core) (s n at : ℕ) → (done c (Call s n at)).answer.notice ≡ notice_by c (Call s n at)
unfolding done
call_notice c s n at =
    call_case (λ (x : Change). x.notice ≡ notice_by c (Call s n at)) c.running c.queue (full c) (handler_at c.config c.running) c.running s n (saved_at at (vm_at c c.running))
    (λ h. rw h) (λ h. rw h) (λ h i. rw (h, le-leb n 31 i)) (λ h i. rw (h, lt-leb n 31 i)) (λ h. rw h) (λ h i. rw h) (λ h i. rw h)
    (λ h. (let a = ne_eqb s 2 (λ e. omega arith) in let b = ne_eqb s 3 (λ e. omega arith) in let d = lt-leb s 4 h in rw (a, b, d)))

call_result : (c : Core) (s n at : ℕ) → (done c (Call s n at)).answer.result ≡ result_by c (Call s n at)
unfolding done
call_result c s n at =
    call_case (λ (x : Change). x.result ≡ pick (both (eqb s 4) (full c)) 1 0) c.running c.queue (full c) (handler_at c.config c.running) c.running s n (saved_at at (vm_at c c.running))
    (λ h. rw h) (λ h. rw h) (λ h i. rw h) (λ h i. rw h) (λ h. rw h) (λ h i. rw (h, i)) (λ h i. rw (h, i))
    (λ h. rw (ne_eqb s 4 (λ e. omega arith)))

-- D33, D34: by what fails
copy_notice : (c : Core) (p : Pieces) (w : Window) → failure_of c w p ≡ failure_for c w p → (done c (Copy p w)).answer.notice ≡ notice_by c (Copy p w)
unfolding done
copy_notice c p w q =
    copy_case (λ (x : Change). x.notice ≡ notice_by c (Copy p w)) c.running c.queue c.running (saved_at p.next (vm_at c c.running)) (failure_of c w p).code (failure_of c w p).detail
    (λ h. rw (← q, eq-eqb (failure_of c w p).code 0 h)) (λ h. rw (← q, ne_eqb (failure_of c w p).code 0 h))

copy_result : (c : Core) (p : Pieces) (w : Window) → (done c (Copy p w)).answer.result ≡ 0
unfolding done
copy_result c p w =
    copy_case (λ (x : Change). x.result ≡ 0) c.running c.queue c.running (saved_at p.next (vm_at c c.running)) (failure_of c w p).code (failure_of c w p).detail (λ h. refl) (λ h. refl)

-- the notice and the result of an event that is done
done_told : (c : Core) (e : Event) → length c.vms ≡ 8 → sound c ≡ true → row_of c e ≡ 0 → ((done c e).answer.notice ≡ notice_by c e) × ((done c e).answer.result ≡ result_by c e)
unfolding done
done_told c Start n s r = (refl, refl)
done_told c (Tick at) n s r = (refl, refl)
done_told c (Stop v) n s r = (refl, refl)
done_told c (Shutdown v) n s r = (refl, refl)
done_told c (Restart v) n s r = (refl, refl)
done_told c (Extra v) n s r = (refl, refl)
done_told c (Call i j at) n s r = (call_notice c i j at, call_result c i j at)
done_told c (Write o x) n s r = (refl, refl)
done_told c (Fault k d) n s r = (refl, refl)
done_told c (Copy p w) n s r = (copy_notice c p w (copy_asks c n (sound_is c s) (row_copy c p w r).1 w p), copy_result c p w)

-- A1, A2, A4 to A7
pub ours_tells : Tells step_of
ours_tells g d es e =
    let c = state_of step_of g es in
    let n = (ours_at g d es).shaped.records in
    let t = step_shows c e (ours_stays_sound g d es) in
    record {
      running = t.0;
      address = t.1;
      notice = when_done (ticks_of step_of g es) c e (λ (s : Stepped). s.answer.notice ≡ notice_by c e) (λ s r. (done_told c e n s r).0);
      result = when_done (ticks_of step_of g es) c e (λ (s : Stepped). s.answer.result ≡ result_by c e) (λ s r. (done_told c e n s r).1);
    }
