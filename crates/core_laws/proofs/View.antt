-- An event is refused or done (R1), and what it means that no row applies to it.
use Prim.Native.Nat.{ℕ, ◌+◌, ◌<◌, ◌≤◌}
use borrow.Author.Tests.{eq-eqb, eqb-false, eqb-true, leb-false, leb-true, lt-leb, lt-ltb, ltb-true, ne_eqb, not-false}
use lib.Dec.{eqb, leb, ltb}
use mathlib.Core.Bool.{Bool, false, not, true}
use mathlib.Core.Path.{refl, sym, ◌∙◌, ◌≡◌}
use native.Mathlib.Omega.{arith}
use Rattle.basis.proofs.Bounds.{within_is, within_of}
use Rattle.basis.proofs.Laws.{pick_case}
use Rattle.basis.specs.Bounds.{within}
use Rattle.basis.specs.Choice.{both, pick}
use Rattle.basis.specs.Nobody.{nobody}
use Rattle.change.specs.Answers.{no_notice, notice_of}
use Rattle.change.specs.Changes.{called_from, copying_from, delivering_from, ending_from, failing_from, queueing_from, renewed_from, turned_away_from}
use Rattle.change.specs.declared.Change.{Change}
use Rattle.rig_core.specs.Changes.{answering, changed_by}
use Rattle.rig_core.specs.Events.{done, start_core, step_of, tick_core, tick_turn}
use Rattle.rig_core.specs.Refusals.{refusal_of, refused, row_of}
use Rattle.rig_core.specs.Sound.{sound}
use Rattle.rig_core.specs.State.{full, idle, ready_at}
use Rattle.rig_core.specs.declared.Core.{Core}
use Rattle.rig_core.specs.declared.Stepped.{Stepped}
use Rattle.event.specs.Kinds.{is_extra, is_start, is_tick, of_master, of_running, subject, wants_ready}
use Rattle.event.specs.declared.Event.TheVariants.{Call, Copy, Extra, Fault, Restart, Shutdown, Start, Stop, Tick, Write}
use Rattle.event.specs.declared.Event.{Event}
use Rattle.guest.specs.Deliver.{back_from, deliver}
use Rattle.guest.specs.Record.{pend}
use Rattle.guest.specs.Write.{is_field}
use Rattle.guest.specs.declared.Vm.{Vm}
use Rattle.logic.specs.Rows.{stray_fault, stray_write}
use Rattle.queue.specs.declared.Queue.{Queue}
use Rattle.table.specs.Position.{is_started}
use Rattle.window.specs.declared.Pieces.{Pieces}
use Rattle.window.specs.declared.Window.{Window}

-- refused with n, or done
pub data View (c : Core) (e : Event) : Stepped → Type 0 where
  turned : (n : ℕ) → refusal_of c e ≡ n → (n ≡ 0 → ⊥) → View c e (refused c n)
  went : sound c ≡ true → row_of c e ≡ 0 → View c e (done c e)

-- ---- the refusal number

pub refusal_row : (c : Core) (e : Event) → sound c ≡ true → refusal_of c e ≡ row_of c e
unfolding refusal_of
refusal_row c e h = rw h

pub refusal_unsound : (c : Core) (e : Event) → sound c ≡ false → refusal_of c e ≡ 1
unfolding refusal_of
refusal_unsound c e h = rw h

pub refusal_sound : (c : Core) (e : Event) → refusal_of c e ≡ 0 → sound c ≡ true
refusal_sound c e h = go (sound c) refl
  where
    go : (b : Bool) → sound c ≡ b → b ≡ true
    go true f = refl
    go false f = absurd (omega (arith, refusal_unsound c e f))

-- accepted: the state is sound and no row applies
pub accepted_is : (c : Core) (e : Event) → eqb (refusal_of c e) 0 ≡ true → (sound c ≡ true) × (row_of c e ≡ 0)
accepted_is c e h =
    let z = eqb-true (refusal_of c e) 0 h in
    let s = refusal_sound c e z in
    (s, sym (refusal_row c e s) ∙ z)

pub accepted_of : (c : Core) (e : Event) → sound c ≡ true → row_of c e ≡ 0 → refusal_of c e ≡ 0
accepted_of c e s r = refusal_row c e s ∙ r

-- ---- the event

pub step_pick : (c : Core) (e : Event) → step_of c e ≡ pick (eqb (refusal_of c e) 0) (done c e) (refused c (refusal_of c e))
unfolding step_of
step_pick c e = refl

pub step_went : (c : Core) (e : Event) → eqb (refusal_of c e) 0 ≡ true → step_of c e ≡ done c e
step_went c e h = step_pick c e ∙ rw h

pub step_turned : (c : Core) (e : Event) → eqb (refusal_of c e) 0 ≡ false → step_of c e ≡ refused c (refusal_of c e)
step_turned c e h = step_pick c e ∙ rw h

pub step_done : (c : Core) (e : Event) → sound c ≡ true → row_of c e ≡ 0 → step_of c e ≡ done c e
step_done c e s r = step_went c e (eq-eqb (refusal_of c e) 0 (accepted_of c e s r))

pub step_refused : (c : Core) (e : Event) → (refusal_of c e ≡ 0 → ⊥) → step_of c e ≡ refused c (refusal_of c e)
step_refused c e h = step_turned c e (ne_eqb (refusal_of c e) 0 h)

-- R1
pub view : (c : Core) (e : Event) → View c e (step_of c e)
unfolding step_of
view c e =
    pick_case (View c e) (eqb (refusal_of c e) 0) (done c e) (refused c (refusal_of c e))
    (λ h. (let a = accepted_is c e h in went a.0 a.1))
    (λ h. turned (refusal_of c e) refl (eqb-false (refusal_of c e) 0 h))

-- what holds of a refusal and of the event done holds of the event
pub step_case : (c : Core) (e : Event) (P : Stepped → Type 0)
    → ((n : ℕ) → refusal_of c e ≡ n → (n ≡ 0 → ⊥) → P (refused c n))
    → (sound c ≡ true → row_of c e ≡ 0 → P (done c e))
    → P (step_of c e)
step_case c e P t w = go (step_of c e) (view c e)
  where
    go : (s : Stepped) → View c e s → P s
    go s (turned n q h) = t n q h
    go s (went h r) = w h r

-- ---- the rows that do not apply

-- a row that does not apply, and the rows below it
row_next : (b : Bool) (n m : ℕ) → 0 < n → pick b n m ≡ 0 → (b ≡ false) × (m ≡ 0)
row_next true n m h e = absurd (omega arith)
row_next false n m h e = (refl, e)

row_last : (b : Bool) (n : ℕ) → 0 < n → pick b n 0 ≡ 0 → b ≡ false
row_last b n h e = (row_next b n 0 h e).0

-- no row but the first gives 1
pub row_not_one : (c : Core) (e : Event) → row_of c e ≡ 1 → ⊥
unfolding row_of
row_not_one c e h =
    pick_case P (both (is_start e) (is_started c.clock)) _ _ (λ t z. absurd (omega arith))
    (λ t. pick_case P (both (not (is_start e)) (not (is_started c.clock))) _ _ (λ t z. absurd (omega arith))
    (λ t. pick_case P (both (of_master e) (not (ltb (subject e) c.config.count))) _ _ (λ t z. absurd (omega arith))
    (λ t. pick_case P (both (wants_ready e) (not (ready_at c (subject e)))) _ _ (λ t z. absurd (omega arith))
    (λ t. pick_case P (both (is_extra e) (full c)) _ _ (λ t z. absurd (omega arith))
    (λ t. pick_case P (both (of_running e) (idle c)) _ _ (λ t z. absurd (omega arith))
    (λ t. pick_case P (stray_write e) _ _ (λ t z. absurd (omega arith))
    (λ t. pick_case P (stray_fault e) _ _ (λ t z. absurd (omega arith)) (λ t z. absurd (omega arith))))))))) h
  where
    P : ℕ → Type 0
    P n = n ≡ 1 → ⊥

pub row_start : (c : Core) → row_of c Start ≡ 0 → is_started c.clock ≡ false
unfolding row_of
row_start c r = row_last (is_started c.clock) 7 (omega arith) r

pub row_tick : (c : Core) (at : ℕ) → row_of c (Tick at) ≡ 0 → is_started c.clock ≡ true
unfolding row_of
row_tick c at r = not-false (is_started c.clock) (row_last _ 2 (omega arith) r)

-- the first row of all events but Start, and the row for the master's VM
row_begun : (c : Core) (m : ℕ) → pick (not (is_started c.clock)) 2 m ≡ 0 → (is_started c.clock ≡ true) × (m ≡ 0)
row_begun c m r = let a = row_next (not (is_started c.clock)) 2 m (omega arith) r in (not-false (is_started c.clock) a.0, a.1)

row_known : (c : Core) (v m : ℕ) → pick (not (ltb v c.config.count)) 3 m ≡ 0 → (v < c.config.count) × (m ≡ 0)
row_known c v m r =
    let a = row_next (not (ltb v c.config.count)) 3 m (omega arith) r in
    (ltb-true v c.config.count (not-false (ltb v c.config.count) a.0), a.1)

row_ready : (c : Core) (v m : ℕ) → pick (not (ready_at c v)) 4 m ≡ 0 → (ready_at c v ≡ true) × (m ≡ 0)
row_ready c v m r = let a = row_next (not (ready_at c v)) 4 m (omega arith) r in (not-false (ready_at c v) a.0, a.1)

row_runs : (c : Core) (m : ℕ) → pick (idle c) 5 m ≡ 0 → (c.running ≡ nobody → ⊥) × (m ≡ 0)
row_runs c m r = let a = row_next (idle c) 5 m (omega arith) r in (eqb-false c.running nobody a.0, a.1)

pub row_stop : (c : Core) (v : ℕ) → row_of c (Stop v) ≡ 0 → (is_started c.clock ≡ true) × (v < c.config.count) × (ready_at c v ≡ true)
unfolding row_of
row_stop c v r =
    let a = row_begun c _ r in
    let b = row_known c v _ a.1 in
    (a.0, b.0, (row_ready c v _ b.1).0)

pub row_shutdown : (c : Core) (v : ℕ) → row_of c (Shutdown v) ≡ 0 → (is_started c.clock ≡ true) × (v < c.config.count) × (ready_at c v ≡ true)
unfolding row_of
row_shutdown c v r =
    let a = row_begun c _ r in
    let b = row_known c v _ a.1 in
    (a.0, b.0, (row_ready c v _ b.1).0)

pub row_restart : (c : Core) (v : ℕ) → row_of c (Restart v) ≡ 0 → (is_started c.clock ≡ true) × (v < c.config.count)
unfolding row_of
row_restart c v r =
    let a = row_begun c _ r in
    (a.0, (row_known c v _ a.1).0)

-- R1, R4: an Extra that is done found room
pub row_extra : (c : Core) (v : ℕ) → row_of c (Extra v) ≡ 0
    → (is_started c.clock ≡ true) × (v < c.config.count) × (ready_at c v ≡ true) × (c.queue.len < c.config.room)
unfolding row_of
row_extra c v r =
    let a = row_begun c _ r in
    let b = row_known c v _ a.1 in
    let d = row_ready c v _ b.1 in
    (a.0, b.0, d.0, leb-false c.config.room c.queue.len (row_last (full c) 6 (omega arith) d.1))

pub row_call : (c : Core) (s n a : ℕ) → row_of c (Call s n a) ≡ 0 → (is_started c.clock ≡ true) × (c.running ≡ nobody → ⊥)
unfolding row_of
row_call c s n a r =
    let b = row_begun c _ r in
    (b.0, (row_runs c _ b.1).0)

pub row_write : (c : Core) (o x : ℕ) → row_of c (Write o x) ≡ 0 → (is_started c.clock ≡ true) × (c.running ≡ nobody → ⊥) × (is_field o ≡ true)
unfolding row_of
row_write c o x r =
    let a = row_begun c _ r in
    let b = row_runs c _ a.1 in
    (a.0, b.0, not-false (is_field o) (row_last (not (is_field o)) 8 (omega arith) b.1))

pub row_fault : (c : Core) (k d : ℕ) → row_of c (Fault k d) ≡ 0 → (is_started c.clock ≡ true) × (c.running ≡ nobody → ⊥) × (3 ≤ k) × (k ≤ 5)
unfolding row_of
row_fault c k d r =
    let a = row_begun c _ r in
    let b = row_runs c _ a.1 in
    let w = within_is 3 5 k (not-false (within 3 5 k) (row_last (not (within 3 5 k)) 9 (omega arith) b.1)) in
    (a.0, b.0, w.0, w.1)

pub row_copy : (c : Core) (p : Pieces) (w : Window) → row_of c (Copy p w) ≡ 0 → (is_started c.clock ≡ true) × (c.running ≡ nobody → ⊥)
unfolding row_of
row_copy c p w r =
    let b = row_begun c _ r in
    (b.0, (row_runs c _ b.1).0)

-- ---- and when no row applies

pub start_row : (c : Core) → is_started c.clock ≡ false → row_of c Start ≡ 0
unfolding row_of
start_row c h = rw h

-- R5: once the core is started, a Tick is done
pub tick_row : (c : Core) (at : ℕ) → is_started c.clock ≡ true → row_of c (Tick at) ≡ 0
unfolding row_of
tick_row c at h = rw h

pub stop_row : (c : Core) (v : ℕ) → is_started c.clock ≡ true → v < c.config.count → ready_at c v ≡ true → row_of c (Stop v) ≡ 0
unfolding row_of
stop_row c v h l y = rw (h, lt-ltb v c.config.count l, y)

pub shutdown_row : (c : Core) (v : ℕ) → is_started c.clock ≡ true → v < c.config.count → ready_at c v ≡ true → row_of c (Shutdown v) ≡ 0
unfolding row_of
shutdown_row c v h l y = rw (h, lt-ltb v c.config.count l, y)

-- R5: whatever the standing of the VM
pub restart_row : (c : Core) (v : ℕ) → is_started c.clock ≡ true → v < c.config.count → row_of c (Restart v) ≡ 0
unfolding row_of
restart_row c v h l = rw (h, lt-ltb v c.config.count l)

pub extra_row : (c : Core) (v : ℕ) → is_started c.clock ≡ true → v < c.config.count → ready_at c v ≡ true → c.queue.len < c.config.room → row_of c (Extra v) ≡ 0
unfolding row_of
extra_row c v h l y f = rw (h, lt-ltb v c.config.count l, y, lt-leb c.config.room c.queue.len f)

-- R6: a Call of the VM that runs is done, whatever its service and argument
pub call_row : (c : Core) (s n a : ℕ) → is_started c.clock ≡ true → (c.running ≡ nobody → ⊥) → row_of c (Call s n a) ≡ 0
unfolding row_of
call_row c s n a h i = rw (h, ne_eqb c.running nobody i)

pub write_row : (c : Core) (o x : ℕ) → is_started c.clock ≡ true → (c.running ≡ nobody → ⊥) → is_field o ≡ true → row_of c (Write o x) ≡ 0
unfolding row_of
write_row c o x h i f = rw (h, ne_eqb c.running nobody i, f)

pub fault_row : (c : Core) (k d : ℕ) → is_started c.clock ≡ true → (c.running ≡ nobody → ⊥) → 3 ≤ k → k ≤ 5 → row_of c (Fault k d) ≡ 0
unfolding row_of
fault_row c k d h i l m = rw (h, ne_eqb c.running nobody i, within_of 3 5 k l m)

-- R6: a Copy of the VM that runs is done, whatever it asks for
pub copy_row : (c : Core) (p : Pieces) (w : Window) → is_started c.clock ≡ true → (c.running ≡ nobody → ⊥) → row_of c (Copy p w) ≡ 0
unfolding row_of
copy_row c p w h i = rw (h, ne_eqb c.running nobody i)

-- ---- what a Copy does, by what fails in it (D31 to D36)

pub copy_case : (P : Change → Type 0) (running : ℕ) (queue : Queue) (v : ℕ) (vm : Vm) (code detail : ℕ)
    → (code ≡ 0 → P (renewed_from running queue v vm nobody)) → ((code ≡ 0 → ⊥) → P (failing_from running queue v vm code detail))
    → P (copying_from running queue v vm code detail)
unfolding copying_from
copy_case P running queue v vm code detail p q = pick_case P (eqb code 0) _ _ (λ h. p (eqb-true code 0 h)) (λ h. q (eqb-false code 0 h))

-- ---- what a Call does, by its service (D25 to D30)

over_one : (k n : ℕ) → k ≤ n → (n ≡ k → ⊥) → k + 1 ≤ n
over_one k n h i = omega arith

module _ (P : Change → Type 0) (running : ℕ) (queue : Queue) (noRoom : Bool) (handler v service argument : ℕ) (vm : Vm) where
  pub call_case :
      (service ≡ 0 → P (delivering_from running queue v (deliver handler vm)))
      → (service ≡ 1 → P (delivering_from running queue v (deliver handler (back_from vm))))
      → (service ≡ 2 → argument ≤ 31 → P (delivering_from running queue v (deliver handler (pend argument vm))))
      → (service ≡ 2 → 31 < argument → P (failing_from running queue v vm 2 argument))
      → (service ≡ 3 → P (ending_from running queue v vm 3 (notice_of 2 v)))
      → (service ≡ 4 → noRoom ≡ true → P (turned_away_from running queue v vm))
      → (service ≡ 4 → noRoom ≡ false → P (queueing_from running queue v vm))
      → (4 < service → P (failing_from running queue v vm 1 service))
      → P (called_from running queue noRoom handler v service argument vm)
  unfolding called_from
  call_case p0 p1 p2 p2f p3 p4f p4 p5 =
      pick_case P (eqb service 0) _ _ (λ h. p0 (eqb-true service 0 h))
      (λ h0. pick_case P (eqb service 1) _ _ (λ h. p1 (eqb-true service 1 h))
      (λ h1. pick_case P (eqb service 2) _ _
      (λ h. pick_case P (leb argument 31) _ _ (λ l. p2 (eqb-true service 2 h) (leb-true argument 31 l)) (λ l. p2f (eqb-true service 2 h) (leb-false argument 31 l)))
      (λ h2. pick_case P (eqb service 3) _ _ (λ h. p3 (eqb-true service 3 h))
      (λ h3. pick_case P (eqb service 4) _ _ (λ h. pick_case P noRoom _ _ (p4f (eqb-true service 4 h)) (p4 (eqb-true service 4 h)))
      (λ h4. p5 (over (eqb-false service 0 h0) (eqb-false service 1 h1) (eqb-false service 2 h2) (eqb-false service 3 h3) (eqb-false service 4 h4)))))))
    where
      over : (service ≡ 0 → ⊥) → (service ≡ 1 → ⊥) → (service ≡ 2 → ⊥) → (service ≡ 3 → ⊥) → (service ≡ 4 → ⊥) → 4 < service
      over a b c d e = over_one 4 service (over_one 3 service (over_one 2 service (over_one 1 service (over_one 0 service (omega arith) a) b) c) d) e

-- an event that is done is a Start, a Tick, or a change of one VM
pub done_case : (c : Core) (P : Event → Stepped → Type 0)
    → P Start (answering (start_core c) nobody no_notice 0 0)
    → ((at : ℕ) → P (Tick at) (answering (tick_core c at) (tick_turn c at).number no_notice 0 0))
    → ((e : Event) (d : Change) → is_tick e ≡ false → is_start e ≡ false → P e (changed_by c d))
    → (e : Event) → P e (done c e)
unfolding done
done_case c P s t f Start = s
done_case c P s t f (Tick at) = t at
done_case c P s t f (Stop v) = f (Stop v) _ refl refl
done_case c P s t f (Shutdown v) = f (Shutdown v) _ refl refl
done_case c P s t f (Restart v) = f (Restart v) _ refl refl
done_case c P s t f (Extra v) = f (Extra v) _ refl refl
done_case c P s t f (Call k n a) = f (Call k n a) _ refl refl
done_case c P s t f (Write o x) = f (Write o x) _ refl refl
done_case c P s t f (Fault k d) = f (Fault k d) _ refl refl
done_case c P s t f (Copy p w) = f (Copy p w) _ refl refl
