-- Ours meets the second demand on the frame: no field and no address moves that the event does not name, and a Write stores its value.
use Rattle.std.proofs.Common.{Option, Some, None}
use Prim.Native.Nat.{ℕ, ◌<◌}
use borrow.Author.Tests.{eq-eqb, eqb-false, eqb-true, le-leb, ne_eqb}
use lib.Dec.{eqb, leb}
use lib.ListN.{get_or, set}
use lib.Seq.{get_or-set_same}
use mathlib.Core.Bool.{Bool, false, not, true}
use mathlib.Core.Path.{ap, refl, subst, sym, ◌∙◌, ◌≡◌}
use native.Mathlib.Decide.{ℕ_discrete}
use native.Mathlib.Omega.{arith}
use Rattle.basis.proofs.Laws.{both_yes, eqb_swap, false_true, pick_case}
use Rattle.basis.specs.Choice.{both, either, pick}
use Rattle.change.specs.declared.Change.{Change}
use Rattle.config.specs.Ranges.{Given}
use Rattle.config.specs.Sizes.{handler_at}
use Rattle.config.specs.declared.Config.{Config}
use Rattle.rig_core.specs.Changes.{changed_by}
use Rattle.rig_core.specs.Events.{done, failure_of, step_of, tick_clock, tick_turn}
use Rattle.rig_core.specs.Refusals.{row_of}
use Rattle.rig_core.specs.Sound.{sound}
use Rattle.rig_core.specs.State.{full, vm_at}
use Rattle.rig_core.specs.declared.Core.{Core}
use Rattle.rig_core.specs.declared.Stepped.{Stepped}
use Rattle.core_laws.proofs.Facts.{running_below, sound_is}
use Rattle.core_laws.proofs.View.{call_case, copy_case, row_call, row_copy, row_restart, row_shutdown, row_write}
use Rattle.event.specs.declared.Event.TheVariants.{Call, Copy, Extra, Fault, Restart, Shutdown, Start, Stop, Tick, Write}
use Rattle.event.specs.declared.Event.{Event}
use Rattle.guest.proofs.Facts.{pend_address, write_address}
use Rattle.guest.proofs.Laws.{due_few}
use Rattle.guest.specs.Deliver.{back_from, deliver, deliver_by, due, enter, shown}
use Rattle.guest.specs.Record.{fresh, pend, saved_at}
use Rattle.guest.specs.Write.{stored, write}
use Rattle.guest.specs.declared.Status.{Status}
use Rattle.guest.specs.declared.Vm.{Vm}
use Rattle.history.proofs.Steps.{Reached, ours_at, vm_small}
use Rattle.history.specs.History.{moment_of, state_of, ticks_of}
use Rattle.promises.proofs.Fields.{each_field}
use Rattle.promises.proofs.Meets.Starting.{when_done}
use Rattle.promises.proofs.Meets.Ticks.{passed_of, tick_enters, tick_number, tick_passes}
use Rattle.promises.proofs.Meets.Tracing.{in_list, put_at}
use Rattle.promises.specs.Framing.{Enabled, Field, Framed, Left, OnTick, Pending, Previous, Reason, Restore, Resume, Running, Since, Stores, is_field, moves_by, names_by, of_call, of_delivery, of_tick, offset_of, value_of}
use Rattle.vms.proofs.Records.{passed_address, passed_status, store_keeps}
use Rattle.vms.specs.Tick.{number_of}

-- ---- tests that do not hold

either_off : (a b : Bool) → either a b ≡ false → (a ≡ false) × (b ≡ false)
either_off true b h = false_true (sym h)
either_off false b h = (refl, h)

both_off : (a b : Bool) → both a b ≡ false → a ≡ true → b ≡ false
both_off true b h e = h
both_off false b h e = false_true e

-- ---- a status block with some fields new

abbrev merged : (Field → Bool) → Status → Status → Status
merged t new old =
    record {
      since = pick (t Since) new.since old.since;
      left = pick (t Left) new.left old.left;
      enabled = pick (t Enabled) new.enabled old.enabled;
      pending = pick (t Pending) new.pending old.pending;
      resume = pick (t Resume) new.resume old.resume;
      reason = pick (t Reason) new.reason old.reason;
      previous = pick (t Previous) new.previous old.previous;
      restore = pick (t Restore) new.restore old.restore;
      ontick = pick (t OnTick) new.ontick old.ontick;
      running = pick (t Running) new.running old.running;
    }

merged_field : (t : Field → Bool) (new old : Status) (f : Field) → value_of f (merged t new old) ≡ pick (t f) (value_of f new) (value_of f old)
merged_field t new old = each_field (λ f. value_of f (merged t new old) ≡ pick (t f) (value_of f new) (value_of f old)) refl refl refl refl refl refl refl refl refl refl

-- a field that is not among the new ones is as it was
kept_field : (t : Field → Bool) (new old : Status) → new ≡ merged t new old → (f : Field) → t f ≡ false → value_of f new ≡ value_of f old
kept_field t new old e f h = ap (value_of f) e ∙ merged_field t new old f ∙ rw h

-- ---- what the changes of a record leave

-- a delivery, where nothing was due, leaves all
deliver_field : (f : Field) (h : ℕ) (v : Vm) → both (of_delivery f) (not (eqb (number_of (deliver h v).number) 255)) ≡ false → value_of f (deliver h v).vm.status ≡ value_of f v.status
unfolding deliver
deliver_field f h v = go (due v.status) refl
  where
    out : (b : Bool) → both b true ≡ false → b ≡ false
    out b w = sym (both_yes b) ∙ w

    go : (d : Option ℕ) → due v.status ≡ d → both (of_delivery f) (not (eqb (number_of (deliver_by h v d).number) 255)) ≡ false → value_of f (deliver_by h v d).vm.status ≡ value_of f v.status
    go None e z = refl
    go (Some n) e z = kept_field of_delivery (deliver_by h v (Some n)).vm.status v.status refl f (out (of_delivery f) (rw (ne_eqb n 255 (λ q. omega (arith, due_few v.status n (sym e)))) at z))

shown_field : (f : Field) → of_tick f ≡ false → (l : ℕ) (v : Vm) → value_of f (shown l v).status ≡ value_of f v.status
unfolding shown
shown_field f e l v = kept_field of_tick (shown l v).status v.status refl f e

back_field : (f : Field) → is_field f Enabled ≡ false → (v : Vm) → value_of f (back_from v).status ≡ value_of f v.status
back_field f e v = kept_field (λ h. is_field h Enabled) (back_from v).status v.status refl f e

pend_field : (f : Field) → is_field f Pending ≡ false → (n : ℕ) (v : Vm) → value_of f (pend n v).status ≡ value_of f v.status
unfolding pend
pend_field f e n v = pick_case (λ (w : Vm). value_of f w.status ≡ value_of f v.status) (leb n 31) _ v (λ h. kept_field (λ i. is_field i Pending) _ v.status refl f e) (λ h. refl)

-- the field of a Write, and every other
write_field : (f : Field) (o x : ℕ) (v : Vm) → value_of f (write o x v).status ≡ pick (eqb o (offset_of f)) x (value_of f v.status)
unfolding write stored
write_field f o x v = each_field (λ f. value_of f (write o x v).status ≡ pick (eqb o (offset_of f)) x (value_of f v.status)) refl refl refl refl refl refl refl refl refl refl f

-- ---- ours, event by event

module _ (g : Config) (d : Given g) (k : ℕ) (c : Core) (p : Reached g k c) where
  -- a part of the records: where one is stored at w that has the part as it was, every record has
  put_part : (part : Vm → ℕ) (w : ℕ) (y : Vm) (v : ℕ) → w < c.config.count → (eqb w v ≡ true → part y ≡ part (vm_at c w)) → part (get_or (set c.vms w y) v fresh) ≡ part (vm_at c v)
  put_part part w y v low h = ap part (put_at c.vms w y v (in_list g d k c p w low)) ∙ go (eqb w v) refl
    where
      go : (b : Bool) → eqb w v ≡ b → part (pick b y (vm_at c v)) ≡ part (vm_at c v)
      go true e = h e ∙ ap (λ (i : ℕ). part (vm_at c i)) (eqb-true w v e)
      go false e = refl

  keeps_field : (w v : ℕ) (y : Vm) (f : Field) → y.status ≡ (vm_at c w).status → value_of f (get_or (set c.vms w y) v fresh).status ≡ value_of f (vm_at c v).status
  keeps_field w v y f e = store_keeps (λ x. value_of f x.status) c.vms w y (ap (value_of f) e) v

  -- ---- a tick

  tick_field : (at v : ℕ) → v < g.count → (f : Field) → names_by v (moment_of k c (Tick at) (done c (Tick at))) (Tick at) f ≡ false
      → value_of f (vm_at (done c (Tick at)).core v).status ≡ value_of f (vm_at c v).status
  unfolding done enter
  tick_field at v l f h =
      elim (ℕ_discrete (tick_turn c at).who v) [
        | yes e ↦ (let small = vm_small g d v l in
            let w : Vm = get_or (passed_of c at) v fresh in
            let q = either_off (of_tick f) _ (both_off (eqb (tick_turn c at).who v) _ h (eq-eqb (tick_turn c at).who v e)) in
            ap (λ (x : Vm). value_of f x.status) (tick_enters c at p.shaped.records v small e)
            ∙ deliver_field f (handler_at c.config v) (shown (tick_clock c).left w) (rw (tick_number c at p.shaped.records v small e) at q.1)
            ∙ shown_field f q.0 (tick_clock c).left w
            ∙ ap (value_of f) (passed_status c.running at c.config.count c.vms v))
        | no e ↦ ap (λ (x : Vm). value_of f x.status) (tick_passes c at v e) ∙ ap (value_of f) (passed_status c.running at c.config.count c.vms v)
      ]

  tick_address : (at v : ℕ) → v < g.count → moves_by v (moment_of k c (Tick at) (done c (Tick at))) (Tick at) ≡ false → (vm_at (done c (Tick at)).core v).address ≡ (vm_at c v).address
  unfolding done
  tick_address at v l h =
      let q = either_off (eqb (tick_turn c at).who v) _ h in
      ap (λ (x : Vm). x.address) (tick_passes c at v (eqb-false (tick_turn c at).who v q.0))
      ∙ passed_address c.running at c.config.count c.vms p.shaped.records v (vm_small g d v l)
      ∙ rw (eqb_swap v c.running, q.1)

  -- ---- a Call

  call_field : (s n at v : ℕ) → c.running < c.config.count → (f : Field) → names_by v (moment_of k c (Call s n at) (done c (Call s n at))) (Call s n at) f ≡ false
      → value_of f (vm_at (done c (Call s n at)).core v).status ≡ value_of f (vm_at c v).status
  unfolding done
  call_field s n at v low f =
      call_case P c.running c.queue (full c) hd c.running s n w
      (λ h z. put _ (λ e. deliver_field f hd w (names z e).1))
      (λ h z. put _ (λ e. deliver_field f hd (back_from w) (names z e).1 ∙ back_field f (either_off _ _ (rw h at (names z e).0)).0 w))
      (λ h i z. put _ (λ e. deliver_field f hd (pend n w) (names z e).1 ∙ pend_field f (rw (h, le-leb n 31 i) at (names z e).0) n w))
      (λ h i z. put _ (λ e. refl)) (λ h z. put _ (λ e. refl)) (λ h i z. put _ (λ e. refl)) (λ h i z. put _ (λ e. refl)) (λ h z. put _ (λ e. refl))
    where
      w : Vm
      w = saved_at at (vm_at c c.running)

      hd : ℕ
      hd = handler_at c.config c.running

      P : Change → Type 0
      P x = both (eqb c.running v) (either (of_call s n f) (both (of_delivery f) (not (eqb x.delivered 255)))) ≡ false → value_of f (vm_at (changed_by c x).core v).status ≡ value_of f (vm_at c v).status

      put : (y : Vm) → (eqb c.running v ≡ true → value_of f y.status ≡ value_of f w.status) → value_of f (get_or (set c.vms c.running y) v fresh).status ≡ value_of f (vm_at c v).status
      put y h = put_part (λ x. value_of f x.status) c.running y v low h

      names : {b : Bool} → both (eqb c.running v) (either (of_call s n f) b) ≡ false → eqb c.running v ≡ true → (of_call s n f ≡ false) × (b ≡ false)
      names {b} z e = either_off (of_call s n f) b (both_off (eqb c.running v) (either (of_call s n f) b) z e)

  call_address : (s n at v : ℕ) → c.running < c.config.count → eqb c.running v ≡ false → (vm_at (done c (Call s n at)).core v).address ≡ (vm_at c v).address
  unfolding done
  call_address s n at v low h =
      call_case (λ (x : Change). (vm_at (changed_by c x).core v).address ≡ (vm_at c v).address) c.running c.queue (full c) (handler_at c.config c.running) c.running s n (saved_at at (vm_at c c.running))
      (λ i. out _) (λ i. out _) (λ i j. out _) (λ i j. out _) (λ i. out _) (λ i j. out _) (λ i j. out _) (λ i. out _)
    where
      out : (y : Vm) → (get_or (set c.vms c.running y) v fresh).address ≡ (vm_at c v).address
      out y = put_part (λ x. x.address) c.running y v low (λ e. false_true (sym h ∙ e))

  -- ---- each event

  runner_low : sound c ≡ true → (c.running ≡ 255 → ⊥) → c.running < c.config.count
  runner_low s h = running_below c p.shaped.records (sound_is c s) h

  done_field : (e : Event) → sound c ≡ true → row_of c e ≡ 0 → (v : ℕ) → v < g.count → (f : Field) → names_by v (moment_of k c e (done c e)) e f ≡ false
      → value_of f (vm_at (done c e).core v).status ≡ value_of f (vm_at c v).status
  unfolding done
  done_field Start s r v l f h = false_true (sym h)
  done_field (Tick at) s r v l f h = tick_field at v l f h
  done_field (Stop w) s r v l f h = keeps_field w v _ f refl
  done_field (Shutdown w) s r v l f h = put_part (λ x. value_of f x.status) w _ v (row_shutdown c w r).1 (λ e. pend_field f (both_off (eqb w v) _ h e) 11 (vm_at c w))
  done_field (Restart w) s r v l f h = put_part (λ x. value_of f x.status) w _ v (row_restart c w r).1 (λ e. false_true (sym h ∙ e))
  done_field (Extra w) s r v l f h = keeps_field w v _ f refl
  done_field (Call i n at) s r v l f h = call_field i n at v (runner_low s (row_call c i n at r).1) f h
  done_field (Write o x) s r v l f h =
      put_part (λ y. value_of f y.status) c.running _ v (runner_low s (row_write c o x r).1) (λ e. write_field f o x (vm_at c c.running) ∙ rw (both_off (eqb c.running v) _ h e))
  done_field (Fault i x) s r v l f h = keeps_field c.running v _ f refl
  done_field (Copy q w) s r v l f h =
      copy_case (λ (x : Change). value_of f (vm_at (changed_by c x).core v).status ≡ value_of f (vm_at c v).status) c.running c.queue c.running (saved_at q.next (vm_at c c.running)) (failure_of c w q).code (failure_of c w q).detail
      (λ i. keeps_field c.running v _ f refl) (λ i. keeps_field c.running v _ f refl)

  done_address : (e : Event) → sound c ≡ true → row_of c e ≡ 0 → (v : ℕ) → v < g.count → moves_by v (moment_of k c e (done c e)) e ≡ false → (vm_at (done c e).core v).address ≡ (vm_at c v).address
  unfolding done
  done_address Start s r v l h = false_true (sym h)
  done_address (Tick at) s r v l h = tick_address at v l h
  done_address (Stop w) s r v l h = store_keeps (λ x. x.address) c.vms w _ refl v
  done_address (Shutdown w) s r v l h = store_keeps (λ x. x.address) c.vms w _ (pend_address 11 (vm_at c w)) v
  done_address (Restart w) s r v l h = put_part (λ x. x.address) w _ v (row_restart c w r).1 (λ e. false_true (sym h ∙ e))
  done_address (Extra w) s r v l h = store_keeps (λ x. x.address) c.vms w _ refl v
  done_address (Call i n at) s r v l h = call_address i n at v (runner_low s (row_call c i n at r).1) h
  done_address (Write o x) s r v l h = store_keeps (λ y. y.address) c.vms c.running _ (write_address o x (vm_at c c.running)) v
  done_address (Fault i x) s r v l h = store_keeps (λ y. y.address) c.vms c.running _ refl v
  done_address (Copy q w) s r v l h =
      copy_case (λ (x : Change). (vm_at (changed_by c x).core v).address ≡ (vm_at c v).address) c.running c.queue c.running (saved_at q.next (vm_at c c.running)) (failure_of c w q).code (failure_of c w q).detail
      (λ i. out _) (λ i. out _)
    where
      out : (y : Vm) → (get_or (set c.vms c.running y) v fresh).address ≡ (vm_at c v).address
      out y = put_part (λ x. x.address) c.running y v (runner_low s (row_copy c q w r).1) (λ e. false_true (sym h ∙ e))

  done_stores : (o x : ℕ) → sound c ≡ true → row_of c (Write o x) ≡ 0 → (f : Field) → o ≡ offset_of f → value_of f (vm_at (done c (Write o x)).core c.running).status ≡ x
  unfolding done
  done_stores o x s r f e =
      ap (λ (w : Vm). value_of f w.status) (get_or-set_same c.vms c.running _ fresh (in_list g d k c p c.running (runner_low s (row_write c o x r).1)))
      ∙ write_field f o x (vm_at c c.running) ∙ rw (eq-eqb o (offset_of f) e)

-- D9, D16, D17, D22
pub ours_framed : Framed step_of
ours_framed g d es e =
    let k = ticks_of step_of g es in
    let c = state_of step_of g es in
    let p = ours_at g d es in
    record {
      fields = when_done k c e (λ (s : Stepped). (v : ℕ) → v < g.count → (f : Field) → names_by v (moment_of k c e s) e f ≡ false → value_of f (vm_at s.core v).status ≡ value_of f (vm_at c v).status) (done_field g d k c p e);
      address = when_done k c e (λ (s : Stepped). (v : ℕ) → v < g.count → moves_by v (moment_of k c e s) e ≡ false → (vm_at s.core v).address ≡ (vm_at c v).address) (done_address g d k c p e);
    }

-- D21, F1 to F10
pub ours_stores : Stores step_of
ours_stores g d es e o x i w f h =
    let k = ticks_of step_of g es in
    let c = state_of step_of g es in
    when_done k c e (λ (s : Stepped). value_of f (vm_at s.core c.running).status ≡ x)
    (λ s r. subst (λ (y : Event). value_of f (vm_at (done c y).core c.running).status ≡ x) (sym i)
    (done_stores g d k c (ours_at g d es) o x s (subst (λ (y : Event). row_of c y ≡ 0) i r) f h)) w
