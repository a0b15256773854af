-- Ours meets the second demand on delivery: what is delivered, and when, from the fields before the event.
use Prim.Native.Nat.{ℕ, ◌<◌, ◌≤◌}
use borrow.Author.Tests.{eq-eqb, le-leb, ne_eqb}
use lib.Bits.{bit_or}
use lib.ListN.{get_or, set}
use lib.Seq.{get_or-set_same}
use mathlib.Core.Bool.{false, true}
use mathlib.Core.List.{List}
use mathlib.Core.Path.{ap, refl, subst, sym, ◌∙◌, ◌≡◌}
use native.Mathlib.Omega.{arith}
use Rattle.basis.proofs.Laws.{false_true}
use Rattle.basis.specs.Nobody.{nobody}
use Rattle.change.specs.Changes.{called_from, delivering_from}
use Rattle.change.specs.declared.Change.{Change}
use Rattle.config.specs.Ranges.{Given}
use Rattle.config.specs.Sizes.{handler_at}
use Rattle.config.specs.declared.Config.{Config}
use Rattle.rig_core.specs.Changes.{changed_by}
use Rattle.rig_core.specs.Events.{called, copying, done, failure_of, step_of, tick_clock, tick_turn}
use Rattle.rig_core.specs.Refusals.{refused, row_of}
use Rattle.rig_core.specs.Sound.{sound}
use Rattle.rig_core.specs.State.{full, vm_at}
use Rattle.rig_core.specs.declared.Core.{Core}
use Rattle.rig_core.specs.declared.Stepped.{Stepped}
use Rattle.core_laws.proofs.Facts.{running_below, sound_is}
use Rattle.core_laws.proofs.Refused.{done_number}
use Rattle.core_laws.proofs.View.{call_case, copy_case, row_call, row_copy, row_shutdown, step_case}
use Rattle.event.specs.declared.Event.TheVariants.{Call, Copy, Extra, Fault, Restart, Shutdown, Start, Stop, Tick, Write}
use Rattle.event.specs.declared.Event.{Event}
use Rattle.guest.proofs.Facts.{deliver_hit, deliver_quiet, pend_address, pend_enabled, pend_pending}
use Rattle.guest.specs.Bits.{clear_bit}
use Rattle.guest.specs.Deliver.{back_from, deliver, enter, shown}
use Rattle.guest.specs.Record.{ended_as, fresh, pend, saved_at}
use Rattle.guest.specs.declared.Delivery.{Delivery}
use Rattle.guest.specs.declared.Status.{Status}
use Rattle.guest.specs.declared.Vm.{Vm}
use Rattle.history.proofs.Steps.{Reached, ours_at, vm_small}
use Rattle.history.specs.History.{Moment, history, moment, moment_of, state_of, ticks_of}
use Rattle.promises.proofs.Due.{found_none, highest_found}
use Rattle.promises.proofs.Meets.Starting.{count_few}
use Rattle.promises.proofs.Meets.Ticks.{passed_of, tick_enters, tick_number, tick_passes, tick_silent}
use Rattle.promises.specs.Delivering.{Delivered, Delivers, DeliversAtCall, DeliversAtTick, DeliversBy, DeliversOf, Enters, GoesOn, Highest, NoneDue, Offer, call_delivers, tick_offer}
use Rattle.vms.proofs.Records.{passed_address, passed_status}
use Rattle.vms.specs.Tick.{number_of}

-- ---- a delivery to a VM that has what the offer says

module _ (h : ℕ) (x : Vm) (o : Offer) (pending : x.status.pending ≡ o.pending) (enabled : x.status.enabled ≡ o.enabled) (address : x.address ≡ o.address) where
  delivered_none : NoneDue o → (number_of (deliver h x).number ≡ nobody) × GoesOn o (deliver h x).vm
  delivered_none e =
      subst (λ (r : Delivery). (number_of r.number ≡ nobody) × GoesOn o r.vm) (sym (deliver_quiet h x (found_none o x.status pending enabled e)))
      (refl, record { pending = pending; enabled = enabled; address = address })

  delivered_one : (n : ℕ) → Highest o n → (number_of (deliver h x).number ≡ n) × Enters h n o (deliver h x).vm
  delivered_one n e =
      subst (λ (r : Delivery). (number_of r.number ≡ n) × Enters h n o r.vm) (sym (deliver_hit h n x (highest_found o x.status pending enabled n e)))
      (refl, record { reason = refl; previous = enabled; enabled = refl; pending = ap (clear_bit n) pending; resume = address; address = refl })

  pub delivered : (g : Config) (m : Moment) → m.answer.delivered ≡ number_of (deliver h x).number → vm_at m.after o.vm ≡ (deliver h x).vm → h ≡ handler_at g o.vm → Delivered g o m
  delivered g m a b e =
      record {
        quiet = λ i. (let r = delivered_none i in (a ∙ r.0, subst (λ (w : Vm). GoesOn o w) (sym b) r.1));
        given = λ n i. (let r = delivered_one n i in
            (a ∙ r.0, subst (λ (w : Vm). Enters (handler_at g o.vm) n o w) (sym b) (subst (λ (y : ℕ). Enters y n o (deliver h x).vm) e r.1)));
      }

-- ---- each event

module _ (g : Config) (d : Given g) (k : ℕ) (c : Core) (p : Reached g k c) where
  handler_same : (v : ℕ) → handler_at c.config v ≡ handler_at g v
  handler_same v = ap (λ (x : Config). handler_at x v) p.same

  tick_delivers : (at : ℕ) → DeliversAtTick g at (moment_of k c (Tick at) (done c (Tick at)))
  unfolding done enter shown
  tick_delivers at =
      record {
        to_runner = λ v h e. runner v (vm_small g d v h) e;
        to_nobody = λ e. tick_silent c at e;
        others = λ w n. ap (λ (x : Vm). x.status) (tick_passes c at w n) ∙ passed_status c.running at c.config.count c.vms w;
        addresses = λ w h n. ap (λ (x : Vm). x.address) (tick_passes c at w n) ∙ passed_address c.running at c.config.count c.vms p.shaped.records w (vm_small g d w h);
      }
    where
      runner : (v : ℕ) → v < 8 → (tick_turn c at).who ≡ v → Delivered g (tick_offer c at v) (moment_of k c (Tick at) (done c (Tick at)))
      runner v small e =
          let w = get_or (passed_of c at) v fresh in
          let s : w.status ≡ (vm_at c v).status = passed_status c.running at c.config.count c.vms v in
          delivered (handler_at c.config v) (shown (tick_clock c).left w) (tick_offer c at v)
          (ap (λ (y : Status). bit_or y.pending y.ontick) s) (ap (λ (y : Status). y.enabled) s)
          (passed_address c.running at c.config.count c.vms p.shaped.records v small)
          g (moment_of k c (Tick at) (done c (Tick at)))
          (tick_number c at p.shaped.records v small e) (tick_enters c at p.shaped.records v small e) (handler_same v)

  stored_at : (v : ℕ) (w : Vm) → v < c.config.count → get_or (set c.vms v w) v fresh ≡ w
  stored_at v w h = get_or-set_same c.vms v w fresh (let q = p.shaped.records in let n = count_few g d k c p in omega arith)

  -- a Call, by its service
  module _ (s n at : ℕ) (low : c.running < c.config.count) where
    abbrev vm : Vm
    vm = saved_at at (vm_at c c.running)

    abbrev of : Change → Moment
    of x = moment_of k c (Call s n at) (changed_by c x)

    call_is : (x : Change) → called c c.running s n vm ≡ x → (P : Moment → Type 0) → P (of x) → P (moment_of k c (Call s n at) (done c (Call s n at)))
    unfolding done
    call_is x e P h = subst (λ (y : Change). P (of y)) (sym e) h

    sync_is : s ≡ 0 → called c c.running s n vm ≡ delivering_from c.running c.queue c.running (deliver (handler_at c.config c.running) vm)
    unfolding called_from
    sync_is h = rw h

    return_is : s ≡ 1 → called c c.running s n vm ≡ delivering_from c.running c.queue c.running (deliver (handler_at c.config c.running) (back_from vm))
    unfolding called_from
    return_is h = rw h

    inject_is : s ≡ 2 → n ≤ 31 → called c c.running s n vm ≡ delivering_from c.running c.queue c.running (deliver (handler_at c.config c.running) (pend n vm))
    unfolding called_from
    inject_is h i = rw (h, le-leb n 31 i)

    -- a Call that delivers to x
    call_gives : (x : Vm) (pending enabled address : ℕ) → x.status.pending ≡ pending → x.status.enabled ≡ enabled → x.address ≡ address
        → called c c.running s n vm ≡ delivering_from c.running c.queue c.running (deliver (handler_at c.config c.running) x)
        → Delivered g (record { vm = c.running; pending = pending; enabled = enabled; address = address }) (moment_of k c (Call s n at) (done c (Call s n at)))
    call_gives x pending enabled address a b e h =
        let hd : ℕ = handler_at c.config c.running in
        let o : Offer = record { vm = c.running; pending = pending; enabled = enabled; address = address } in
        call_is _ h (Delivered g o)
        (delivered hd x o a b e g (of (delivering_from c.running c.queue c.running (deliver hd x))) refl (stored_at c.running _ low) (handler_same c.running))

    -- a Call that does not deliver: nothing is, and the next address is stored
    abbrev Passes : Moment → Type 0
    Passes m = (m.answer.delivered ≡ nobody) × ((vm_at m.after c.running).address ≡ at)

    call_passes : call_delivers s n ≡ false → Passes (moment_of k c (Call s n at) (done c (Call s n at)))
    call_passes h =
        call_is (called c c.running s n vm) refl Passes
        (call_case (λ (x : Change). Passes (of x)) c.running c.queue (full c) (handler_at c.config c.running) c.running s n vm
        (λ e. false_true (sym (rw e at h))) (λ e. false_true (sym (rw e at h))) (λ e i. false_true (sym (rw (e, le-leb n 31 i) at h)))
        (λ e i. (refl, stays (ended_as 4 vm) refl)) (λ e. (refl, stays (ended_as 3 vm) refl)) (λ e i. (refl, stays vm refl)) (λ e i. (refl, stays vm refl)) (λ e. (refl, stays (ended_as 4 vm) refl)))
      where
        stays : (w : Vm) → w.address ≡ at → (get_or (set c.vms c.running w) c.running fresh).address ≡ at
        stays w e = ap (λ (x : Vm). x.address) (stored_at c.running w low) ∙ e

    call_delivers_lem : DeliversAtCall g s n at (moment_of k c (Call s n at) (done c (Call s n at)))
    call_delivers_lem =
        record {
          sync = λ h. call_gives vm _ _ _ refl refl refl (sync_is h);
          return = λ h. call_gives (back_from vm) _ _ _ refl refl refl (return_is h);
          inject = λ h i. call_gives (pend n vm) _ _ _ (pend_pending n vm i) (pend_enabled n vm) (pend_address n vm) (inject_is h i);
          never = λ h. (call_passes h).0;
          saved = λ h. (call_passes h).1;
        }

  done_delivers : (e : Event) → sound c ≡ true → row_of c e ≡ 0 → DeliversBy g (moment_of k c e (done c e)) e
  unfolding done
  done_delivers Start s r = refl
  done_delivers (Tick at) s r = tick_delivers at
  done_delivers (Stop v) s r = refl
  done_delivers (Shutdown v) s r =
      let e = stored_at v (pend 11 (vm_at c v)) (row_shutdown c v r).1 in
      record {
        never = refl;
        waits = ap (λ (w : Vm). w.status.pending) e ∙ pend_pending 11 (vm_at c v) (omega arith);
        address = ap (λ (w : Vm). w.address) e ∙ pend_address 11 (vm_at c v);
      }
  done_delivers (Restart v) s r = refl
  done_delivers (Extra v) s r = refl
  done_delivers (Call x n at) s r = call_delivers_lem x n at (running_below c p.shaped.records (sound_is c s) (row_call c x n at r).1)
  done_delivers (Write o x) s r = refl
  done_delivers (Fault n x) s r = refl
  done_delivers (Copy q w) s r = record { never = both.0; saved = both.1 }
    where
      Passes : Change → Type 0
      Passes x = (x.delivered ≡ nobody) × ((vm_at (changed_by c x).core c.running).address ≡ q.next)

      vm : Vm
      vm = saved_at q.next (vm_at c c.running)

      stays : (y : Vm) → y.address ≡ q.next → (get_or (set c.vms c.running y) c.running fresh).address ≡ q.next
      stays y e = ap (λ (x : Vm). x.address) (stored_at c.running y (running_below c p.shaped.records (sound_is c s) (row_copy c q w r).1)) ∙ e

      both : Passes (copying c w q)
      both =
          copy_case Passes c.running c.queue c.running vm (failure_of c w q).code (failure_of c w q).detail
          (λ h. (refl, stays vm refl)) (λ h. (refl, stays (ended_as 4 vm) refl))

  step_delivers : (ms : List Moment) (e : Event) → DeliversOf g ms (moment step_of k c e)
  unfolding refused
  step_delivers ms e =
      step_case c e (λ (s : Stepped). DeliversOf g ms (moment_of k c e s))
      (λ n q h. record { refused = λ w. refl; accepted = λ w. false_true (sym (ne_eqb n 0 h) ∙ w) })
      (λ s r. record { refused = λ w. false_true (sym w ∙ eq-eqb _ 0 (done_number c e)); accepted = λ w. done_delivers e s r })

-- A3, D3, D9, D11 to D13, D17, D22, D24 to D27
pub ours_delivers : Delivers step_of
ours_delivers g d es e = step_delivers g d (ticks_of step_of g es) (state_of step_of g es) (ours_at g d es) (history step_of g es) e
