-- Ours meets the second demand on what the history tells: the standing of each VM, whether the core is started, the queue.
use Prim.Native.Nat.{ℕ, ◌<◌}
use borrow.Author.Tests.{eqb-true, le-leb, lt-leb, ne_eqb}
use lib.Dec.{eqb}
use lib.ListN.{get_or, get_or-replicate, length, set}
use mathlib.Core.Bool.{Bool, false, true}
use mathlib.Core.List.{List, []}
use mathlib.Core.Path.{ap, refl, ◌∙◌, ◌≡◌}
use native.Mathlib.Omega.{arith}
use Rattle.basis.proofs.Laws.{eqb_swap}
use Rattle.basis.specs.Choice.{both, pick}
use Rattle.change.specs.declared.Change.{Change}
use Rattle.config.specs.Ranges.{Given}
use Rattle.config.specs.Sizes.{handler_at}
use Rattle.config.specs.declared.Config.{Config}
use Rattle.rig_core.specs.Changes.{changed_by}
use Rattle.rig_core.specs.Events.{done, failure_of, start_core, step_of, tick_clock, tick_owner, tick_turn}
use Rattle.rig_core.specs.Refusals.{refused, row_of}
use Rattle.rig_core.specs.Sound.{sound}
use Rattle.rig_core.specs.State.{fresh_core, full, vm_at}
use Rattle.rig_core.specs.declared.Core.{Core}
use Rattle.rig_core.specs.declared.Stepped.{Stepped}
use Rattle.core_laws.proofs.Facts.{running_below, sound_is}
use Rattle.core_laws.proofs.Refused.{done_number}
use Rattle.core_laws.proofs.View.{call_case, copy_case, row_call, row_copy, row_fault, row_restart, row_stop, step_case}
use Rattle.event.specs.declared.Event.TheVariants.{Call, Copy, Extra, Fault, Restart, Shutdown, Start, Stop, Tick, Write}
use Rattle.event.specs.declared.Event.{Event}
use Rattle.guest.proofs.Facts.{deliver_standing, pend_standing, write_standing}
use Rattle.guest.specs.Deliver.{back_from}
use Rattle.guest.specs.Record.{fresh, pend, saved_at}
use Rattle.guest.specs.declared.Vm.{Vm}
use Rattle.history.proofs.Lawful.{lawful}
use Rattle.history.proofs.More.{part_told}
use Rattle.history.proofs.Steps.{Reached, at_fresh, ours_at, step_at, vm_small}
use Rattle.history.specs.History.{history, moment, moment_of, state_of}
use Rattle.history.specs.Telling.{queue_after, queue_in, standing_after, standing_by, standing_by_call, standing_in, started_after, started_in}
use Rattle.promises.proofs.Meets.Starting.{count_few, start_ready}
use Rattle.promises.specs.Tracing.{Traced}
use Rattle.queue.specs.Entries.{entries, front_of}
use Rattle.table.proofs.Moves.{next_started}
use Rattle.vms.proofs.Records.{store_at, store_keeps, turn_standing}

-- record w replaced: at v stands the new one where v is w
pub put_at : (l : List Vm) (w : ℕ) (x : Vm) (v : ℕ) → w < length l → get_or (set l w x) v fresh ≡ pick (eqb w v) x (get_or l v fresh)
put_at l w x v h = store_at l w x v h ∙ ap (λ (b : Bool). pick b x (get_or l v fresh)) (eqb_swap v w)

module _ (g : Config) (d : Given g) (k : ℕ) (c : Core) (p : Reached g k c) where
  pub in_list : (w : ℕ) → w < c.config.count → w < length c.vms
  in_list w h = let q = p.shaped.records in let n = count_few g d k c p in omega arith

  -- ---- the standing of v

  module _ (v : ℕ) where
    put_standing : (f : ℕ → ℕ) (w : ℕ) (y : Vm) → w < c.config.count → y.standing ≡ f (vm_at c w).standing
        → (get_or (set c.vms w y) v fresh).standing ≡ pick (eqb w v) (f (vm_at c v).standing) (vm_at c v).standing
    put_standing f w y low h = ap (λ (x : Vm). x.standing) (put_at c.vms w y v (in_list w low)) ∙ go (eqb w v) refl
      where
        go : (b : Bool) → eqb w v ≡ b → (pick b y (vm_at c v)).standing ≡ pick b (f (vm_at c v).standing) (vm_at c v).standing
        go true e = h ∙ ap (λ (i : ℕ). f (vm_at c i).standing) (eqb-true w v e)
        go false e = refl

    call_standing : (s n at : ℕ) → c.running < c.config.count
        → (vm_at (done c (Call s n at)).core v).standing ≡ pick (eqb c.running v) (standing_by_call s n (vm_at c v).standing) (vm_at c v).standing
    unfolding done
    call_standing s n at low =
        call_case P c.running c.queue (full c) (handler_at c.config c.running) c.running s n w
        (λ h. rw h (put_standing (λ t. t) c.running _ low (deliver_standing _ w)))
        (λ h. rw h (put_standing (λ t. t) c.running _ low (deliver_standing _ (back_from w))))
        (λ h i. rw (h, le-leb n 31 i) (put_standing (λ t. t) c.running _ low (deliver_standing _ (pend n w) ∙ pend_standing n w)))
        (λ h i. rw (h, lt-leb n 31 i) (put_standing (λ t. 4) c.running _ low refl))
        (λ h. rw h (put_standing (λ t. 3) c.running _ low refl))
        (λ h i. rw h (put_standing (λ t. t) c.running _ low refl))
        (λ h i. rw h (put_standing (λ t. t) c.running _ low refl))
        (λ h. rw (ne_eqb s 2 (λ e. omega arith), ne_eqb s 3 (λ e. omega arith), lt-leb s 4 h) (put_standing (λ t. 4) c.running _ low refl))
      where
        w : Vm
        w = saved_at at (vm_at c c.running)

        P : Change → Type 0
        P x = (vm_at (changed_by c x).core v).standing ≡ pick (eqb c.running v) (standing_by_call s n (vm_at c v).standing) (vm_at c v).standing

    done_standing : v < g.count → (e : Event) → sound c ≡ true → row_of c e ≡ 0 → (vm_at (done c e).core v).standing ≡ standing_by v c.running (done c e).answer e (vm_at c v).standing
    unfolding done tick_turn
    done_standing l Start s r = ap (λ (w : Vm). w.standing) (start_ready g d k c p v l)
    done_standing l (Tick at) s r = turn_standing c.running at c.config.count (tick_owner c) (front_of (entries c.queue)) (tick_clock c).left c.config.handlers c.vms v
    done_standing l (Stop w) s r = put_standing (λ t. 2) w _ (row_stop c w r).1 refl
    done_standing l (Shutdown w) s r = store_keeps (λ x. x.standing) c.vms w (pend 11 (vm_at c w)) (pend_standing 11 (vm_at c w)) v
    done_standing l (Restart w) s r = put_standing (λ t. 1) w _ (row_restart c w r).1 refl
    done_standing l (Extra w) s r = store_keeps (λ x. x.standing) c.vms w (vm_at c w) refl v
    done_standing l (Call i n at) s r = call_standing i n at (running_below c p.shaped.records (sound_is c s) (row_call c i n at r).1)
    done_standing l (Write o x) s r = store_keeps (λ y. y.standing) c.vms c.running _ (write_standing o x (vm_at c c.running)) v
    done_standing l (Fault i x) s r = put_standing (λ t. 4) c.running _ (running_below c p.shaped.records (sound_is c s) (row_fault c i x r).1) refl
    done_standing l (Copy q w) s r =
        copy_case P c.running c.queue c.running vm (failure_of c w q).code (failure_of c w q).detail
        (λ h. store_keeps (λ x. x.standing) c.vms c.running vm refl v)
        (λ h. put_standing (λ t. 4) c.running _ (running_below c p.shaped.records (sound_is c s) (row_copy c q w r).1) refl)
      where
        vm : Vm
        vm = saved_at q.next (vm_at c c.running)

        P : Change → Type 0
        P x = (vm_at (changed_by c x).core v).standing ≡ pick (both (eqb x.notice.kind 3) (eqb c.running v)) 4 (vm_at c v).standing

    pub step_standing : v < g.count → (e : Event) → (vm_at (step_of c e).core v).standing ≡ standing_after v (moment step_of k c e) (vm_at c v).standing
    unfolding standing_after refused
    step_standing l e =
        step_case c e (λ (s : Stepped). (vm_at s.core v).standing ≡ standing_after v (moment_of k c e s) (vm_at c v).standing)
        (λ n q h. rw (ne_eqb n 0 h))
        (λ s r. rw (done_number c e) (done_standing l e s r))

  pub step_queue : (e : Event) → entries (step_of c e).core.queue ≡ queue_after g (moment step_of k c e) (entries c.queue)
  unfolding queue_after
  step_queue e = (lawful g d k c p e).queue

-- ---- started

step_started : (k : ℕ) (c : Core) (e : Event) → (step_of c e).core.clock.started ≡ started_after (moment step_of k c e) c.clock.started
unfolding refused started_after done start_core tick_clock
step_started k c e =
    step_case c e (λ (s : Stepped). s.core.clock.started ≡ started_after (moment_of k c e s) c.clock.started) (λ n q h. rw (ne_eqb n 0 h)) (λ s r. by_kind e)
  where
    by_kind : (e : Event) → (done c e).core.clock.started ≡ started_after (moment_of k c e (done c e)) c.clock.started
    by_kind Start = refl
    by_kind (Tick at) = next_started c.config.slots c.config.durations c.clock
    by_kind (Stop w) = refl
    by_kind (Shutdown w) = refl
    by_kind (Restart w) = refl
    by_kind (Extra w) = refl
    by_kind (Call i n at) = refl
    by_kind (Write o x) = refl
    by_kind (Fault i x) = refl
    by_kind (Copy q w) = refl

-- ---- ours

module _ (g : Config) (d : Given g) (es : List Event) where
  pub ours_standing : (v : ℕ) → v < g.count → (vm_at (state_of step_of g es) v).standing ≡ standing_in v (history step_of g es)
  ours_standing v l =
      part_told step_of (Reached g) (step_at g d) ℕ (λ c. (vm_at c v).standing) (standing_after v) (λ k c p e. step_standing g d k c p v l e) es 0 (fresh_core g) 0 (at_fresh g d)
      (ap (λ (w : Vm). w.standing) (get_or-replicate 8 v fresh fresh (vm_small g d v l)))

  ours_started : (state_of step_of g es).clock.started ≡ started_in (history step_of g es)
  ours_started = part_told step_of (Reached g) (step_at g d) ℕ (λ c. c.clock.started) started_after (λ k c p e. step_started k c e) es 0 (fresh_core g) 0 (at_fresh g d) refl

  pub ours_queue : entries (state_of step_of g es).queue ≡ queue_in g (history step_of g es)
  ours_queue = part_told step_of (Reached g) (step_at g d) (List ℕ) (λ c. entries c.queue) (queue_after g) (λ k c p e. step_queue g d k c p e) es 0 (fresh_core g) [] (at_fresh g d) refl

-- T1, T3, T5, D2, D14, D18, D20, D23, D28 to D30
pub ours_traced : Traced step_of
ours_traced g d es =
    let p = (ours_at g d es).shaped in
    record { standing = ours_standing g d es; started = ours_started g d es; queue = ours_queue g d es; records = p.records; places = p.places }
