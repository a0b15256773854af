-- Ours meets the second demand on the clocks: age and ticks run are counts of the history.
use Prim.Native.Nat.{ℕ, ◌%◌, ◌+◌, ◌<◌, ◌^◌}
use borrow.Author.Tests.{eq-eqb, eqb-true, ne_eqb}
use lib.Dec.{eqb}
use lib.ListN.{get_or-replicate, length}
use lib.Seq.{get_or-set_other, get_or-set_same}
use mathlib.Core.Bool.{Bool, false, true}
use mathlib.Core.List.{List, [], ◌++◌, ◌∷◌}
use mathlib.Core.Path.{ap, refl, sym, ◌∙◌, ◌≡◌}
use native.Mathlib.Decide.{ℕ_discrete}
use native.Mathlib.Nat.{mod-add-mod}
use native.Mathlib.Omega.{arith}
use Rattle.basis.proofs.Laws.{false_true}
use Rattle.basis.specs.Choice.{both, pick}
use Rattle.basis.specs.Nobody.{nobody}
use Rattle.change.specs.Answers.{notice_of}
use Rattle.change.specs.declared.Change.{Change}
use Rattle.config.specs.Ranges.{Given}
use Rattle.config.specs.Sizes.{entry_at, handler_at}
use Rattle.config.specs.declared.Config.{Config}
use Rattle.rig_core.specs.Changes.{changed_by, ending, failing, queueing, renewed}
use Rattle.rig_core.specs.Events.{called, copying, done, failure_of, step_of, tick_turn}
use Rattle.rig_core.specs.Refusals.{refused, row_of}
use Rattle.rig_core.specs.State.{fresh_core, full, vm_at}
use Rattle.rig_core.specs.declared.Core.{Core}
use Rattle.rig_core.specs.declared.Stepped.{Stepped}
use Rattle.core_laws.proofs.View.{call_case, copy_case, row_restart, step_case}
use Rattle.event.specs.declared.Event.TheVariants.{Call, Copy, Extra, Fault, Restart, Shutdown, Start, Stop, Tick, Write}
use Rattle.event.specs.declared.Event.{Event}
use Rattle.guest.proofs.Facts.{deliver_age, deliver_ran, pend_age, pend_ran, write_age, write_ran}
use Rattle.guest.specs.Deliver.{back_from, deliver}
use Rattle.guest.specs.Record.{ended_as, fresh, pend, saved_at, started_at}
use Rattle.guest.specs.Write.{write}
use Rattle.guest.specs.declared.Vm.{Vm}
use Rattle.history.proofs.More.{moments_more, state_more}
use Rattle.history.proofs.Steps.{Reached, at_fresh, ours_at, step_at, vm_small}
use Rattle.history.specs.History.{Behaviour, Moment, history, moment, moment_of, moments, next, since_last, state_after, state_of, ticking, ticks_after, ticks_of, told, went}
use Rattle.history.specs.Moments.{begins, ran_in}
use Rattle.promises.proofs.Meets.Starting.{count_few, start_ready}
use Rattle.promises.proofs.Meets.Ticks.{tick_age, tick_ran, tick_shows}
use Rattle.promises.specs.Timing.{Clocks, Shows, age_in, ran_since}
use Rattle.vms.proofs.Records.{store_keeps}

-- ---- any count, by what each event makes of it

module _ (b : Behaviour) (Inv : ℕ → Core → Type 0) (keeps : (k : ℕ) (c : Core) → Inv k c → (e : Event) → Inv (ticks_after (moment b k c e)) (b c e).core)
    (count : Core → ℕ) (clears grows : Moment → Bool)
    (law : (k : ℕ) (c : Core) → Inv k c → (e : Event) → count (b c e).core ≡ pick (clears (moment b k c e)) 0 (pick (grows (moment b k c e)) ((count c + 1) % 2 ^ 32) (count c))) where
  pub counted : (es : List Event) (k : ℕ) (c : Core) (n : ℕ) → Inv k c → count c ≡ n % 2 ^ 32 → count (state_after b c es) ≡ since_last clears grows n (moments b k c es) % 2 ^ 32
  unfolding state_after told moments
  counted [] k c n i h = h
  counted (e ∷ es) k c n i h =
      counted es _ (b c e).core (pick (clears (moment b k c e)) 0 (pick (grows (moment b k c e)) (n + 1) n)) (keeps k c i e)
      (law k c i e ∙ go (clears (moment b k c e)) (grows (moment b k c e)))
    where
      go : (x y : Bool) → pick x 0 (pick y ((count c + 1) % 2 ^ 32) (count c)) ≡ pick x 0 (pick y (n + 1) n) % 2 ^ 32
      go true y = refl
      go false true = ap (λ (z : ℕ). (z + 1) % 2 ^ 32) h ∙ mod-add-mod n (2 ^ 32) 1
      go false false = h

-- ---- a count of a VM record that only a tick moves

record Steady (f : Vm → ℕ) : Type 0 where
  saved : (at : ℕ) (v : Vm) → f (saved_at at v) ≡ f v
  ended : (t : ℕ) (v : Vm) → f (ended_as t v) ≡ f v
  back : (v : Vm) → f (back_from v) ≡ f v
  pended : (n : ℕ) (v : Vm) → f (pend n v) ≡ f v
  wrote : (o x : ℕ) (v : Vm) → f (write o x v) ≡ f v
  given : (h : ℕ) (v : Vm) → f (deliver h v).vm ≡ f v
  begun : (a : ℕ) → f (started_at a) ≡ 0

steady_age : Steady (λ v. v.age)
steady_age = record { saved = λ at v. refl; ended = λ t v. refl; back = λ v. refl; pended = pend_age; wrote = write_age; given = deliver_age; begun = λ a. refl }

steady_ran : Steady (λ v. v.ran)
steady_ran = record { saved = λ at v. refl; ended = λ t v. refl; back = λ v. refl; pended = pend_ran; wrote = write_ran; given = deliver_ran; begun = λ a. refl }

change_keeps : (f : Vm → ℕ) (c : Core) (v : ℕ) (x : Change) → f x.vm ≡ f (vm_at c x.place) → f (vm_at (changed_by c x).core v) ≡ f (vm_at c v)
change_keeps f c v x h = store_keeps f c.vms x.place x.vm h v

module _ (f : Vm → ℕ) (steady : Steady f) (g : Config) (d : Given g) (v : ℕ) (low : v < g.count) (grows : Moment → Bool) (still : (m : Moment) → ticking m ≡ false → grows m ≡ false) where
  -- what the count is to be after a moment
  abbrev grown : Moment → ℕ
  grown m = pick (begins v m) 0 (pick (grows m) ((f (vm_at m.before v) + 1) % 2 ^ 32) (f (vm_at m.before v)))

  module _ (k : ℕ) (c : Core) (p : Reached g k c)
      (moves : (at : ℕ) → f (vm_at (done c (Tick at)).core v) ≡ pick (grows (moment_of k c (Tick at) (done c (Tick at)))) ((f (vm_at c v) + 1) % 2 ^ 32) (f (vm_at c v))) where
    -- a moment that neither begins v nor is a tick
    quiet_law : (m : Moment) → m.before ≡ c → begins v m ≡ false → ticking m ≡ false → f (vm_at m.after v) ≡ f (vm_at c v) → f (vm_at m.after v) ≡ grown m
    quiet_law m e b t h = rw (b, still m t) (h ∙ ap (λ (x : Core). f (vm_at x v)) (sym e))

    call_keeps : (s n at : ℕ) → f (vm_at (done c (Call s n at)).core v) ≡ f (vm_at c v)
    unfolding done
    call_keeps s n at =
        change_keeps f c v (called c c.running s n w)
        (call_case (λ (x : Change). f x.vm ≡ f (vm_at c x.place)) c.running c.queue (full c) (handler_at c.config c.running) c.running s n w
        (λ h. steady.given _ w ∙ old) (λ h. steady.given _ (back_from w) ∙ steady.back w ∙ old) (λ h i. steady.given _ (pend n w) ∙ steady.pended n w ∙ old) (λ h i. steady.ended 4 w ∙ old)
        (λ h. steady.ended 3 w ∙ old) (λ h i. old) (λ h i. old) (λ h. steady.ended 4 w ∙ old))
      where
        w : Vm
        w = saved_at at (vm_at c c.running)

        old : f w ≡ f (vm_at c c.running)
        old = steady.saved at (vm_at c c.running)

    restart_law : (w : ℕ) → w < c.config.count → f (vm_at (done c (Restart w)).core v) ≡ pick (eqb w v) 0 (f (vm_at c v))
    unfolding done
    restart_law w h = go (ℕ_discrete w v)
      where
        long : w < length c.vms
        long = let q = p.shaped.records in let n = count_few g d k c p in omega arith

        go : Dec (w ≡ v) → f (vm_at (done c (Restart w)).core v) ≡ pick (eqb w v) 0 (f (vm_at c v))
        go (yes e) = rw (eq-eqb w v e) (rw (← e) (ap f (get_or-set_same c.vms w (started_at (entry_at c.config w)) fresh long) ∙ steady.begun (entry_at c.config w)))
        go (no e) = rw (ne_eqb w v e) (ap f (get_or-set_other c.vms w v (started_at (entry_at c.config w)) fresh (λ i. e (sym i))))

    done_grown : (e : Event) → row_of c e ≡ 0 → f (vm_at (done c e).core v) ≡ grown (moment_of k c e (done c e))
    unfolding begins done
    done_grown Start r = ap f (start_ready g d k c p v low) ∙ steady.begun (entry_at g v)
    done_grown (Tick at) r = moves at
    done_grown (Stop w) r = quiet_law (moment_of k c (Stop w) (done c (Stop w))) refl refl refl (change_keeps f c v (ending c w (vm_at c w) 2 (notice_of 1 w)) (steady.ended 2 (vm_at c w)))
    done_grown (Shutdown w) r = quiet_law (moment_of k c (Shutdown w) (done c (Shutdown w))) refl refl refl (change_keeps f c v (renewed c w (pend 11 (vm_at c w)) nobody) (steady.pended 11 (vm_at c w)))
    done_grown (Restart w) r = go (eqb w v) refl (restart_law w (row_restart c w r).1)
      where
        m : Moment
        m = moment_of k c (Restart w) (done c (Restart w))

        go : (b : Bool) → eqb w v ≡ b → f (vm_at m.after v) ≡ pick (eqb w v) 0 (f (vm_at c v)) → f (vm_at m.after v) ≡ grown m
        go true e h = rw e (rw e at h)
        go false e h = quiet_law m refl e refl (rw e at h)
    done_grown (Extra w) r = quiet_law (moment_of k c (Extra w) (done c (Extra w))) refl refl refl (change_keeps f c v (queueing c w (vm_at c w)) refl)
    done_grown (Call s n at) r = quiet_law (moment_of k c (Call s n at) (done c (Call s n at))) refl refl refl (call_keeps s n at)
    done_grown (Write o x) r = quiet_law (moment_of k c (Write o x) (done c (Write o x))) refl refl refl (change_keeps f c v (renewed c c.running (write o x (vm_at c c.running)) nobody) (steady.wrote o x (vm_at c c.running)))
    done_grown (Fault n x) r = quiet_law (moment_of k c (Fault n x) (done c (Fault n x))) refl refl refl (change_keeps f c v (failing c c.running (vm_at c c.running) n x) (steady.ended 4 (vm_at c c.running)))
    done_grown (Copy q w) r =
        quiet_law (moment_of k c (Copy q w) (done c (Copy q w))) refl refl refl
        (change_keeps f c v (copying c w q)
        (copy_case (λ (x : Change). f x.vm ≡ f (vm_at c x.place)) c.running c.queue c.running (saved_at q.next (vm_at c c.running)) (failure_of c w q).code (failure_of c w q).detail
        (λ h. steady.saved q.next (vm_at c c.running)) (λ h. steady.ended 4 _ ∙ steady.saved q.next (vm_at c c.running))))

    step_grown : (e : Event) → f (vm_at (step_of c e).core v) ≡ grown (moment step_of k c e)
    unfolding refused begins
    step_grown e =
        step_case c e (λ (s : Stepped). f (vm_at s.core v) ≡ grown (moment_of k c e s))
        (λ n q h. (let z = ne_eqb n 0 h in quiet_law (moment_of k c e (refused c n)) refl (rw z) (rw z) refl))
        (λ s r. done_grown e r)

-- ---- ours

abbrev age_of : ℕ → Core → ℕ
age_of v c = (vm_at c v).age

abbrev ran_of : ℕ → Core → ℕ
ran_of v c = (vm_at c v).ran

module _ (g : Config) (d : Given g) (v : ℕ) (low : v < g.count) where
  in_count : (k : ℕ) (c : Core) → Reached g k c → v < c.config.count
  in_count k c p = let e = ap (λ (x : Config). x.count) p.same in omega arith

  age_moves : (k : ℕ) (c : Core) → Reached g k c → (at : ℕ) → age_of v (done c (Tick at)).core ≡ (age_of v c + 1) % 2 ^ 32
  unfolding done
  age_moves k c p at = tick_age c at p.shaped.records v (vm_small g d v low) (in_count k c p)

  ran_moves : (k : ℕ) (c : Core) → Reached g k c → (at : ℕ) → ran_of v (done c (Tick at)).core ≡ pick (eqb (tick_turn c at).who v) ((ran_of v c + 1) % 2 ^ 32) (ran_of v c)
  unfolding done
  ran_moves k c p at = tick_ran c at p.shaped.records v (vm_small g d v low)

  age_law : (k : ℕ) (c : Core) → Reached g k c → (e : Event)
      → age_of v (step_of c e).core ≡ pick (begins v (moment step_of k c e)) 0 (pick (ticking (moment step_of k c e)) ((age_of v c + 1) % 2 ^ 32) (age_of v c))
  unfolding done
  age_law k c p e = step_grown (λ w. w.age) steady_age g d v low ticking (λ m h. h) k c p (age_moves k c p) e

  ran_law : (k : ℕ) (c : Core) → Reached g k c → (e : Event)
      → ran_of v (step_of c e).core ≡ pick (begins v (moment step_of k c e)) 0 (pick (ran_in v (moment step_of k c e)) ((ran_of v c + 1) % 2 ^ 32) (ran_of v c))
  unfolding done
  ran_law k c p e = step_grown (λ w. w.ran) steady_ran g d v low (ran_in v) (λ m h. rw h) k c p (ran_moves k c p) e

  pub ages : (es : List Event) → age_of v (state_of step_of g es) ≡ age_in v (history step_of g es) % 2 ^ 32
  ages es = counted step_of (Reached g) (step_at g d) (age_of v) (begins v) ticking age_law es 0 (fresh_core g) 0 (at_fresh g d) (fresh_zero (λ w. w.age) refl)
    where
      fresh_zero : (f : Vm → ℕ) → f fresh ≡ 0 → f (vm_at (fresh_core g) v) ≡ 0
      fresh_zero f h = ap f (get_or-replicate 8 v fresh fresh (vm_small g d v low)) ∙ h

  pub runs_counted : (es : List Event) → ran_of v (state_of step_of g es) ≡ ran_since v (history step_of g es) % 2 ^ 32
  runs_counted es = counted step_of (Reached g) (step_at g d) (ran_of v) (begins v) (ran_in v) ran_law es 0 (fresh_core g) 0 (at_fresh g d) (fresh_zero (λ w. w.ran) refl)
    where
      fresh_zero : (f : Vm → ℕ) → f fresh ≡ 0 → f (vm_at (fresh_core g) v) ≡ 0
      fresh_zero f h = ap f (get_or-replicate 8 v fresh fresh (vm_small g d v low)) ∙ h

-- D8: what the three fields show
tick_fields : (k : ℕ) (c : Core) (at v : ℕ) → length c.vms ≡ 8 → v < 8 → ran_in v (moment step_of k c (Tick at)) ≡ true
    → ((vm_at (step_of c (Tick at)).core v).status.since ≡ age_of v (step_of c (Tick at)).core)
    × ((vm_at (step_of c (Tick at)).core v).status.left ≡ (step_of c (Tick at)).core.clock.left)
    × ((vm_at (step_of c (Tick at)).core v).status.running ≡ ran_of v (step_of c (Tick at)).core)
unfolding done refused
tick_fields k c at v q small =
    step_case c (Tick at)
    (λ (s : Stepped). ran_in v (moment_of k c (Tick at) s) ≡ true
    → ((vm_at s.core v).status.since ≡ age_of v s.core) × ((vm_at s.core v).status.left ≡ s.core.clock.left) × ((vm_at s.core v).status.running ≡ ran_of v s.core))
    (λ n z h r. false_true (rw (ne_eqb n 0 h) at r))
    (λ s z r. tick_shows c at q v small (eqb-true (tick_turn c at).who v r))

-- T4, D4, C5
pub ours_clocks : Clocks step_of
ours_clocks g d es = record { age = λ v low. ages g d v low es; ran = λ v low. runs_counted g d v low es }

no_tick : {X : Type 0} (w r : Bool) → both (both w false) r ≡ true → X
no_tick true r h = false_true h
no_tick false r h = false_true h

-- D8, C4
pub ours_shows : Shows step_of
ours_shows g d es Start v low h = no_tick (went (next step_of g es Start)) _ h
ours_shows g d es (Tick at) v low h =
    let p = ours_at g d es in
    let f = tick_fields (ticks_of step_of g es) (state_of step_of g es) at v p.shaped.records (vm_small g d v low) h in
    let z = state_more step_of es (fresh_core g) (Tick at) in
    let m = moments_more step_of es 0 (fresh_core g) (Tick at) in
    record {
      age = f.0 ∙ ap (age_of v) (sym z) ∙ ages g d v low (es ++ (Tick at ∷ [])) ∙ ap (λ (ms : List Moment). age_in v ms % 2 ^ 32) m;
      left = f.1;
      ran = f.2 ∙ ap (ran_of v) (sym z) ∙ runs_counted g d v low (es ++ (Tick at ∷ [])) ∙ ap (λ (ms : List Moment). ran_since v ms % 2 ^ 32) m;
    }
ours_shows g d es (Stop w) v low h = no_tick (went (next step_of g es (Stop w))) _ h
ours_shows g d es (Shutdown w) v low h = no_tick (went (next step_of g es (Shutdown w))) _ h
ours_shows g d es (Restart w) v low h = no_tick (went (next step_of g es (Restart w))) _ h
ours_shows g d es (Extra w) v low h = no_tick (went (next step_of g es (Extra w))) _ h
ours_shows g d es (Call i n at) v low h = no_tick (went (next step_of g es (Call i n at))) _ h
ours_shows g d es (Write o x) v low h = no_tick (went (next step_of g es (Write o x))) _ h
ours_shows g d es (Fault i x) v low h = no_tick (went (next step_of g es (Fault i x))) _ h
ours_shows g d es (Copy q w) v low h = no_tick (went (next step_of g es (Copy q w))) _ h
