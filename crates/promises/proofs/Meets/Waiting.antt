-- Ours meets the third demand on waiting: an accepted request is served by the spare tick after those that its elders take.
use Prim.Native.Nat.{ℕ, ◌+◌, ◌<◌}
use borrow.Author.Tests.{eq-eqb}
use lib.Dec.{eqb}
use lib.ListN.{length}
use mathlib.Core.Bool.{Bool, false, true}
use mathlib.Core.List.{List, append_assoc, map, [], ◌++◌, ◌∷◌}
use mathlib.Core.Path.{ap, refl, sym, ◌∙◌, ◌≡◌}
use native.Mathlib.Omega.{arith}
use Rattle.basis.proofs.Laws.{eqb_swap}
use Rattle.basis.specs.Choice.{both, pick}
use Rattle.basis.specs.Nobody.{nobody}
use Rattle.config.specs.declared.Config.{Config}
use Rattle.rig_core.specs.Events.{step_of}
use Rattle.rig_core.specs.declared.Core.{Core}
use Rattle.event.specs.declared.Event.{Event}
use Rattle.history.proofs.Counts.{num, times_cons, times_nil}
use Rattle.history.proofs.Effects.{is_take, removes_is, spare_is}
use Rattle.history.proofs.Lawful.{Lawful, lawful}
use Rattle.history.proofs.Steps.{Reached, ours_at, step_at, vm_small}
use Rattle.history.proofs.Ticking.{asks_adds, spare_front}
use Rattle.history.specs.History.{Behaviour, Moment, history, moment, moments, next, ticks_after, times}
use Rattle.history.specs.Moments.{runs, spare}
use Rattle.history.specs.Queueing.{Add, Effect, Entry, Follows, Keep, Remove, Take, affected, effect, entries_not, followed, is_remove, marked, mine_first, plain, served_in, tail}
use Rattle.history.specs.Telling.{ends, queue_in}
use Rattle.promises.proofs.Meets.Tracing.{ours_queue}
use Rattle.promises.specs.Sharing.{Waiting}
use Rattle.queue.proofs.Meaning.{others_length}
use Rattle.queue.specs.Entries.{entries, front_of, others, rest}

-- ---- the marked queue projects onto the queue

abbrev vms_of : List Entry → List ℕ
vms_of q = map (λ (x : Entry). x.vm) q

vms_append : (q r : List Entry) → vms_of (q ++ r) ≡ vms_of q ++ vms_of r
vms_append [] r = refl
vms_append (x ∷ q) r = rw (vms_append q r)

vms_plain : (q : List ℕ) → vms_of (map plain q) ≡ q
vms_plain [] = refl
vms_plain (x ∷ q) = rw (vms_plain q)

vms_not : (w : ℕ) (q : List Entry) → vms_of (entries_not w q) ≡ others w (vms_of q)
unfolding entries_not others
vms_not w [] = refl
vms_not w (x ∷ q) = go (eqb x.vm w) (vms_not w q)
  where
    go : (b : Bool) → vms_of (entries_not w q) ≡ others w (vms_of q) → vms_of (pick b (entries_not w q) (x ∷ entries_not w q)) ≡ pick b (others w (vms_of q)) (x.vm ∷ others w (vms_of q))
    go true h = h
    go false h = rw h

vms_tail : (q : List Entry) → vms_of (tail q) ≡ rest (vms_of q)
unfolding rest
vms_tail [] = refl
vms_tail (x ∷ q) = refl

vms_followed : (f : Effect) (q : List Entry) → vms_of (followed f q) ≡ affected f (vms_of q)
vms_followed Keep q = refl
vms_followed Take q = vms_tail q
vms_followed (Add w) q = vms_append q (plain w ∷ [])
vms_followed (Remove w) q = vms_not w q

-- the request stays when the entries of another VM leave
not_mine : (w v : ℕ) (p : List ℕ) (z : List Entry) → eqb v w ≡ false
    → entries_not w (map plain p ++ (marked v ∷ z)) ≡ map plain (others w p) ++ (marked v ∷ entries_not w z)
unfolding entries_not others
not_mine w v [] z e = rw e
not_mine w v (x ∷ p) z e = go (eqb x w) (not_mine w v p z e)
  where
    go : (b : Bool) → entries_not w (map plain p ++ (marked v ∷ z)) ≡ map plain (others w p) ++ (marked v ∷ entries_not w z)
        → pick b (entries_not w (map plain p ++ (marked v ∷ z))) (plain x ∷ entries_not w (map plain p ++ (marked v ∷ z)))
        ≡ map plain (pick b (others w p) (x ∷ others w p)) ++ (marked v ∷ entries_not w z)
    go true h = h
    go false h = rw h

none_left : (p : Moment → Bool) (m : Moment) (ms : List Moment) → times p (m ∷ ms) ≡ 0 → (p m ≡ false) × (times p ms ≡ 0)
none_left p m ms h = (go (p m) (omega (arith, times_cons p m ms)), omega (arith, times_cons p m ms))
  where
    go : (b : Bool) → num b ≡ 0 → b ≡ false
    go true e = absurd (omega arith)
    go false e = refl

-- ---- one moment of waiting: v's request has the entries p ahead of it and z behind it

module _ (g : Config) (v : ℕ) (small : v < nobody) (m : Moment) (l : Lawful g m) (ms : List Moment) (stays : ends v m ≡ false)
    (ih : (p : List ℕ) (z : List Entry) → vms_of (map plain p ++ (marked v ∷ z)) ≡ entries m.after.queue → length p < times (spare g) ms → served_in g v (map plain p ++ (marked v ∷ z)) ms ≡ true) where
  on : (f : Effect) (q : List Entry) → vms_of q ≡ entries m.before.queue → entries m.after.queue ≡ affected f (entries m.before.queue) → vms_of (followed f q) ≡ entries m.after.queue
  on f q e a = vms_followed f q ∙ ap (affected f) e ∙ sym a

  take_step : (p : List ℕ) (z : List Entry) → vms_of (map plain p ++ (marked v ∷ z)) ≡ entries m.before.queue → length p < num (spare g m) + times (spare g) ms
      → effect g m ≡ Take → spare g m ≡ true → entries m.after.queue ≡ rest (entries m.before.queue)
      → pick (both (spare g m) (mine_first (map plain p ++ (marked v ∷ z)))) (runs v m) (served_in g v (followed (effect g m) (map plain p ++ (marked v ∷ z))) ms) ≡ true
  unfolding front_of
  take_step [] z e n i k a = rw k (eq-eqb m.answer.running v (spare_front g v small m l k ∙ ap front_of (sym e)))
  take_step (x ∷ p) z e n i k a = rw (k, i) (ih p z (on Take (map plain (x ∷ p) ++ (marked v ∷ z)) e a) (omega (arith, n, ap num k)))

  wait_step : (p : List ℕ) (z : List Entry) → vms_of (map plain p ++ (marked v ∷ z)) ≡ entries m.before.queue → length p < num (spare g m) + times (spare g) ms
      → served_in g v (map plain p ++ (marked v ∷ z)) (m ∷ ms) ≡ true
  unfolding served_in
  wait_step p z e n = go (effect g m) refl (spare_is g m) l.queue
    where
      q : List Entry
      q = map plain p ++ (marked v ∷ z)

      other : (w : ℕ) → effect g m ≡ Remove w → eqb v w ≡ false
      other w i = eqb_swap v w ∙ sym (ap (is_remove v) i) ∙ removes_is g m v ∙ stays

      go : (f : Effect) → effect g m ≡ f → spare g m ≡ is_take f → entries m.after.queue ≡ affected f (entries m.before.queue)
          → pick (both (spare g m) (mine_first q)) (runs v m) (served_in g v (followed (effect g m) q) ms) ≡ true
      go Keep i k a = rw (k, i) (ih p z (on Keep q e a) (omega (arith, n, ap num k)))
      go Take i k a = take_step p z e n i k a
      go (Add w) i k a =
          let j = append_assoc (map plain p) (marked v ∷ z) (plain w ∷ []) in
          rw (k, i, j) (ih p (z ++ (plain w ∷ [])) (rw j at (on (Add w) q e a)) (omega (arith, n, ap num k)))
      go (Remove w) i k a =
          let j = not_mine w v p z (other w i) in
          rw (k, i, j) (ih (others w p) (entries_not w z) (rw j at (on (Remove w) q e a)) (omega (arith, n, ap num k, others_length w p)))

-- ---- a stretch of any behaviour whose moments are lawful

module _ (g : Config) (b : Behaviour) (Inv : ℕ → Core → Type 0)
    (keeps : (k : ℕ) (c : Core) → Inv k c → (e : Event) → Inv (ticks_after (moment b k c e)) (b c e).core)
    (law : (k : ℕ) (c : Core) → Inv k c → (e : Event) → Lawful g (moment b k c e)) (v : ℕ) (small : v < nobody) where
  pub wait : (es : List Event) (k : ℕ) (c : Core) → Inv k c → (p : List ℕ) (z : List Entry) → vms_of (map plain p ++ (marked v ∷ z)) ≡ entries c.queue
      → times (ends v) (moments b k c es) ≡ 0 → length p < times (spare g) (moments b k c es) → served_in g v (map plain p ++ (marked v ∷ z)) (moments b k c es) ≡ true
  unfolding moments
  wait [] k c i p z e r n = absurd (omega (arith, n, times_nil (spare g)))
  wait (e ∷ es) k c i p z q r n =
      let m = moment b k c e in
      let ms = moments b (ticks_after m) (b c e).core es in
      let o = none_left (ends v) m ms r in
      wait_step g v small m (law k c i e) ms o.0 (λ p z f n. wait es (ticks_after m) (b c e).core (keeps k c i e) p z f o.1 n) p z q (omega (arith, n, times_cons (spare g) m ms))

  pub follows : (es : List Event) (k : ℕ) (c : Core) → Inv k c → (q : List Entry) → vms_of q ≡ entries c.queue → Follows g q (moments b k c es)
  unfolding moments
  follows [] k c i q h = tt
  follows (e ∷ es) k c i q h =
      let m = moment b k c e in
      (h, follows es (ticks_after m) (b c e).core (keeps k c i e) (followed (effect g m) q) (vms_followed (effect g m) q ∙ ap (affected (effect g m)) h ∙ sym (law k c i e).queue))

-- ---- ours

-- T5, D7
pub ours_waiting : Waiting step_of
ours_waiting g d v h es e fs a =
    let small : v < nobody = omega (arith, vm_small g d v h) in
    let i = ours_at g d es in
    let m = next step_of g es e in
    let j = step_at g d _ _ i e in
    let l = lawful g d _ _ i e in
    let q = queue_in g (history step_of g es) in
    let before : entries m.before.queue ≡ q = ours_queue g d es in
    let joins : vms_of (map plain q ++ (marked v ∷ [])) ≡ entries m.after.queue =
    vms_append (map plain q) (marked v ∷ []) ∙ ap (λ (x : List ℕ). x ++ (v ∷ [])) (vms_plain q) ∙ sym (l.queue ∙ ap (λ (f : Effect). affected f (entries m.before.queue)) (asks_adds g v m a) ∙ ap (λ (x : List ℕ). x ++ (v ∷ [])) before) in
    record {
      is_queue = follows g step_of (Reached g) (step_at g d) (lawful g d) v small fs (ticks_after m) m.after j (map plain q ++ (marked v ∷ [])) joins;
      served = wait g step_of (Reached g) (step_at g d) (lawful g d) v small fs (ticks_after m) m.after j q [] joins;
    }
