-- Ours meets the third demand on what became of the requests: what one moment does to a VM's entries, and their balance over a run.
use Prim.Native.Nat.{ℕ, ◌+◌, ◌<◌}
use borrow.Author.Tests.{eqb-true}
use lib.Dec.{eqb}
use mathlib.Core.Bool.{Bool, false, true}
use mathlib.Core.List.{List, [], ◌∷◌}
use mathlib.Core.Path.{ap, refl, ◌≡◌}
use native.Mathlib.Omega.{arith}
use Rattle.basis.specs.Choice.{pick}
use Rattle.basis.specs.Nobody.{nobody}
use Rattle.config.specs.declared.Config.{Config}
use Rattle.rig_core.specs.Events.{step_of}
use Rattle.rig_core.specs.State.{fresh_core}
use Rattle.rig_core.specs.declared.Core.{Core}
use Rattle.event.specs.declared.Event.{Event}
use Rattle.history.proofs.Counts.{num, times_cons, times_nil}
use Rattle.history.proofs.Effects.{asks_is, is_add, is_take, spare_is}
use Rattle.history.proofs.Lawful.{Lawful, lawful}
use Rattle.history.proofs.Steps.{Reached, at_fresh, step_at, vm_small}
use Rattle.history.proofs.Ticking.{spare_front}
use Rattle.history.specs.History.{Behaviour, Moment, moment, moments, state_after, ticks_after, times}
use Rattle.history.specs.Moments.{asks, handed, spare}
use Rattle.history.specs.Queueing.{Add, Effect, Keep, Remove, Take, affected, effect, removed_from, removed_in, removes}
use Rattle.promises.proofs.Meets.Tracing.{ours_queue}
use Rattle.promises.specs.Sharing.{Accounts}
use Rattle.queue.proofs.Counted.{entries_add, entries_gone, entries_rest, entries_stay}
use Rattle.queue.specs.Entries.{entries, entries_of, front_of, others}

-- ---- one moment

module _ (g : Config) (v : ℕ) (small : v < nobody) (m : Moment) (l : Lawful g m) where
  -- the entries of v before, and its request, are what was handed to it, what was removed and what stands after
  balance_law : entries_of v (entries m.before.queue) + num (asks v m)
      ≡ num (handed g v m) + (pick (removes g v m) m.answer.removed 0 + entries_of v (entries m.after.queue))
  balance_law = go (effect g m) refl (spare_is g m) l.queue l.removed (asks_is g m v)
    where
      q₀ : List ℕ
      q₀ = entries m.before.queue

      idle : spare g m ≡ false → num (handed g v m) ≡ 0
      idle h = rw h

      taken : spare g m ≡ true → num (handed g v m) ≡ num (eqb (front_of q₀) v)
      taken h = rw (h, spare_front g v small m l h)

      removal : (w : ℕ) (b : Bool) → eqb w v ≡ b → m.answer.removed ≡ entries_of w q₀ → entries_of v q₀ ≡ pick b m.answer.removed 0 + entries_of v (others w q₀)
      removal w true e r = let i = eqb-true w v e in rw (r, i, entries_gone v q₀) (omega arith)
      removal w false e r = omega (arith, entries_stay v w q₀ e)

      go : (f : Effect) → effect g m ≡ f → spare g m ≡ is_take f → entries m.after.queue ≡ affected f q₀ → m.answer.removed ≡ removed_from f q₀ → asks v m ≡ is_add v f
          → entries_of v q₀ + num (asks v m) ≡ num (handed g v m) + (pick (removes g v m) m.answer.removed 0 + entries_of v (entries m.after.queue))
      go Keep i k e r a = rw (i, a, idle k, e) (omega arith)
      go Take i k e r a = rw (i, a, taken k, e) (omega (arith, entries_rest v q₀ small))
      go (Add w) i k e r a = rw (i, a, idle k, e) (omega (arith, entries_add v w q₀))
      go (Remove w) i k e r a = rw (i, a, idle k, e) (omega (arith, removal w (eqb w v) refl r))

removed_cons : (g : Config) (v : ℕ) (m : Moment) (ms : List Moment) → removed_in g v (m ∷ ms) ≡ pick (removes g v m) m.answer.removed 0 + removed_in g v ms
unfolding removed_in
removed_cons g v m ms = refl

removed_nil : (g : Config) (v : ℕ) → removed_in g v [] ≡ 0
unfolding removed_in
removed_nil g v = refl

-- ---- a stretch of any behaviour whose moments are lawful

module _ (g : Config) (b : Behaviour) (Inv : ℕ → Core → Type 0)
    (keeps : (k : ℕ) (c : Core) → Inv k c → (e : Event) → Inv (ticks_after (moment b k c e)) (b c e).core)
    (law : (k : ℕ) (c : Core) → Inv k c → (e : Event) → Lawful g (moment b k c e)) (v : ℕ) (small : v < nobody) where
  pub balance : (es : List Event) (k : ℕ) (c : Core) → Inv k c
      → entries_of v (entries c.queue) + times (asks v) (moments b k c es)
      ≡ times (handed g v) (moments b k c es) + (removed_in g v (moments b k c es) + entries_of v (entries (state_after b c es).queue))
  unfolding moments state_after
  balance [] k c i = omega (arith, times_nil (asks v), times_nil (handed g v), removed_nil g v)
  balance (e ∷ es) k c i =
      let m = moment b k c e in
      let ms = moments b (ticks_after m) (b c e).core es in
      let h = balance es (ticks_after m) (b c e).core (keeps k c i e) in
      let n = balance_law g v small m (law k c i e) in
      omega (arith, h, n, times_cons (handed g v) m ms, times_cons (asks v) m ms, removed_cons g v m ms)

-- ---- ours

none_fresh : (g : Config) (v : ℕ) → entries_of v (entries (fresh_core g).queue) ≡ 0
unfolding entries_of
none_fresh g v = refl

-- A8, C9
pub ours_accounts : Accounts step_of
ours_accounts g d v h es =
    let small : v < nobody = omega (arith, vm_small g d v h) in
    omega (arith, none_fresh g v, balance g step_of (Reached g) (step_at g d) (lawful g d) v small es 0 (fresh_core g) (at_fresh g d), ap (entries_of v) (ours_queue g d es))
