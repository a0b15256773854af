-- Ours meets the third demand on slices: a VM runs in the ticks named for it, and else only in spare ticks that took its entries.
use Prim.Native.Nat.{ℕ, ◌+◌, ◌<◌, ◌≤◌}
use borrow.Author.Tests.{eq-eqb}
use mathlib.Core.Bool.{Bool, false, true}
use mathlib.Core.List.{List, [], ◌∷◌}
use mathlib.Core.Path.{refl, sym, ◌∙◌, ◌≡◌}
use native.Mathlib.Omega.{arith}
use Rattle.basis.proofs.Laws.{false_true}
use Rattle.basis.specs.Choice.{both}
use Rattle.basis.specs.Nobody.{nobody}
use Rattle.config.specs.Ranges.{Given}
use Rattle.config.specs.declared.Config.{Config}
use Rattle.rig_core.specs.Events.{step_of}
use Rattle.rig_core.specs.State.{ready_at, vm_at}
use Rattle.rig_core.specs.declared.Core.{Core}
use Rattle.event.specs.declared.Event.{Event}
use Rattle.history.proofs.Counts.{num, times_cons, times_nil}
use Rattle.history.proofs.Lawful.{Lawful, lawful}
use Rattle.history.proofs.More.{each_told}
use Rattle.history.proofs.Steps.{Reached, ours_at, step_at, vm_small}
use Rattle.history.proofs.Ticking.{else_spare, handed_front, named_runs, tick_of}
use Rattle.history.specs.History.{Behaviour, Moment, moment, moments, state_of, stretch, ticking, ticks_after, ticks_of, times}
use Rattle.history.specs.Moments.{asks, handed, naming, ran_in, runs, spare}
use Rattle.history.specs.Telling.{queue_after, standing_after}
use Rattle.promises.proofs.Meets.Accounts.{balance}
use Rattle.promises.proofs.Meets.Tracing.{ours_queue, ours_standing, step_queue, step_standing}
use Rattle.promises.specs.Sharing.{EachQueued, EachStanding, Slices}
use Rattle.queue.specs.Entries.{entries, entries_of, front_of}

-- ---- one moment

module _ (g : Config) (v : ℕ) (small : v < nobody) (m : Moment) (l : Lawful g m) where
  named_off : ticking m ≡ false → (w : ℕ) → naming g w m ≡ false
  unfolding naming
  named_off t w = rw t

  -- the ticks that run v, one by one
  pub exact_law : (ticking m ≡ true → ready_at m.before v ≡ true) → num (ran_in v m) ≡ num (naming g v m) + num (handed g v m)
  exact_law ready = by_tick (ticking m) refl
    where
      not_spare : naming g v m ≡ true → spare g m ≡ false
      not_spare h = go (spare g m) refl
        where
          go : (b : Bool) → spare g m ≡ b → b ≡ false
          go true e = absurd (omega (arith, (tick_of g v small m l v h).1, (tick_of g v small m l nobody e).1))
          go false e = refl

      by_named : ticking m ≡ true → (b r : Bool) → naming g v m ≡ b → runs v m ≡ r → num r ≡ num b + num (both (spare g m) r)
      by_named t true true h e = rw (not_spare h)
      by_named t true false h e = false_true (sym e ∙ named_runs g v small m l h (ready t))
      by_named t false true h e = rw (else_spare g v small m l t e h)
      by_named t false false h e = off (spare g m)
        where
          off : (b : Bool) → 0 ≡ 0 + num (both b false)
          off true = refl
          off false = refl

      by_tick : (b : Bool) → ticking m ≡ b → num (ran_in v m) ≡ num (naming g v m) + num (handed g v m)
      by_tick true t = rw t (by_named t (naming g v m) (runs v m) refl refl)
      by_tick false t = rw (t, named_off t v, named_off t nobody)

-- ---- a stretch of any behaviour whose moments are lawful, and whose standings go by them

module _ (g : Config) (b : Behaviour) (Inv : ℕ → Core → Type 0)
    (keeps : (k : ℕ) (c : Core) → Inv k c → (e : Event) → Inv (ticks_after (moment b k c e)) (b c e).core)
    (law : (k : ℕ) (c : Core) → Inv k c → (e : Event) → Lawful g (moment b k c e)) (v : ℕ) (small : v < nobody) where
  -- what was handed to v stood before or was asked for
  pub bounded : (es : List Event) (k : ℕ) (c : Core) → Inv k c
      → times (handed g v) (moments b k c es) ≤ entries_of v (entries c.queue) + times (asks v) (moments b k c es)
  bounded es k c i = omega (arith, balance g b Inv keeps law v small es k c i)

  module _ (stands : (k : ℕ) (c : Core) → Inv k c → (e : Event) → (vm_at (b c e).core v).standing ≡ standing_after v (moment b k c e) (vm_at c v).standing) where
    pub adds : (es : List Event) (k : ℕ) (c : Core) → Inv k c → EachStanding v (λ t m. ticking m ≡ true → t ≡ 1) (vm_at c v).standing (moments b k c es)
        → times (ran_in v) (moments b k c es) ≡ times (naming g v) (moments b k c es) + times (handed g v) (moments b k c es)
    unfolding moments
    adds [] k c i r = omega (arith, times_nil (handed g v), times_nil (naming g v), times_nil (ran_in v))
    adds (e ∷ es) k c i r =
        let m = moment b k c e in
        let ms = moments b (ticks_after m) (b c e).core es in
        let h = adds es (ticks_after m) (b c e).core (keeps k c i e) (rw (stands k c i e) r.1) in
        let n = exact_law g v small m (law k c i e) (λ t. eq-eqb (vm_at c v).standing 1 (r.0 t)) in
        omega (arith, h, n, times_cons (ran_in v) m ms, times_cons (naming g v) m ms, times_cons (handed g v) m ms)

-- ---- ours

module _ (g : Config) (d : Given g) (v : ℕ) (low : v < g.count) (es fs : List Event) where
  small : v < nobody
  small = omega (arith, vm_small g d v low)

  named : EachStanding v (λ t m. naming g v m ≡ true → t ≡ 1 → runs v m ≡ true) (vm_at (state_of step_of g es) v).standing (stretch step_of g es fs)
  named =
      each_told step_of (Reached g) (step_at g d) ℕ (λ c. (vm_at c v).standing) (standing_after v) (λ k c p e. step_standing g d k c p v low e) _
      (λ k c p e h t. named_runs g v small (moment step_of k c e) (lawful g d k c p e) h (eq-eqb (vm_at c v).standing 1 t)) fs (ticks_of step_of g es) (state_of step_of g es) (ours_at g d es)

  handed_on : EachQueued g (λ q m. ticking m ≡ true → runs v m ≡ true → naming g v m ≡ false → (spare g m ≡ true) × (front_of q ≡ v)) (entries (state_of step_of g es).queue) (stretch step_of g es fs)
  handed_on =
      each_told step_of (Reached g) (step_at g d) (List ℕ) (λ c. entries c.queue) (queue_after g) (λ k c p e. step_queue g d k c p e) _
      (λ k c p e t r n. (let m = moment step_of k c e in let l = lawful g d k c p e in let s = else_spare g v small m l t r n in (s, handed_front g v small m l s r)))
      fs (ticks_of step_of g es) (state_of step_of g es) (ours_at g d es)

-- D6, D7, D10
pub ours_slices : Slices step_of
ours_slices g d v low es fs =
    let t = ours_standing g d es v low in
    let q = ours_queue g d es in
    let p = ours_at g d es in
    let k = ticks_of step_of g es in
    let c = state_of step_of g es in
    let few = small g d v low es fs in
    record {
      runs_named = rw t at (named g d v low es fs);
      else_handed = rw q at (handed_on g d v low es fs);
      exactly = λ r. adds g step_of (Reached g) (step_at g d) (lawful g d) v few (λ k c p e. step_standing g d k c p v low e) fs k c p (rw t r);
      at_most = rw q at (bounded g step_of (Reached g) (step_at g d) (lawful g d) v few fs k c p);
    }
