-- The figures add up: moment by moment, and so over every run and over all logs of a report.
use Prim.Native.Nat.{suc, zero, ℕ, ◌+◌, ◌<◌, ◌≤◌}
use borrow.Author.Tests.{eq-eqb, eqb-true, ne_eqb}
use lib.Dec.{eqb, ltb}
use lib.ListN.{length}
use lib.Pow.{low}
use mathlib.Core.Bool.{Bool, false, true}
use mathlib.Core.List.{List, [], ◌++◌, ◌∷◌}
use mathlib.Core.Logic.{inl, inr, ⊎_elim, ◌⊎◌}
use mathlib.Core.Path.{ap, refl, ◌∙◌, ◌≡◌}
use native.Mathlib.Decide.{dec_lt, ℕ_discrete}
use native.Mathlib.Omega.{arith}
use Rattle.basis.proofs.Laws.{both_left, both_right}
use Rattle.basis.specs.Choice.{both, pick}
use Rattle.basis.specs.Nobody.{nobody}
use Rattle.config.proofs.Legality.{legal_is}
use Rattle.config.specs.Ranges.{Given}
use Rattle.config.specs.Sizes.{is_spare}
use Rattle.config.specs.declared.Config.{Config}
use Rattle.rig_core.specs.Events.{step_of}
use Rattle.rig_core.specs.State.{fresh_core, ready_at}
use Rattle.rig_core.specs.declared.Core.{Core}
use Rattle.core_laws.proofs.Always.{Good, good_fresh, good_step}
use Rattle.core_laws.proofs.Events.{runner_facts}
use Rattle.core_laws.proofs.Facts.{ready_below}
use Rattle.event.specs.declared.Event.{Event}
use Rattle.events.specs.Log.{events_from, longest}
use Rattle.history.proofs.Counts.{num, times_cons, times_nil}
use Rattle.history.proofs.Lawful.{lawful, runner_by}
use Rattle.history.proofs.Steps.{Reached, at_fresh, each_of, step_at}
use Rattle.history.proofs.Ticking.{named_runs}
use Rattle.history.specs.History.{Each, Moment, history, moment, ticking, ticks_after, times}
use Rattle.history.specs.Moments.{naming}
use Rattle.table.specs.Place.{table_at}
use Rattle.tally.specs.Figures.{idle_tick, missed_tick, spare_tick, table_tick}
use Rattle.tally.specs.Logs.{happens, happens_in}
use Rattle.tally_laws.specs.Adds.{Adds, Unready, total}

module _ (f h : ℕ → ℕ) where
  total_add : (n : ℕ) → total (λ v. f v + h v) n ≡ total f n + total h n
  unfolding total
  total_add zero = refl
  total_add (suc n) = omega (arith, total_add n)

  total_same : (n : ℕ) → ((v : ℕ) → v < n → f v ≡ h v) → total f n ≡ total h n
  unfolding total
  total_same zero e = refl
  total_same (suc n) e = omega (arith, total_same n (λ v l. e v (omega arith)), e n (omega arith))

total_none : (n : ℕ) → total (λ v. 0) n ≡ 0
unfolding total
total_none zero = refl
total_none (suc n) = omega (arith, total_none n)

total_past : (w n : ℕ) → n ≤ w → total (λ v. num (eqb w v)) n ≡ 0
total_past w n h = total_same (λ v. num (eqb w v)) (λ v. 0) n (λ v l. ap num (ne_eqb w v (λ e. omega arith))) ∙ total_none n

-- of the numbers below n, one is w
total_one : (w n : ℕ) → w < n → total (λ v. num (eqb w v)) n ≡ 1
unfolding total
total_one w zero h = absurd (omega arith)
total_one w (suc n) h =
    elim (dec_lt w n) [
      | yes l ↦ omega (arith, total_one w n l, ap num (ne_eqb w n (λ e. omega arith)))
      | no l ↦ omega (arith, total_past w n (omega arith), ap num (eq-eqb w n (omega arith)))
    ]

-- ---- one moment

-- whether a tick runs v, by its own slot or by a spare one
abbrev served : Config → Moment → ℕ → ℕ
served g m v = num (table_tick g v m) + num (spare_tick g v m)

pub record AddsOne (g : Config) (m : Moment) : Type 0 where
  pub all : total (served g m) g.count + num (idle_tick m) ≡ num (ticking m)
  pub named : (v : ℕ) → v < g.count → num (table_tick g v m) + num (missed_tick g v m) ≡ num (naming g v m)

-- a moment whose tick runs nobody, or a VM that its slot names or to which the slot is spare
module _ (g : Config) (few : g.count ≤ 8) (m : Moment) where
  abbrev owner : ℕ
  owner = table_at g m.ticks

  abbrev runner : ℕ
  runner = m.answer.running

  abbrev Fits : Type 0
  Fits = (runner ≡ nobody) ⊎ ((runner < g.count) × ((owner ≡ runner) ⊎ (owner ≡ nobody)))

  adds_off : ticking m ≡ false → AddsOne g m
  unfolding table_tick spare_tick missed_tick idle_tick naming
  adds_off t =
      let none : total (served g m) g.count ≡ 0 = total_same (served g m) (λ v. 0) g.count (λ v l. rw t) ∙ total_none g.count in
      record { all = rw (none, t); named = λ v l. rw t }

  module _ (t : ticking m ≡ true) where
    one : num (ticking m) ≡ 1
    one = ap num t

    idle_served : runner ≡ nobody → (v : ℕ) → v < g.count → served g m v ≡ 0
    unfolding table_tick spare_tick naming
    idle_served e v l = rw (t, e, ne_eqb nobody v (λ f. omega arith)) (none (eqb owner v) (is_spare owner))
      where
        none : (a b : Bool) → num (both a false) + num (both b false) ≡ 0
        none true true = refl
        none true false = refl
        none false true = refl
        none false false = refl

    idle_named : runner ≡ nobody → (v : ℕ) → v < g.count → num (table_tick g v m) + num (missed_tick g v m) ≡ num (naming g v m)
    unfolding table_tick missed_tick naming
    idle_named e v l = rw (t, e, ne_eqb nobody v (λ f. omega arith)) (here (eqb owner v))
      where
        here : (a : Bool) → num (both a false) + num (both a true) ≡ num a
        here true = refl
        here false = refl

    idle_one : runner ≡ nobody → num (idle_tick m) ≡ 1
    unfolding idle_tick
    idle_one e = rw (t, e)

    adds_idle : runner ≡ nobody → AddsOne g m
    adds_idle e =
        let z : total (served g m) g.count ≡ 0 = total_same (served g m) (λ v. 0) g.count (idle_served e) ∙ total_none g.count in
        record { all = omega (arith, z, idle_one e, one); named = idle_named e }

    module _ (low : runner < g.count) (o : (owner ≡ runner) ⊎ (owner ≡ nobody)) where
      awake : eqb runner nobody ≡ false
      awake = ne_eqb runner nobody (λ f. omega arith)

      runs_served : (v : ℕ) → v < g.count → served g m v ≡ num (eqb runner v)
      unfolding table_tick spare_tick naming
      runs_served v l = rw t (⊎_elim by_name by_spare o)
        where
          twice : (a : Bool) → num (both a a) + 0 ≡ num a
          twice true = refl
          twice false = refl

          by_name : owner ≡ runner → num (both (eqb owner v) (eqb runner v)) + num (both (is_spare owner) (eqb runner v)) ≡ num (eqb runner v)
          by_name e = rw (e, awake) (twice (eqb runner v))

          by_spare : owner ≡ nobody → num (both (eqb owner v) (eqb runner v)) + num (both (is_spare owner) (eqb runner v)) ≡ num (eqb runner v)
          by_spare e = rw (e, ne_eqb nobody v (λ f. omega arith)) (omega arith)

      runs_named : (v : ℕ) → v < g.count → num (table_tick g v m) + num (missed_tick g v m) ≡ num (naming g v m)
      unfolding table_tick missed_tick naming
      runs_named v l =
          rw (t, awake) (⊎_elim
          (λ e. rw e (twice (eqb runner v)))
          (λ e. rw (e, ne_eqb nobody v (λ f. omega arith)) refl)
          o)
        where
          twice : (a : Bool) → num (both a a) + num (both a false) ≡ num a
          twice true = refl
          twice false = refl

      runs_none : num (idle_tick m) ≡ 0
      unfolding idle_tick
      runs_none = rw (t, awake)

      adds_runs : AddsOne g m
      adds_runs =
          let z : total (served g m) g.count ≡ 1 = total_same (served g m) (λ v. num (eqb runner v)) g.count runs_served ∙ total_one runner g.count low in
          record { all = omega (arith, z, runs_none, one); named = runs_named }

  adds_one : (ticking m ≡ true → Fits) → AddsOne g m
  adds_one f = go (ticking m) refl
    where
      go : (t : Bool) → ticking m ≡ t → AddsOne g m
      go true t = ⊎_elim (λ e. adds_idle t e) (λ e. adds_runs t e.0 e.1) (f t)
      go false t = adds_off t

-- ---- many moments

module _ (g : Config) where
  abbrev served_in : List Moment → ℕ → ℕ
  served_in ms v = times (table_tick g v) ms + times (spare_tick g v) ms

  adds_all : (ms : List Moment) → Each (AddsOne g) ms → Adds g ms
  adds_all [] h =
      let none : total (served_in []) g.count ≡ 0 = total_same (served_in []) (λ v. 0) g.count (λ v l. omega (arith, times_nil (table_tick g v), times_nil (spare_tick g v))) ∙ total_none g.count in
      record {
        all = omega (arith, none, times_nil idle_tick, times_nil ticking);
        named = λ v l. omega (arith, times_nil (table_tick g v), times_nil (missed_tick g v), times_nil (naming g v));
      }
  adds_all (m ∷ ms) h =
      let r = adds_all ms h.1 in
      let sum : total (served_in (m ∷ ms)) g.count ≡ total (served g m) g.count + total (served_in ms) g.count =
      total_same (served_in (m ∷ ms)) (λ v. served g m v + served_in ms v) g.count (λ v l. omega (arith, times_cons (table_tick g v) m ms, times_cons (spare_tick g v) m ms))
      ∙ total_add (served g m) (served_in ms) g.count
      in
      record {
        all = omega (arith, sum, h.0.all, r.all, times_cons idle_tick m ms, times_cons ticking m ms);
        named = λ v l. omega (arith, h.0.named v l, r.named v l, times_cons (table_tick g v) m ms, times_cons (missed_tick g v) m ms, times_cons (naming g v) m ms);
      }

  each_append : (P : Moment → Type 0) (ms ns : List Moment) → Each P ms → Each P ns → Each P (ms ++ ns)
  each_append P [] ns x y = y
  each_append P (m ∷ ms) ns x y = (x.0, each_append P ms ns x.1 y)

-- ---- ours

module _ (g : Config) (d : Given g) where
  pub record Stays (k : ℕ) (c : Core) : Type 0 where
    pub reached : Reached g k c
    pub good : Good c

  stays_step : (k : ℕ) (c : Core) → Stays k c → (e : Event) → Stays (ticks_after (moment step_of k c e)) (step_of c e).core
  stays_step k c s e = record { reached = step_at g d k c s.reached e; good = good_step c e s.good }

  stays_fresh : Stays 0 (fresh_core g)
  stays_fresh = record { reached = at_fresh g d; good = good_fresh g d.legal d.sized }

  few : g.count ≤ 8
  few = (legal_is g d.legal).vms.1

  fits : (k : ℕ) (c : Core) → Stays k c → (e : Event) → ticking (moment step_of k c e) ≡ true → Fits g few (moment step_of k c e)
  fits k c s e t =
      let l = lawful g d k c s.reached e in
      let q : (moment step_of k c e).answer.running ≡ runner_by c (table_at g k) = l.ran t in
      elim (ℕ_discrete (moment step_of k c e).answer.running nobody) [
        | yes i ↦ inl i
        | no i ↦
            (let f = runner_facts c s.good.shaped s.good.facts (table_at g k) (λ z. i (q ∙ z)) in
            inr (omega (arith, q, ready_below c s.good.shaped.records s.good.facts (runner_by c (table_at g k)) f.0, ap (λ (x : Config). x.count) s.reached.same), rw (← q) at f.1))
      ]

  run_one : (es : List Event) → Each (AddsOne g) (history step_of g es)
  run_one es = each_of step_of Stays stays_step (AddsOne g) (λ k c s e. adds_one g few (moment step_of k c e) (fits k c s e)) es 0 (fresh_core g) stays_fresh

  -- N16, N17: over every run of events
  pub run_adds : (es : List Event) → Adds g (history step_of g es)
  run_adds es = adds_all g (history step_of g es) (run_one es)

  logs_one : (logs : List (List ℕ)) → Each (AddsOne g) (happens_in step_of g logs)
  unfolding happens_in happens
  logs_one [] = tt
  logs_one (s ∷ logs) = each_append g (AddsOne g) (happens step_of g s) (happens_in step_of g logs) (here (ltb longest (length s))) (logs_one logs)
    where
      here : (b : Bool) → Each (AddsOne g) (pick b [] (history step_of g (events_from s 0)))
      here true = tt
      here false = run_one (events_from s 0)

  -- N14, N16, N17: and over all logs of a report
  pub report_adds : (logs : List (List ℕ)) → Adds g (happens_in step_of g logs)
  report_adds logs = adds_all g (happens_in step_of g logs) (logs_one logs)

  -- N17: what is counted as missed was missed because the VM was not ready
  pub missed_unready : (v : ℕ) → v < g.count → (es : List Event) → Each (Unready g v) (history step_of g es)
  unfolding missed_tick
  missed_unready v h es = each_of step_of Stays stays_step (Unready g v) one es 0 (fresh_core g) stays_fresh
    where
      one : (k : ℕ) (c : Core) → Stays k c → (e : Event) → Unready g v (moment step_of k c e)
      one k c s e missed = go (ready_at c v) refl
        where
          named : naming g v (moment step_of k c e) ≡ true
          named = both_left (naming g v (moment step_of k c e)) _ missed

          idle : (moment step_of k c e).answer.running ≡ nobody
          idle = eqb-true (moment step_of k c e).answer.running nobody (both_right (naming g v (moment step_of k c e)) _ missed)

          go : (b : Bool) → ready_at c v ≡ b → ready_at c v ≡ false
          go true r =
              let small : v < nobody = omega (arith, h, few) in
              let runs : (moment step_of k c e).answer.running ≡ v = eqb-true (moment step_of k c e).answer.running v (named_runs g v small (moment step_of k c e) (lawful g d k c s.reached e) named r) in
              absurd (omega (arith, idle, runs, small))
          go false r = r
