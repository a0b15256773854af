-- What the program prints is the report of its image and its logs; and no sum wraps, for sixteen logs of the largest size.
use Prim.Native.Nat.{suc, zero, ℕ, ◌%◌, ◌*◌, ◌+◌, ◌<◌, ◌^◌, ◌≤◌}
use borrow.Author.Tests.{eq-eqb, eqb-true, ltb-false}
use lib.Dec.{eqb, ltb}
use lib.ListN.{get_or, get_or-replicate, length, length-append, length-replicate, replicate}
use mathlib.Core.Bool.{Bool, false, true}
use mathlib.Core.List.{List, [], ◌++◌, ◌∷◌}
use mathlib.Core.Path.{ap, refl, sym, ◌∙◌, ◌≡◌}
use native.Mathlib.Nat.{mod-eq_of_lt}
use native.Mathlib.Omega.{arith}
use Rattle.basis.specs.Choice.{pick}
use Rattle.basis.specs.Count.{joined}
use Rattle.basis.specs.Numbers.{Bytes}
use Rattle.config.proofs.Legality.{legal_is}
use Rattle.config.specs.declared.Config.{Config}
use Rattle.rig_core.specs.Events.{step_of}
use Rattle.rig_core.specs.State.{fresh_core}
use Rattle.rig_core.specs.declared.Core.{Core}
use Rattle.event.specs.declared.Event.{Event}
use Rattle.events.proofs.Log.{events_few}
use Rattle.events.specs.Log.{events_from, longest}
use Rattle.history.proofs.Counts.{num, times_cons, times_nil}
use Rattle.history.specs.History.{Behaviour, Moment, history, moment, moments, ticking, ticks_after, times}
use Rattle.image_laws.proofs.Theorems.{given}
use Rattle.image_reader.specs.Reader.{read_image}
use Rattle.lines.specs.Text.{refused_text}
use Rattle.tally.proofs.Growing.{with_none}
use Rattle.tally.specs.Counting.{OfLogs, grown, grown_from, no_tally, with_all, with_log, with_logs}
use Rattle.tally.specs.Figures.{idle_tick, missed_tick, spare_tick, table_tick}
use Rattle.tally.specs.Logs.{happens, happens_in}
use Rattle.tally.specs.declared.Tally.{Tally}
use Rattle.tally_text.specs.Report.{figures_text, report_text, row_text}
use Rattle.tally_text.specs.Shown.{rows_text, shown_text, tally_text}

-- ---- how much can happen

times_most : (p : Moment → Bool) (ms : List Moment) → times p ms ≤ length ms
times_most p [] = omega (arith, times_nil p)
times_most p (m ∷ ms) = omega (arith, times_cons p m ms, times_most p ms, most (p m))
  where
    most : (b : Bool) → num b ≤ 1
    most true = omega arith
    most false = omega arith

times_append : (p : Moment → Bool) (ms ns : List Moment) → times p (ms ++ ns) ≡ times p ms + times p ns
times_append p [] ns = omega (arith, times_nil p)
times_append p (m ∷ ms) ns = omega (arith, times_cons p m ms, times_cons p m (ms ++ ns), times_append p ms ns)

moments_length : (b : Behaviour) (k : ℕ) (c : Core) (es : List Event) → length (moments b k c es) ≡ length es
unfolding moments
moments_length b k c [] = refl
moments_length b k c (e ∷ es) = ap suc (moments_length b (ticks_after (moment b k c e)) (b c e).core es)

module _ (b : Behaviour) (g : Config) where
  -- a record has a byte at least
  happens_most : (s : List ℕ) → length (happens b g s) ≤ longest
  unfolding happens
  happens_most s = go (ltb longest (length s)) refl
    where
      go : (t : Bool) → ltb longest (length s) ≡ t → length (pick t [] (history b g (events_from s 0))) ≤ longest
      go true q = omega arith
      go false q = omega (arith, moments_length b 0 (fresh_core g) (events_from s 0), events_few s, ltb-false longest (length s) q)

  happens_all : (logs : List (List ℕ)) → length (happens_in b g logs) ≤ length logs * longest
  unfolding happens_in
  happens_all [] = omega arith
  happens_all (s ∷ logs) = omega (arith, length-append (happens b g s) (happens_in b g logs), happens_most s, happens_all logs)

  -- so whatever is counted over sixteen logs is far below 2^32
  pub never_wraps : (p : Moment → Bool) (logs : List (List ℕ)) → length logs ≤ 16 → times p (happens_in b g logs) ≤ 16 * longest
  never_wraps p logs h = omega (arith, times_most p (happens_in b g logs), happens_all logs)

-- ---- numbers that grow

grown_small : (n x : ℕ) → x + n < 2 ^ 32 → grown n x ≡ x + n
unfolding grown
grown_small zero x h = omega arith
grown_small (suc n) x h = let e : (x + 1) % 2 ^ 32 ≡ x + 1 = mod-eq_of_lt (omega arith) in rw e (grown_small n (x + 1) (omega arith) ∙ omega arith)

-- from zero
grown_zero : (n : ℕ) → n < 2 ^ 32 → grown n 0 ≡ n
grown_zero n h = grown_small n 0 (omega arith) ∙ omega arith

grown_twice : (m n x : ℕ) → grown n (grown m x) ≡ grown (m + n) x
unfolding grown
grown_twice zero n x = let e : 0 + n ≡ n = omega arith in rw e
grown_twice (suc m) n x = let e : suc m + n ≡ suc (m + n) = omega arith in rw e (grown_twice m n ((x + 1) % 2 ^ 32))

grown_both : (p : Moment → Bool) (ms ns : List Moment) (x : ℕ) → grown (times p ns) (grown (times p ms) x) ≡ grown (times p (ms ++ ns)) x
grown_both p ms ns x = rw (times_append p ms ns) (grown_twice (times p ms) (times p ns) x)

module _ (p : ℕ → Moment → Bool) where
  from_both : (ms ns : List Moment) (v : ℕ) (xs : List ℕ) → grown_from p ns v (grown_from p ms v xs) ≡ grown_from p (ms ++ ns) v xs
  unfolding grown_from
  from_both ms ns v [] = refl
  from_both ms ns v (x ∷ xs) = rw (grown_both (p v) ms ns x, from_both ms ns (suc v) xs)

  from_at : (ms : List Moment) (xs : List ℕ) (v i : ℕ) → i < length xs → get_or (grown_from p ms v xs) i 0 ≡ grown (times (p (v + i)) ms) (get_or xs i 0)
  unfolding grown_from
  from_at ms [] v i h = absurd (omega arith)
  from_at ms (x ∷ xs) v zero h = let e : v + 0 ≡ v = omega arith in rw e
  from_at ms (x ∷ xs) v (suc i) h = let e : v + suc i ≡ suc v + i = omega arith in rw e (from_at ms xs (suc v) i (omega arith))

  -- from zeros
  from_none : (ms : List Moment) (v : ℕ) → v < 8 → times (p v) ms < 2 ^ 32 → get_or (grown_from p ms 0 (replicate 8 0)) v 0 ≡ times (p v) ms
  from_none ms v l h =
      let e : 0 + v ≡ v = omega arith in
      from_at ms (replicate 8 0) 0 v (omega (arith, length-replicate {A = ℕ} 8 0))
      ∙ rw (e, get_or-replicate {A = ℕ} 8 v 0 0 l) (grown_zero (times (p v) ms) h)

-- ---- the figures of all logs

with_both : (g : Config) (ms ns : List Moment) (t : Tally) → with_all g ns (with_all g ms t) ≡ with_all g (ms ++ ns) t
unfolding with_all
with_both g ms ns t =
    rw (
      from_both (table_tick g) ms ns 0 t.table,
      from_both (spare_tick g) ms ns 0 t.spare,
      from_both (missed_tick g) ms ns 0 t.missed,
      grown_both idle_tick ms ns t.idle,
      grown_both ticking ms ns t.ticks,
    )

logs_all : (image : List ℕ) → (read_image image).fault ≡ 0 → (logs : List (List ℕ)) (t : Tally) → with_logs image logs t ≡ with_all (read_image image).config (happens_in step_of (read_image image).config logs) t
unfolding with_logs with_log happens_in
logs_all image e [] t = sym (with_none (read_image image).config t)
logs_all image e (s ∷ logs) t =
    let g = (read_image image).config in
    logs_all image e logs (with_log image s t)
    ∙ rw (eq-eqb (read_image image).fault 0 e) (with_both g (happens step_of g s) (happens_in step_of g logs) t)

-- ---- the text

joined_same : (f h : ℕ → List ℕ) (n : ℕ) → ((k : ℕ) → k < n → f k ≡ h k) → joined f n ≡ joined h n
unfolding joined
joined_same f h zero e = refl
joined_same f h (suc n) e = rw (joined_same f h n (λ k l. e k (omega arith)), e n (omega arith))

figures_text_lem : (g : Config) (ms : List Moment) → g.count ≤ 8 → ((p : Moment → Bool) → times p ms < 2 ^ 32) → tally_text g.count (with_all g ms no_tally) ≡ figures_text g ms
unfolding tally_text figures_text rows_text with_all
figures_text_lem g ms few small =
    let rows = joined_same
    (λ v. row_text v (get_or (grown_from (table_tick g) ms 0 (replicate 8 0)) v 0) (get_or (grown_from (spare_tick g) ms 0 (replicate 8 0)) v 0) (get_or (grown_from (missed_tick g) ms 0 (replicate 8 0)) v 0))
    (λ v. row_text v (times (table_tick g v) ms) (times (spare_tick g v) ms) (times (missed_tick g v) ms))
    g.count
    (λ v l. rw (
      from_none (table_tick g) ms v (omega arith) (small (table_tick g v)),
      from_none (spare_tick g) ms v (omega arith) (small (spare_tick g v)),
      from_none (missed_tick g) ms v (omega arith) (small (missed_tick g v)),
    ))
    in
    rw (rows, grown_zero (times idle_tick ms) (small idle_tick), grown_zero (times ticking ms) (small ticking))

-- N13 to N21: one log after the other counted, and the figures shown, is the report
pub report_prints : (image : List ℕ) → Bytes image → (logs : List (List ℕ)) → length logs ≤ 16 → shown_text image (with_logs image logs no_tally) ≡ report_text image logs
unfolding shown_text report_text
report_prints image y logs h = go (eqb (read_image image).fault 0) refl
  where
    go : (b : Bool) → eqb (read_image image).fault 0 ≡ b
        → pick b (tally_text (read_image image).config.count (with_logs image logs no_tally)) (refused_text (read_image image).fault (read_image image).offset)
        ≡ pick b (figures_text (read_image image).config (happens_in step_of (read_image image).config logs)) (refused_text (read_image image).fault (read_image image).offset)
    go true q =
        let e = eqb-true (read_image image).fault 0 q in
        let d = given image y e in
        rw (logs_all image e logs no_tally)
        (figures_text_lem (read_image image).config (happens_in step_of (read_image image).config logs) (legal_is (read_image image).config d.legal).vms.1
        (λ p. omega (arith, never_wraps step_of (read_image image).config p logs h)))
    go false q = refl

-- N13, N18, N21: whatever the logs were, what is then shown is their report
pub shows_report : (image : List ℕ) → Bytes image → (t : Tally) (o : OfLogs image 16 t) → shown_text image t ≡ report_text image o.logs
shows_report image y t o = ap (shown_text image) o.are ∙ report_prints image y o.logs o.few
