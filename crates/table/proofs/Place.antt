-- The table tick by tick, and how a tick moves the clock along it (D5, D10).
use Prim.Native.Nat.{suc, zero, ℕ, ◌%◌, ◌+◌, ◌-◌, ◌<◌, ◌≤◌}
use borrow.Author.Tests.{ltb-false, ltb-true}
use lib.Dec.{eqb, ltb}
use lib.ListN.{get_or-append, get_or, get_or-replicate, length, length-append, length-replicate, replicate}
use lib.Seq.{get_or-append-add}
use mathlib.Core.Bool.{Bool, false, true}
use mathlib.Core.Path.{ap, refl, sym, ◌∙◌, ◌≡◌}
use native.Mathlib.Decide.{dec_lt}
use native.Mathlib.Nat.{mod-add-mod, mod-eq_of_lt, mod_self}
use native.Mathlib.Numerals.{add-one}
use native.Mathlib.Omega.{arith}
use Rattle.basis.proofs.Laws.{pick_case}
use Rattle.basis.specs.Choice.{pick}
use Rattle.basis.specs.Count.{joined}
use Rattle.basis.specs.Nobody.{nobody}
use Rattle.config.specs.Sizes.{Legal, duration_at, owner_at}
use Rattle.config.specs.declared.Config.{Config}
use Rattle.table.proofs.Moves.{SamePlace, duration_some}
use Rattle.table.specs.Place.{Placed, Stands, sum_of, table_of, table_to}
use Rattle.table.specs.Position.{enter_slot, has_ticked, next_clock, one_less}
use Rattle.table.specs.declared.Clock.{Clock}

-- one tick more, modulo the sum
mod_up : (n t : ℕ) → n % t + 1 < t → (n + 1) % t ≡ n % t + 1
mod_up n t h = sym (mod-add-mod n t 1) ∙ mod-eq_of_lt h

mod_wrap : (n t : ℕ) → n % t + 1 ≡ t → (n + 1) % t ≡ 0
mod_wrap n t e = sym (mod-add-mod n t 1) ∙ ap (λ (x : ℕ). x % t) e ∙ mod_self t

module _ (g : Config) where
  pub to_more : (i : ℕ) → length (table_to g (suc i)) ≡ length (table_to g i) + duration_at g i
  unfolding table_to joined
  to_more i = simp (length-append, length-replicate)

  pub to_grows : (n i : ℕ) → i ≤ n → length (table_to g i) ≤ length (table_to g n)
  to_grows zero i h = let e : i ≡ 0 = omega arith in rw e (omega arith)
  to_grows (suc n) i h =
      elim (dec_lt i (suc n)) [
        | yes l ↦ omega (arith, to_grows n i (omega arith), to_more n)
        | no l ↦ (let e : i ≡ suc n = omega arith in rw e (omega arith))
      ]

  -- tick j of slot i
  pub at_slot : (n i j : ℕ) → i < n → j < duration_at g i → get_or (table_to g n) (length (table_to g i) + j) nobody ≡ owner_at g i
  unfolding table_to joined
  at_slot zero i j h l = absurd (omega arith)
  at_slot (suc n) i j h l =
      elim (dec_lt i n) [
        | yes k ↦
            get_or-append (table_to g n) _ nobody (length (table_to g i) + j) (omega (arith, to_more i, to_grows n (suc i) (omega arith))) ∙ at_slot n i j k l
        | no k ↦
            (let e : i ≡ n = omega arith in
            rw e (get_or-append-add (table_to g n) (replicate (duration_at g n) (owner_at g n)) j nobody ∙ get_or-replicate (duration_at g n) j (owner_at g n) nobody (rw e at l)))
      ]

module _ (g : Config) (l : Legal g) where
  placed_at : (k : ℕ) (h : Clock) → has_ticked h ≡ true → h.slot < g.slots → 1 ≤ h.left → h.left ≤ duration_at g h.slot
      → length (table_to g h.slot) + (duration_at g h.slot - h.left) ≡ k % sum_of g → Placed g k h
  placed_at k h t s a b e =
      record {
        ticked = t;
        slot = s;
        left = (a, b);
        place = e;
        owner = sym (at_slot g g.slots h.slot (duration_at g h.slot - h.left) s (omega arith)) ∙ ap (λ (i : ℕ). get_or (table_of g) i nobody) e;
      }

  -- the table has a tick
  sum_some : 0 < sum_of g
  sum_some = omega (arith, duration_some g l 0 (omega (arith, l.table.0)), to_more g 0, to_grows g g.slots 1 (omega (arith, l.table.0)))

  to_none : length (table_to g 0) ≡ 0
  unfolding table_to joined
  to_none = refl

  entered : (k i : ℕ) (h : Clock) → i < g.slots → length (table_to g i) ≡ k % sum_of g → Placed g k (enter_slot g.durations h i)
  entered k i h s e =
      placed_at k (enter_slot g.durations h i) refl s (duration_some g l i s) (omega arith) (omega (arith, e))

  -- D5, D10: the first tick enters the table, at its tick 0
  pub placed_first : (h : Clock) → has_ticked h ≡ false → Placed g 0 (next_clock g.slots g.durations h)
  unfolding next_clock
  placed_first h t = rw t (entered 0 0 h (omega (arith, l.table.0)) (to_none ∙ sym (mod-eq_of_lt sum_some)))

  -- D5, D10: each later tick goes on by one
  pub placed_next : (k : ℕ) (h : Clock) → Placed g k h → Placed g (suc k) (next_clock g.slots g.durations h)
  unfolding next_clock
  placed_next k h p = rw p.ticked (pick_case (Placed g (suc k)) (ltb 1 h.left) _ _ less (λ t. over t (ltb (h.slot + 1) g.slots) refl))
    where
      more : length (table_to g (suc h.slot)) ≡ length (table_to g h.slot) + duration_at g h.slot
      more = to_more g h.slot

      fits : length (table_to g (suc h.slot)) ≤ sum_of g
      fits = to_grows g g.slots (suc h.slot) (omega (arith, p.slot))

      less : ltb 1 h.left ≡ true → Placed g (suc k) (one_less h)
      less t =
          let a : 1 < h.left = ltb-true 1 h.left t in
          let low : k % sum_of g + 1 < sum_of g = omega (arith, a, p.place, p.left.1, more, fits) in
          let up : suc k % sum_of g ≡ k % sum_of g + 1 = ap (λ (x : ℕ). x % sum_of g) (sym (add-one k)) ∙ mod_up k (sum_of g) low in
          placed_at (suc k) (one_less h) refl p.slot (omega (arith, a)) (omega (arith, p.left.1)) (omega (arith, a, p.place, p.left.1, up))

      last : ltb 1 h.left ≡ false → k % sum_of g + 1 ≡ length (table_to g (suc h.slot))
      last t = omega (arith, ltb-false 1 h.left t, p.left.0, p.left.1, p.place, more)

      over : ltb 1 h.left ≡ false → (b : Bool) → ltb (h.slot + 1) g.slots ≡ b → Placed g (suc k) (enter_slot g.durations h (pick b (h.slot + 1) 0))
      over t true i =
          let s : h.slot + 1 < g.slots = ltb-true (h.slot + 1) g.slots i in
          let j : suc h.slot ≡ h.slot + 1 = omega arith in
          let far = to_grows g g.slots (suc (suc h.slot)) (omega (arith, s)) in
          let room = to_more g (suc h.slot) in
          let one : 1 ≤ duration_at g (suc h.slot) = duration_some g l (suc h.slot) (omega (arith, s)) in
          let low : k % sum_of g + 1 < sum_of g = omega (arith, last t, far, room, one) in
          let up : suc k % sum_of g ≡ k % sum_of g + 1 = ap (λ (x : ℕ). x % sum_of g) (sym (add-one k)) ∙ mod_up k (sum_of g) low in
          entered (suc k) (h.slot + 1) h s (ap (λ (x : ℕ). length (table_to g x)) (sym j) ∙ sym (last t) ∙ sym up)
      over t false i =
          let s : suc h.slot ≡ g.slots = omega (arith, ltb-false (h.slot + 1) g.slots i, p.slot) in
          let all : k % sum_of g + 1 ≡ sum_of g = last t ∙ ap (λ (x : ℕ). length (table_to g x)) s in
          let up : suc k % sum_of g ≡ 0 = ap (λ (x : ℕ). x % sum_of g) (sym (add-one k)) ∙ mod_wrap k (sum_of g) all in
          entered (suc k) 0 h (omega (arith, l.table.0)) (to_none ∙ sym up)

  -- so the tick after k accepted ones stands at table tick k
  pub placed_then : (k : ℕ) (h : Clock) → Stands g k h → Placed g k (next_clock g.slots g.durations h)
  placed_then zero h p = placed_first h p
  placed_then (suc k) h p = placed_next k h p

-- what does not move the table
pub placed_same : (g : Config) (k : ℕ) (h j : Clock) → SamePlace h j → Placed g k j → Placed g k h
placed_same g k h j s p =
    record {
      ticked = ap (λ (x : ℕ). eqb x 1) s.ticked ∙ p.ticked;
      slot = omega (arith, s.slot, p.slot);
      left = (omega (arith, s.left, p.left.0), omega (arith, s.left, p.left.1, ap (λ (x : ℕ). duration_at g x) s.slot));
      place = omega (arith, p.place, s.left, ap (λ (x : ℕ). duration_at g x) s.slot, ap (λ (x : ℕ). length (table_to g x)) s.slot);
      owner = ap (λ (x : ℕ). owner_at g x) s.slot ∙ p.owner;
    }

pub stands_same : (g : Config) (k : ℕ) (h j : Clock) → SamePlace h j → Stands g k j → Stands g k h
stands_same g zero h j s p = ap (λ (x : ℕ). eqb x 1) s.ticked ∙ p
stands_same g (suc k) h j s p = placed_same g k h j s p
