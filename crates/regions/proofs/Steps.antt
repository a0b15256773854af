-- Regions one after the other: a list is lawful exactly where each region may follow those before it.
use Prim.Native.Nat.{suc, zero, ℕ, ◌<◌, ◌≤◌}
use borrow.Author.Tests.{eq-eqb, eqb-true, le-leb}
use lib.Dec.{eqb}
use lib.ListN.{get_or}
use mathlib.Core.Bool.{Bool, false, true}
use mathlib.Core.List.{List}
use mathlib.Core.Logic.{inl, inr, ◌⊎◌, ⊎_elim}
use mathlib.Core.Path.{refl, sym, ◌≡◌}
use native.Mathlib.Decide.{dec_lt}
use native.Mathlib.Omega.{arith}
use Rattle.basis.proofs.Laws.{count_most, every_of}
use Rattle.basis.specs.Choice.{pick}
use Rattle.basis.specs.Count.{how_many}
use Rattle.regions.specs.Rules.{Lawful, few_each, held, holder_at, last_at, permission_at, start_at}
use Rattle.regions.specs.declared.Regions.{Regions}

-- region k may follow the regions before it: the reader's tests 32, 35, 33, 34 and 36
pub record Next (vms : ℕ) (r : Regions) (k : ℕ) : Type 0 where
  pub named : holder_at r k < vms
  pub room : held r.holders (holder_at r k) k < 8
  pub permitted : (1 ≤ permission_at r k) × (permission_at r k ≤ 3)
  pub ordered : start_at r k ≤ last_at r k
  pub beside : (j : ℕ) → j < k → (permission_at r j ≡ 2) ⊎ (permission_at r k ≡ 2) → (holder_at r j ≡ holder_at r k → ⊥)
      → start_at r j ≤ last_at r k → start_at r k ≤ last_at r j → (start_at r j ≡ start_at r k) × (last_at r j ≡ last_at r k)

module _ (hs : List ℕ) where
  held_own : (k : ℕ) → held hs (get_or hs k 0) (suc k) ≡ suc (held hs (get_or hs k 0) k)
  unfolding held how_many
  held_own k = rw (eq-eqb (get_or hs k 0) (get_or hs k 0) refl)

  held_step : (v k : ℕ) → held hs v k ≤ held hs v (suc k)
  unfolding held how_many
  held_step v k = go (eqb (get_or hs k 0) v)
    where
      go : (b : Bool) → held hs v k ≤ pick b (suc (held hs v k)) (held hs v k)
      go true = omega arith
      go false = omega arith

  held_grows : (v k n : ℕ) → k ≤ n → held hs v k ≤ held hs v n
  held_grows v k zero h = let e : k ≡ 0 = omega arith in rw e (omega arith)
  held_grows v k (suc n) h =
      elim (dec_lt n k) [
        | yes l ↦ (let e : k ≡ suc n = omega arith in rw e (omega arith))
        | no l ↦ omega (arith, held_grows v k n (omega arith), held_step v n)
      ]

  -- no ninth region of a VM: at most eight of each
  few_all : (n : ℕ) → ((k : ℕ) → k < n → held hs (get_or hs k 0) k < 8) → (v : ℕ) → held hs v n ≤ 8
  unfolding held how_many
  few_all zero h v = omega arith
  few_all (suc n) h v = go (eqb (get_or hs n 0) v) refl (few_all n (λ k l. h k (omega arith)) v)
    where
      go : (b : Bool) → eqb (get_or hs n 0) v ≡ b → held hs v n ≤ 8 → pick b (suc (held hs v n)) (held hs v n) ≤ 8
      go true e i = let f = eqb-true (get_or hs n 0) v e in let g = rw f at (h n (omega arith)) in omega arith
      go false e i = i

pub few_short : (n : ℕ) (hs : List ℕ) → n ≤ 8 → true ≡ few_each n hs
unfolding few_each held
few_short n hs h = sym (every_of _ 8 (λ v l. le-leb (held hs v n) 8 (omega (arith, count_most (λ k. eqb (get_or hs k 0) v) n))))

pub next_of : (vms : ℕ) (r : Regions) → Lawful vms r → vms ≤ 8 → (k : ℕ) → k < r.count → Next vms r k
next_of vms r a m k h = record {
  named = a.named k h;
  room = omega (arith, a.named k h, a.each (holder_at r k) (omega (arith, a.named k h)), held_own r.holders k, held_grows r.holders (holder_at r k) (suc k) r.count (omega arith));
  permitted = a.permitted k h;
  ordered = a.ordered k h;
  beside = λ j l w n x y. ⊎_elim
      (λ e. a.shared j k (omega arith) h e n x y)
      (λ e. (let s = a.shared k j h (omega arith) e (λ z. n (sym z)) y x in (sym s.0, sym s.1)))
      w;
}

pub next_all : (vms : ℕ) (r : Regions) → r.count ≤ 64 → ((k : ℕ) → k < r.count → Next vms r k)
    → ((k : ℕ) → r.count ≤ k → k < 64 → (holder_at r k ≡ 0) × (permission_at r k ≡ 0))
    → ((k : ℕ) → r.count ≤ k → k < 64 → (start_at r k ≡ 0) × (last_at r k ≡ 0))
    → Lawful vms r
next_all vms r few each bytes words = record {
  few = few;
  named = λ k h. (each k h).named;
  permitted = λ k h. (each k h).permitted;
  ordered = λ k h. (each k h).ordered;
  each = λ v l. few_all r.holders r.count (λ k h. (each k h).room) v;
  shared = λ i j h l w n x y.
      elim (dec_lt i j) [
        | yes m ↦ (each j l).beside i m (inl w) n x y
        | no m ↦
            elim (dec_lt j i) [
              | yes o ↦ (let s = (each i h).beside j o (inr w) (λ z. n (sym z)) y x in (sym s.0, sym s.1))
              | no o ↦ (let e : i ≡ j = omega arith in absurd (n (rw e)))
            ]
      ];
  bytes_empty = bytes;
  words_empty = words;
}
