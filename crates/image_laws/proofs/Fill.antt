-- Lists that are filled place by place, and records one behind the other, the first peeled.
use Prim.Native.Nat.{suc, zero, ℕ, ◌+◌, ◌<◌, ◌≤◌}
use lib.ListN.{get_or-eq_default, get_or, get_or-replicate, length, length-replicate, length-set, replicate, set}
use lib.Seq.{ext_get_or, get_or-set_other, get_or-set_same}
use mathlib.Core.List.{List, append_assoc, append-nil, [], ◌++◌}
use mathlib.Core.Path.{ap, refl, sym, ◌∙◌, ◌≡◌}
use native.Mathlib.Decide.{dec_lt}
use native.Mathlib.Omega.{arith}
use Rattle.basis.specs.Count.{joined}

-- l holds what t holds at the places below i, and zeros at the others
pub record Filled (l t : List ℕ) (i : ℕ) : Type 0 where
  pub long : length l ≡ length t
  pub below : (k : ℕ) → k < i → get_or l k 0 ≡ get_or t k 0
  pub above : (k : ℕ) → i ≤ k → get_or l k 0 ≡ 0

pub zeros_at : (n k : ℕ) → ◌≡◌ {A = ℕ} (get_or (replicate n 0) k 0) 0
zeros_at n k =
    elim (dec_lt k n) [
      | yes h ↦ get_or-replicate n k 0 0 h
      | no h ↦ get_or-eq_default (replicate n 0) 0 (omega (arith, length-replicate {A = ℕ} n 0))
    ]

pub fill_none : (t : List ℕ) (n : ℕ) → length t ≡ n → Filled (replicate n 0) t 0
fill_none t n e = record { long = length-replicate n 0 ∙ sym e; below = λ k h. absurd (omega arith); above = λ k h. zeros_at n k }

pub fill_more : {l t : List ℕ} {i : ℕ} (v : ℕ) → Filled l t i → i < length t → v ≡ get_or t i 0 → Filled (set l i v) t (i + 1)
fill_more {l} {t} {i} v f h e = record {
  long = length-set l i v ∙ f.long;
  below = λ k b.
      elim (dec_lt k i) [
        | yes s ↦ get_or-set_other l i k v 0 (λ x. omega arith) ∙ f.below k s
        | no s ↦ (let j : k ≡ i = omega arith in rw j (get_or-set_same l i v 0 (omega (arith, f.long)) ∙ e))
      ];
  above = λ k b. get_or-set_other l i k v 0 (λ x. omega arith) ∙ f.above k (omega arith);
}

-- filled up to the last place that is not zero, it is the list
pub fill_end : {l t : List ℕ} {i : ℕ} → Filled l t i → ((k : ℕ) → i ≤ k → k < length t → get_or t k 0 ≡ 0) → l ≡ t
fill_end {l} {t} {i} f z =
    ext_get_or 0 l t f.long
    (λ k h. elim (dec_lt k i) [
      | yes s ↦ f.below k s
      | no s ↦ f.above k (omega arith) ∙ sym (z k (omega arith) (omega (arith, f.long)))
    ])

pub fill_self : (l : List ℕ) (i : ℕ) → ((k : ℕ) → i ≤ k → get_or l k 0 ≡ 0) → Filled l l i
fill_self l i z = record { long = refl; below = λ k h. refl; above = z }

-- one place back
pub fill_less : (l : List ℕ) {t : List ℕ} (i v : ℕ) → Filled (set l i v) t (i + 1) → ((k : ℕ) → i ≤ k → get_or l k 0 ≡ 0) → Filled l t i
fill_less l {t} i v f z = record {
  long = sym (length-set l i v) ∙ f.long;
  below = λ k h. sym (get_or-set_other l i k v 0 (λ x. omega arith)) ∙ f.below k (omega arith);
  above = z;
}

pub fill_at : (l : List ℕ) {t : List ℕ} (i v : ℕ) → Filled (set l i v) t (i + 1) → i < length l → get_or t i 0 ≡ v
fill_at l {t} i v f h = sym (f.below i (omega arith)) ∙ get_or-set_same l i v 0 h

pub zeros_set : (l : List ℕ) (i v : ℕ) → ((k : ℕ) → i ≤ k → get_or l k 0 ≡ 0) → (k : ℕ) → i + 1 ≤ k → get_or (set l i v) k 0 ≡ 0
zeros_set l i v z k h = get_or-set_other l i k v 0 (λ x. omega arith) ∙ z k (omega arith)

-- f i, f (i + 1), .. n of them
unfoldable pub runs : (ℕ → List ℕ) → ℕ → ℕ → List ℕ
runs f i zero = []
runs f i (suc n) = f i ++ runs f (i + 1) n

pub runs_last : (f : ℕ → List ℕ) (i n : ℕ) → runs f i n ++ f (i + n) ≡ runs f i (suc n)
unfolding runs
runs_last f i zero = let j : i + 0 ≡ i = omega arith in ap f j ∙ sym (append-nil (f i))
runs_last f i (suc n) =
    let j : i + suc n ≡ i + 1 + n = omega arith in
    append_assoc (f i) (runs f (i + 1) n) (f (i + suc n)) ∙ ap (λ (k : ℕ). f i ++ (runs f (i + 1) n ++ f k)) j ∙ ap (λ (x : List ℕ). f i ++ x) (runs_last f (i + 1) n)

pub joined_runs : (f : ℕ → List ℕ) (n : ℕ) → joined f n ≡ runs f 0 n
unfolding runs joined
joined_runs f zero = refl
joined_runs f (suc n) =
    let j : n ≡ 0 + n = omega arith in
    ap (λ (x : List ℕ). x ++ f n) (joined_runs f n) ∙ ap (λ (k : ℕ). runs f 0 n ++ f k) j ∙ runs_last f 0 n
