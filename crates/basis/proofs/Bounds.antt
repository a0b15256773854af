-- Tests of bounds and of places past those in use are facts; loops that join such places.
use Prim.Native.Nat.{suc, zero, ℕ, ◌+◌, ◌-◌, ◌<◌, ◌≤◌}
use borrow.Author.Tests.{eq-eqb, eqb-true, le-leb, le-ltb, leb-true, lt-ltb}
use lib.Bits.{bit_or}
use lib.Dec.{eqb, leb, ltb}
use lib.ListN.{drop, get_or}
use lib.Seq.{get_or-drop}
use mathlib.Core.Bool.{Bool, false, true}
use mathlib.Core.List.{List, [], ◌∷◌}
use mathlib.Core.Path.{refl, sym, ◌∙◌, ◌≡◌}
use native.Mathlib.Decide.{dec_lt}
use native.Mathlib.Omega.{arith}
use Rattle.basis.proofs.Laws.{both_left, both_of, both_right, both_swap, either_left, either_right, every_is, every_more, every_of, or_none, same_test}
use Rattle.basis.specs.Bounds.{empty_past, empty_rest, within, zeros}
use Rattle.basis.specs.Choice.{both, either, pick}
use Rattle.basis.specs.Count.{every}

-- at least a and at most b
pub within_is : (a b n : ℕ) → within a b n ≡ true → (a ≤ n) × (n ≤ b)
within_is a b n e = (leb-true a n (both_left (leb a n) (leb n b) e), leb-true n b (both_right (leb a n) (leb n b) e))

pub within_of : (a b n : ℕ) → a ≤ n → n ≤ b → within a b n ≡ true
within_of a b n h l = both_of (leb a n) (leb n b) (le-leb a n h) (le-leb n b l)

pub empty_is : (n k x y : ℕ) → empty_past n k x y ≡ true → n ≤ k → (x ≡ 0) × (y ≡ 0)
empty_is n k x y e h =
    let f = rw (le-ltb k n h) at e in
    (eqb-true x 0 (both_left (eqb x 0) (eqb y 0) f), eqb-true y 0 (both_right (eqb x 0) (eqb y 0) f))

pub empty_of : (n k x y : ℕ) → (n ≤ k → (x ≡ 0) × (y ≡ 0)) → empty_past n k x y ≡ true
empty_of n k x y h =
    elim (dec_lt k n) [
      | yes l ↦ either_left (ltb k n) _ (lt-ltb k n l)
      | no l ↦ (let e = h (omega arith) in either_right (ltb k n) _ (both_of (eqb x 0) (eqb y 0) (eq-eqb x 0 e.0) (eq-eqb y 0 e.1)))
    ]

-- a turn of a loop that joins the places past n: the place's bits are left out below n
pub past_more : (p : ℕ → Bool) (n k a b x bits y : ℕ) → p k ≡ empty_past n k a b → eqb bits 0 ≡ every p k → x ≡ pick (ltb k n) 0 (bit_or a b) → y ≡ bit_or bits x → eqb y 0 ≡ every p (k + 1)
past_more p n k a b x bits y h e f g =
    every_more p k (eqb bits 0) (eqb y 0) e (rw (g, h, or_none bits x, f) (go (ltb k n)))
  where
    go : (t : Bool) → both (eqb (pick t 0 (bit_or a b)) 0) (eqb bits 0) ≡ both (either t (both (eqb a 0) (eqb b 0))) (eqb bits 0)
    go true = refl
    go false = rw (or_none a b, both_swap (eqb b 0) (eqb a 0))

-- a loop that begins at n: what is below holds by itself, and each turn joins its place
pub rest_none : (n : ℕ) (xs ys : List ℕ) → every (λ j. empty_past n j (get_or xs j 0) (get_or ys j 0)) n ≡ true
rest_none n xs ys = every_of _ n (λ k h. either_left (ltb k n) _ (lt-ltb k n h))

pub rest_more : (p : ℕ → Bool) (n k a b x bits y : ℕ) → p k ≡ empty_past n k a b → n ≤ k → eqb bits 0 ≡ every p k → x ≡ bit_or a b → y ≡ bit_or bits x → eqb y 0 ≡ every p (k + 1)
rest_more p n k a b x bits y h l e f g = past_more p n k a b x bits y h e (rw (le-ltb k n l) f) g

-- zeros at each place
zeros_is : (m : ℕ) (l : List ℕ) → zeros m l ≡ true → (k : ℕ) → k < m → get_or l k 0 ≡ 0
unfolding zeros
zeros_is zero l e k h = absurd (omega arith)
zeros_is (suc m) [] e k h = refl
zeros_is (suc m) (x ∷ l) e zero h = eqb-true x 0 (both_left (eqb x 0) _ e)
zeros_is (suc m) (x ∷ l) e (suc k) h = zeros_is m l (both_right (eqb x 0) _ e) k (omega arith)

zeros_of : (m : ℕ) (l : List ℕ) → ((k : ℕ) → k < m → get_or l k 0 ≡ 0) → zeros m l ≡ true
unfolding zeros
zeros_of zero l f = refl
zeros_of (suc m) [] f = refl
zeros_of (suc m) (x ∷ l) f = both_of (eqb x 0) _ (eq-eqb x 0 (f 0 (omega arith))) (zeros_of m l (λ k h. f (suc k) (omega arith)))

pub rest_is : (n : ℕ) (l : List ℕ) → empty_rest n l ≡ true → (k : ℕ) → n ≤ k → k < 64 → get_or l k 0 ≡ 0
rest_is n l e k h m =
    let j : n + (k - n) ≡ k = omega arith in
    rw j at (sym (get_or-drop n l (k - n) 0) ∙ zeros_is (64 - n) (drop n l) e (k - n) (omega arith))

pub rest_of : (n : ℕ) (l : List ℕ) → ((k : ℕ) → n ≤ k → k < 64 → get_or l k 0 ≡ 0) → empty_rest n l ≡ true
rest_of n l f = zeros_of (64 - n) (drop n l) (λ k h. get_or-drop n l k 0 ∙ f (n + k) (omega arith) (omega arith))

-- place by place, of two lists
pub rest_both : (n : ℕ) (xs ys : List ℕ) (b : Bool) → b ≡ every (λ k. empty_past n k (get_or xs k 0) (get_or ys k 0)) 64 → b ≡ both (empty_rest n xs) (empty_rest n ys)
rest_both n xs ys b e =
    e
    ∙ same_test _ _
    (λ h. both_of (empty_rest n xs) _
    (rest_of n xs (λ k l m. (empty_is n k (get_or xs k 0) (get_or ys k 0) (every_is _ 64 h k m) l).0))
    (rest_of n ys (λ k l m. (empty_is n k (get_or xs k 0) (get_or ys k 0) (every_is _ 64 h k m) l).1)))
    (λ h. every_of _ 64 (λ k m. empty_of n k (get_or xs k 0) (get_or ys k 0) (λ l. (rest_is n xs (both_left (empty_rest n xs) _ h) k l m, rest_is n ys (both_right (empty_rest n xs) _ h) k l m))))
