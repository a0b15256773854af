-- Laws of the digits of a number.
use Prim.Native.Nat.{suc, zero, ℕ, ◌%◌, ◌*◌, ◌-◌, ◌/◌, ◌<◌, ◌^◌, ◌≤◌}
use borrow.Author.Tests.{le-ltb, lt-ltb, ltb-false, ltb-true}
use lib.Dec.{ltb}
use lib.ListN.{length, length-append}
use mathlib.Core.Bool.{Bool, false, true}
use mathlib.Core.List.{[], ◌∷◌}
use mathlib.Core.Path.{refl, sym, ◌∙◌, ◌≡◌}
use native.Mathlib.Decide.{dec_lt}
use native.Mathlib.Omega.{arith}
use Rattle.basis.proofs.Laws.{pick_case}
use Rattle.basis.specs.Choice.{pick}
use Rattle.text.specs.Digits.{decimal, digits, glyph, hex8, hex_byte, width}

pub digits_length : (base k n : ℕ) → length (digits base k n) ≡ k
unfolding digits
digits_length base zero n = refl
digits_length base (suc k) n = omega (arith, length-append (digits base k (n / base)) (glyph (n % base) ∷ []), digits_length base k (n / base))

-- what holds of each width that a number may have holds of its width
width_cases : (P : ℕ → Type 0) (n : ℕ) → (n < 10 → P 1) → (10 ≤ n → n < 100 → P 2) → (100 ≤ n → n < 1000 → P 3) → (1000 ≤ n → n < 10000 → P 4) → (10000 ≤ n → n < 100000 → P 5)
    → (100000 ≤ n → n < 1000000 → P 6) → (1000000 ≤ n → n < 10000000 → P 7) → (10000000 ≤ n → n < 100000000 → P 8) → (100000000 ≤ n → n < 1000000000 → P 9) → (1000000000 ≤ n → P 10) → P (width n)
unfolding width
width_cases P n p1 p2 p3 p4 p5 p6 p7 p8 p9 p10 =
    pick_case P (ltb n 10) 1 _ (λ t. p1 (ltb-true _ _ t)) (λ f1.
    pick_case P (ltb n 100) 2 _ (λ t. p2 (ltb-false _ _ f1) (ltb-true _ _ t)) (λ f2.
    pick_case P (ltb n 1000) 3 _ (λ t. p3 (ltb-false _ _ f2) (ltb-true _ _ t)) (λ f3.
    pick_case P (ltb n 10000) 4 _ (λ t. p4 (ltb-false _ _ f3) (ltb-true _ _ t)) (λ f4.
    pick_case P (ltb n 100000) 5 _ (λ t. p5 (ltb-false _ _ f4) (ltb-true _ _ t)) (λ f5.
    pick_case P (ltb n 1000000) 6 _ (λ t. p6 (ltb-false _ _ f5) (ltb-true _ _ t)) (λ f6.
    pick_case P (ltb n 10000000) 7 _ (λ t. p7 (ltb-false _ _ f6) (ltb-true _ _ t)) (λ f7.
    pick_case P (ltb n 100000000) 8 _ (λ t. p8 (ltb-false _ _ f7) (ltb-true _ _ t)) (λ f8.
    pick_case P (ltb n 1000000000) 9 10 (λ t. p9 (ltb-false _ _ f8) (ltb-true _ _ t)) (λ f9. p10 (ltb-false _ _ f9))))))))))

pub width_most : (n : ℕ) → width n ≤ 10
width_most n =
    width_cases (λ (k : ℕ). k ≤ 10) n (λ a. omega arith) (λ a b. omega arith) (λ a b. omega arith) (λ a b. omega arith) (λ a b. omega arith)
    (λ a b. omega arith) (λ a b. omega arith) (λ a b. omega arith) (λ a b. omega arith) (λ a. omega arith)

-- N3: the width is right: the digits hold the number, and none of them is a zero in front
pub width_right : (n : ℕ) → n < 2 ^ 32 → (n < 10 ^ width n) × (1 < width n → 10 ^ (width n - 1) ≤ n)
width_right n h =
    width_cases (λ (k : ℕ). (n < 10 ^ k) × (1 < k → 10 ^ (k - 1) ≤ n)) n
    (λ a. (a, λ f. absurd (omega arith)))
    (λ a b. (b, λ f. a)) (λ a b. (b, λ f. a)) (λ a b. (b, λ f. a)) (λ a b. (b, λ f. a)) (λ a b. (b, λ f. a))
    (λ a b. (b, λ f. a)) (λ a b. (b, λ f. a)) (λ a b. (b, λ f. a)) (λ a. (omega arith, λ f. a))

-- the width of a number below 10, and below 100; any other has two digits more than its hundredth
pub width_one : (n : ℕ) → n < 10 → width n ≡ 1
unfolding width
width_one n h = rw (lt-ltb n 10 h) refl

pub width_two : (n : ℕ) → 10 ≤ n → n < 100 → width n ≡ 2
unfolding width
width_two n h k = rw (le-ltb n 10 h, lt-ltb n 100 k) refl

hundredth : (n m k : ℕ) → m * 100 ≡ k → ltb (n / 100) m ≡ ltb n k
hundredth n m k e =
    elim (dec_lt n k) [
      | yes l ↦ lt-ltb (n / 100) m (omega arith) ∙ sym (lt-ltb n k l)
      | no l ↦ le-ltb (n / 100) m (omega arith) ∙ sym (le-ltb n k (omega arith))
    ]

pub width_more : (n : ℕ) → 100 ≤ n → n < 2 ^ 32 → width n ≡ suc (suc (width (n / 100)))
unfolding width
width_more n h k =
    rw (
      le-ltb n 10 (omega arith),
      le-ltb n 100 h,
      hundredth n 10 1000 refl,
      hundredth n 100 10000 refl,
      hundredth n 1000 100000 refl,
      hundredth n 10000 1000000 refl,
      hundredth n 100000 10000000 refl,
      hundredth n 1000000 100000000 refl,
      hundredth n 10000000 1000000000 refl,
      lt-ltb (n / 100) 100000000 (omega arith),
    )
    (go (ltb n 1000) (ltb n 10000) (ltb n 100000) (ltb n 1000000) (ltb n 10000000) (ltb n 100000000) (ltb n 1000000000))
  where
    go : (a b c d e f g : Bool) → pick a 3 (pick b 4 (pick c 5 (pick d 6 (pick e 7 (pick f 8 (pick g 9 10)))))) ≡ suc (suc (pick a 1 (pick b 2 (pick c 3 (pick d 4 (pick e 5 (pick f 6 (pick g 7 8))))))))
    go true b c d e f g = refl
    go false true c d e f g = refl
    go false false true d e f g = refl
    go false false false true e f g = refl
    go false false false false true f g = refl
    go false false false false false true g = refl
    go false false false false false false true = refl
    go false false false false false false false = refl

-- a number below 100 has at most two digits, one below 10,000 at most four
pub width_less : (n : ℕ) → n < 100 → width n ≤ 2
width_less n h =
    width_cases (λ (k : ℕ). k ≤ 2) n (λ a. omega arith) (λ a b. omega arith) (λ a b. omega arith) (λ a b. omega arith) (λ a b. omega arith)
    (λ a b. omega arith) (λ a b. omega arith) (λ a b. omega arith) (λ a b. omega arith) (λ a. omega arith)

pub width_few : (n : ℕ) → n < 10000 → width n ≤ 4
width_few n h =
    width_cases (λ (k : ℕ). k ≤ 4) n (λ a. omega arith) (λ a b. omega arith) (λ a b. omega arith) (λ a b. omega arith) (λ a b. omega arith)
    (λ a b. omega arith) (λ a b. omega arith) (λ a b. omega arith) (λ a b. omega arith) (λ a. omega arith)

pub decimal_length : (n : ℕ) → length (decimal n) ≡ width n
unfolding decimal
decimal_length n = digits_length 10 (width n) n

pub hex8_length : (n : ℕ) → length (hex8 n) ≡ 8
unfolding hex8
hex8_length n = digits_length 16 8 n

pub hex_byte_length : (n : ℕ) → length (hex_byte n) ≡ 2
unfolding hex_byte
hex_byte_length n = digits_length 16 2 n
