-- The digits mean the number.
use Prim.Native.Nat.{suc, zero, ℕ, ◌%◌, ◌*◌, ◌+◌, ◌/◌, ◌<◌, ◌^◌, ◌≤◌}
use borrow.Author.Tests.{le-ltb, lt-ltb}
use mathlib.Core.List.{List, [], ◌++◌, ◌∷◌}
use mathlib.Core.Path.{refl, subst, ◌∙◌, ◌≡◌}
use native.Mathlib.Decide.{dec_lt}
use native.Mathlib.Nat.{div-add-mod', div-lt_iff_lt-mul, mod-lt, pow-suc, pow-zero}
use native.Mathlib.Omega.{arith}
use Rattle.text.proofs.Digits.{width_right}
use Rattle.text.specs.Digits.{decimal, digit_of, digits, glyph, hex8, hex_byte, value_from, value_of, width}

-- a digit more
value_more : (base v : ℕ) (xs : List ℕ) (x : ℕ) → value_from base v (xs ++ (x ∷ [])) ≡ value_from base v xs * base + digit_of x
unfolding value_from
value_more base v [] x = refl
value_more base v (y ∷ xs) x = value_more base (v * base + digit_of y) xs x

digit_glyph : (d : ℕ) → d < 16 → digit_of (glyph d) ≡ d
unfolding digit_of glyph
digit_glyph d h =
    elim (dec_lt d 10) [
      | yes l ↦ rw (lt-ltb d 10 l, lt-ltb (48 + d) 58 (omega arith)) (omega arith)
      | no l ↦ rw (le-ltb d 10 (omega arith), le-ltb (87 + d) 58 (omega arith)) (omega arith)
    ]

pub value_digits : (base k n : ℕ) → 0 < base → base ≤ 16 → n < base ^ k → value_of base (digits base k n) ≡ n
unfolding value_of digits value_from
value_digits base zero n p q h = omega (arith, pow-zero base)
value_digits base (suc k) n p q h =
    let l : n < base ^ k * base = subst (λ (m : ℕ). n < m) (pow-suc base k) h in
    value_more base 0 (digits base k (n / base)) (glyph (n % base))
    ∙ rw (digit_glyph (n % base) (omega (arith, mod-lt n p)), value_digits base k (n / base) p q ((div-lt_iff_lt-mul p).1 l)) (div-add-mod' n base)

-- N3
pub value_decimal : (n : ℕ) → n < 2 ^ 32 → value_of 10 (decimal n) ≡ n
unfolding decimal
value_decimal n h = value_digits 10 (width n) n (omega arith) (omega arith) (width_right n h).0

-- N3
pub value_hex8 : (n : ℕ) → n < 2 ^ 32 → value_of 16 (hex8 n) ≡ n
unfolding hex8
value_hex8 n h = value_digits 16 8 n (omega arith) (omega arith) h

pub value_hex_byte : (n : ℕ) → n < 2 ^ 8 → value_of 16 (hex_byte n) ≡ n
unfolding hex_byte
value_hex_byte n h = value_digits 16 2 n (omega arith) (omega arith) h
