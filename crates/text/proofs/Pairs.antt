-- Laws of the table of digit pairs: what stands in it, and that pairs put one behind the other are the digits of a number.
use Prim.Native.Nat.{suc, zero, ℕ, ◌%◌, ◌*◌, ◌+◌, ◌/◌, ◌<◌, ◌^◌, ◌≤◌}
use borrow.Author.Tests.{lt-ltb}
use lib.ListN.{get_or-append, get_or, length, set}
use lib.Seq.{get_or-append-add}
use mathlib.Core.List.{List, append_assoc, [], ◌++◌, ◌∷◌}
use mathlib.Core.Path.{ap, refl, sym, ◌∙◌, ◌≡◌}
use native.Mathlib.Decide.{dec_lt}
use native.Mathlib.Nat.{div-div-eq-div-mul, mod-eq_of_lt}
use native.Mathlib.Omega.{arith}
use Rattle.basis.proofs.Buffer.{joined_length}
use Rattle.basis.specs.Buffer.{put_all}
use Rattle.basis.specs.Count.{joined}
use Rattle.text.proofs.Digits.{digits_length, width_more, width_one, width_two}
use Rattle.text.specs.Digits.{decimal, digits, glyph, hex8, width}
use Rattle.text.specs.Pairs.{pair_at, pairs}

-- where all of f 0, f 1, .. have two bytes, byte j of f k is found at once
module _ (f : ℕ → List ℕ) (wide : (k : ℕ) → length (f k) ≡ 2) where
  joined_at : (n k j : ℕ) → k < n → j < 2 → get_or (joined f n) (k * 2 + j) 0 ≡ get_or (f k) j 0
  unfolding joined
  joined_at zero k j h i = absurd (omega arith)
  joined_at (suc n) k j h i =
      elim (dec_lt k n) [
        | yes l ↦ get_or-append (joined f n) (f n) 0 (k * 2 + j) (omega (arith, joined_length f 2 wide n)) ∙ joined_at n k j l i
        | no l ↦ (let e : k ≡ n = omega arith in
            let g : n * 2 + j ≡ length (joined f n) + j = omega (arith, joined_length f 2 wide n) in
            rw (e, g) (get_or-append-add (joined f n) (f n) j 0))
      ]

abbrev hexes : List ℕ
hexes = joined (digits 16 2) 256

hexes_long : length hexes ≡ 512
hexes_long = joined_length (digits 16 2) 2 (digits_length 16 2) 256

hex_at : (x j : ℕ) → x < 256 → j < 2 → get_or pairs (x * 2 + j) 0 ≡ get_or (digits 16 2 x) j 0
unfolding pairs
hex_at x j h i =
    get_or-append hexes (joined (digits 10 2) 100) 0 (x * 2 + j) (omega (arith, hexes_long)) ∙ joined_at (digits 16 2) (digits_length 16 2) 256 x j h i

dec_at : (x j : ℕ) → x < 100 → j < 2 → get_or pairs ((256 + x) * 2 + j) 0 ≡ get_or (digits 10 2 x) j 0
unfolding pairs
dec_at x j h i =
    let e : (256 + x) * 2 + j ≡ length hexes + (x * 2 + j) = omega (arith, hexes_long) in
    ap (λ (k : ℕ). get_or pairs k 0) e ∙ get_or-append-add hexes (joined (digits 10 2) 100) (x * 2 + j) 0 ∙ joined_at (digits 10 2) (digits_length 10 2) 100 x j h i

pub pair_length : (x : ℕ) → length (pair_at x) ≡ 2
unfolding pair_at
pair_length x = refl

-- each pair of the table is the digits that it stands for
pub pair_hex : (x : ℕ) → x < 256 → pair_at x ≡ digits 16 2 x
unfolding pair_at digits
pair_hex x h =
    let z : x * 2 ≡ x * 2 + 0 = omega arith in
    rw (hex_at x 1 h (omega arith)) (ap (λ (y : ℕ). y ∷ glyph (x % 16) ∷ []) (ap (λ (k : ℕ). get_or pairs k 0) z ∙ hex_at x 0 h (omega arith)))

pub pair_dec : (x : ℕ) → x < 100 → pair_at (256 + x) ≡ digits 10 2 x
unfolding pair_at digits
pair_dec x h =
    let z : (256 + x) * 2 ≡ (256 + x) * 2 + 0 = omega arith in
    rw (dec_at x 1 h (omega arith)) (ap (λ (y : ℕ). y ∷ glyph (x % 10) ∷ []) (ap (λ (k : ℕ). get_or pairs k 0) z ∙ dec_at x 0 h (omega arith)))

-- a pair is stored
pub pair_put : (l t : List ℕ) (at x : ℕ) → t ≡ pairs → set (set l at (get_or t (x * 2) 0)) (at + 1) (get_or t (x * 2 + 1) 0) ≡ put_all l at (pair_at x)
unfolding pair_at put_all
pair_put l t at x e = rw e

-- the last two digits see no more of a number than its remainder
pub hex_rest : (n : ℕ) → digits 16 2 (n % 256) ≡ digits 16 2 n
unfolding digits
hex_rest n =
    let a : n % 256 / 16 % 16 ≡ n / 16 % 16 = omega arith in
    let b : n % 256 % 16 ≡ n % 16 = omega arith in
    rw (a, b)

pub dec_rest : (n : ℕ) → digits 10 2 (n % 100) ≡ digits 10 2 n
unfolding digits
dec_rest n =
    let a : n % 100 / 10 % 10 ≡ n / 10 % 10 = omega arith in
    let b : n % 100 % 10 ≡ n % 10 = omega arith in
    rw (a, b)

append_two : (xs : List ℕ) (y z : ℕ) → (xs ++ (y ∷ [])) ++ (z ∷ []) ≡ xs ++ (y ∷ z ∷ [])
append_two [] y z = refl
append_two (x ∷ xs) y z = ap (λ (l : List ℕ). x ∷ l) (append_two xs y z)

-- all digits but two, and these two as a pair
hex_two : (k n : ℕ) → digits 16 (suc (suc k)) n ≡ digits 16 k (n / 256) ++ pair_at (n % 256)
unfolding digits
hex_two k n =
    append_two (digits 16 k (n / 16 / 16)) _ _
    ∙ ap (λ (m : ℕ). digits 16 k m ++ (glyph (n / 16 % 16) ∷ glyph (n % 16) ∷ [])) (div-div-eq-div-mul n 16 16)
    ∙ ap (λ (xs : List ℕ). digits 16 k (n / 256) ++ xs) (sym (pair_hex (n % 256) (omega arith) ∙ hex_rest n))

dec_two : (k n : ℕ) → digits 10 (suc (suc k)) n ≡ digits 10 k (n / 100) ++ pair_at (256 + n % 100)
unfolding digits
dec_two k n =
    append_two (digits 10 k (n / 10 / 10)) _ _
    ∙ ap (λ (m : ℕ). digits 10 k m ++ (glyph (n / 10 % 10) ∷ glyph (n % 10) ∷ [])) (div-div-eq-div-mul n 10 10)
    ∙ ap (λ (xs : List ℕ). digits 10 k (n / 100) ++ xs) (sym (pair_dec (n % 100) (omega arith) ∙ dec_rest n))

-- an address by pairs
pub hex8_pairs : (n : ℕ) → n < 2 ^ 32 → hex8 n ≡ ((pair_at (n / 16777216) ++ pair_at (n / 65536 % 256)) ++ pair_at (n / 256 % 256)) ++ pair_at (n % 256)
unfolding hex8
hex8_pairs n h =
    let a : n / 256 / 256 ≡ n / 65536 = div-div-eq-div-mul n 256 256 in
    let b : n / 65536 / 256 ≡ n / 16777216 = div-div-eq-div-mul n 65536 256 in
    hex_two 6 n ∙ rw (hex_two 4 (n / 256), a, hex_two 2 (n / 65536), b, pair_hex (n / 16777216) (omega arith)) refl

-- the upper four digits of a number that has no more than four
pub upper_zero : (n : ℕ) → n < 65536 → pair_at (n / 16777216) ++ pair_at (n / 65536 % 256) ≡ 48 ∷ 48 ∷ 48 ∷ 48 ∷ []
unfolding digits glyph
upper_zero n h =
    let a : n / 16777216 ≡ 0 = omega arith in
    let b : n / 65536 % 256 ≡ 0 = omega arith in
    rw (a, b, pair_hex 0 (omega arith)) refl

pub hex8_zero : (n : ℕ) → n ≡ 0 → hex8 n ≡ 48 ∷ 48 ∷ 48 ∷ 48 ∷ 48 ∷ 48 ∷ 48 ∷ 48 ∷ []
unfolding hex8 digits glyph
hex8_zero n h = rw h refl

-- a number in decimal: its one digit, its two digits, or all digits but two and these two
pub decimal_one : (n : ℕ) → n < 10 → decimal n ≡ (48 + n) ∷ []
unfolding decimal digits glyph
decimal_one n h =
    let m : n % 10 ≡ n = mod-eq_of_lt h in
    rw (width_one n h, m, lt-ltb n 10 h) refl

pub decimal_two : (n : ℕ) → 10 ≤ n → n < 100 → decimal n ≡ pair_at (256 + n)
unfolding decimal
decimal_two n h k = rw (width_two n h k) (sym (pair_dec n k))

pub decimal_more : (n : ℕ) → 100 ≤ n → n < 2 ^ 32 → decimal n ≡ decimal (n / 100) ++ pair_at (256 + n % 100)
unfolding decimal
decimal_more n h k = rw (width_more n h k) (dec_two (width (n / 100)) n)

-- a number of three digits, and one of four
pub decimal_three : (n : ℕ) → 100 ≤ n → n < 1000 → decimal n ≡ ((48 + n / 100) ∷ []) ++ pair_at (256 + n % 100)
decimal_three n h k = rw (decimal_more n h (omega arith), decimal_one (n / 100) (omega arith)) refl

pub decimal_four : (n : ℕ) → 1000 ≤ n → n < 10000 → decimal n ≡ pair_at (256 + n / 100) ++ pair_at (256 + n % 100)
decimal_four n h k = rw (decimal_more n (omega arith) (omega arith), decimal_two (n / 100) (omega arith) (omega arith)) refl

-- four digits are two pairs
pub four_digits : (n : ℕ) → n < 10000 → digits 10 4 n ≡ pair_at (256 + n / 100) ++ pair_at (256 + n % 100)
four_digits n h = dec_two 2 n ∙ ap (λ (xs : List ℕ). xs ++ pair_at (256 + n % 100)) (sym (pair_dec (n / 100) (omega arith)))

last_four : (n : ℕ) → digits 10 4 (n % 10000) ≡ pair_at (256 + n / 100 % 100) ++ pair_at (256 + n % 100)
last_four n =
    let a : n % 10000 / 100 ≡ n / 100 % 100 = omega arith in
    let b : n % 10000 % 100 ≡ n % 100 = omega arith in
    rw (four_digits (n % 10000) (omega arith), a, b) refl

-- a number of more than four digits: those before the last four, and these
pub decimal_five : (n : ℕ) → 10000 ≤ n → n < 2 ^ 32 → decimal n ≡ decimal (n / 10000) ++ digits 10 4 (n % 10000)
decimal_five n h k =
    decimal_more n (omega arith) k
    ∙ ap (λ (xs : List ℕ). xs ++ pair_at (256 + n % 100)) (decimal_more (n / 100) (omega arith) (omega arith))
    ∙ append_assoc (decimal (n / 100 / 100)) (pair_at (256 + n / 100 % 100)) (pair_at (256 + n % 100))
    ∙ ap (λ (m : ℕ). decimal m ++ (pair_at (256 + n / 100 % 100) ++ pair_at (256 + n % 100))) (div-div-eq-div-mul n 100 100)
    ∙ ap (λ (xs : List ℕ). decimal (n / 10000) ++ xs) (sym (last_four n))

-- and of more than eight
pub decimal_nine : (n : ℕ) → 100000000 ≤ n → n < 2 ^ 32 → decimal n ≡ (decimal (n / 100000000) ++ digits 10 4 (n / 10000 % 10000)) ++ digits 10 4 (n % 10000)
decimal_nine n h k =
    decimal_five n (omega arith) k
    ∙ ap (λ (xs : List ℕ). xs ++ digits 10 4 (n % 10000))
    (decimal_five (n / 10000) (omega arith) (omega arith) ∙ ap (λ (m : ℕ). decimal m ++ digits 10 4 (n / 10000 % 10000)) (div-div-eq-div-mul n 10000 10000))
