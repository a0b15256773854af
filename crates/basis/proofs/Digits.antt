-- Numbers of two and of four bytes: put apart and together again.
use Prim.Native.Nat.{ℕ, ◌%◌, ◌*◌, ◌+◌, ◌/◌, ◌<◌, ◌^◌, ◌≤◌}
use lib.ListN.{drop, length}
use lib.Seq.{get_or-drop}
use mathlib.Core.List.{List, [], ◌∷◌}
use mathlib.Core.Path.{sym, ◌≡◌}
use native.Mathlib.Nat.{div-add-mod', div-div-eq-div-mul}
use native.Mathlib.Omega.{arith}
use Rattle.basis.proofs.Laws.{get_d_past}
use Rattle.basis.specs.Numbers.{Bytes, half, half_bytes, word, word_bytes}

-- I1: together again
pub half_whole : (n : ℕ) → n < 65536 → n % 256 + n / 256 % 256 * 256 ≡ n
half_whole n h = omega arith

-- I1, E1
pub word_whole : (n : ℕ) → n < 2 ^ 32 → n % 256 + n / 256 % 256 * 256 + n / 65536 % 256 * 65536 + n / 16777216 % 256 * 16777216 ≡ n
word_whole n h =
    let a : n / 65536 ≡ n / 256 / 256 = sym (div-div-eq-div-mul n 256 256) in
    let b : n / 16777216 ≡ n / 65536 / 256 = sym (div-div-eq-div-mul n 65536 256) in
    let e : n / 16777216 % 256 ≡ n / 16777216 = omega arith in
    let x = div-add-mod' n 256 in
    let y = div-add-mod' (n / 256) 256 in
    let z = div-add-mod' (n / 65536) 256 in
    omega (arith, a, b, e, x, y, z)

-- apart again
low : (a q : ℕ) → a < 256 → (a + q * 256) % 256 ≡ a
low a q h = omega arith

high : (a q : ℕ) → a < 256 → (a + q * 256) / 256 ≡ q
high a q h = omega arith

pub half_apart : (a b : ℕ) → a < 256 → b < 256 → half_bytes (a + b * 256) ≡ a ∷ b ∷ []
half_apart a b h l =
    let e : b % 256 ≡ b = omega arith in
    rw (low a b h, high a b h, e)

pub word_apart : (a b c d : ℕ) → a < 256 → b < 256 → c < 256 → d < 256 → word_bytes (a + b * 256 + c * 65536 + d * 16777216) ≡ a ∷ b ∷ c ∷ d ∷ []
word_apart a b c d h l m n =
    let e : a + b * 256 + c * 65536 + d * 16777216 ≡ a + (b + (c + d * 256) * 256) * 256 = omega arith in
    let y : (a + (b + (c + d * 256) * 256) * 256) / 65536 ≡ c + d * 256 = omega arith in
    let z : (a + (b + (c + d * 256) * 256) * 256) / 16777216 ≡ d = omega arith in
    let f : d % 256 ≡ d = omega arith in
    rw (e, low a (b + (c + d * 256) * 256) h, high a (b + (c + d * 256) * 256) h, low b (c + d * 256) l, y, low c d m, z, f)

pub half_below : (a b : ℕ) → a < 256 → b < 256 → a + b * 256 < 65536
half_below a b h l = omega arith

pub word_below : (a b c d : ℕ) → a < 256 → b < 256 → c < 256 → d < 256 → a + b * 256 + c * 65536 + d * 16777216 < 2 ^ 32
word_below a b c d h l m n = omega arith

-- past the end there are zeros only
pub half_past : (l : List ℕ) (i : ℕ) → length l ≤ i → 0 ≡ half l i
half_past l i h = rw (← get_d_past l i h, ← get_d_past l (i + 1) (omega arith))

pub word_past : (l : List ℕ) (i : ℕ) → length l ≤ i → 0 ≡ word l i
word_past l i h = rw (← get_d_past l i h, ← get_d_past l (i + 1) (omega arith), ← get_d_past l (i + 2) (omega arith), ← get_d_past l (i + 3) (omega arith))

pub bytes_drop : (n : ℕ) (bs : List ℕ) → Bytes bs → Bytes (drop n bs)
bytes_drop n bs y i = rw (get_or-drop n bs i 0) (y (n + i))
