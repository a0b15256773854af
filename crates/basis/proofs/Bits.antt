-- Numbers as sets: which bits are set where two numbers are joined, and in a power of two.
use Prim.Native.Nat.{suc, zero, ℕ, ◌%◌, ◌*◌, ◌+◌, ◌-◌, ◌/◌, ◌<◌, ◌^◌}
use borrow.Author.Tests.{eq-eqb, ne_eqb}
use lib.Bits.{bit_or, or_mod, or_shr}
use lib.Dec.{eqb}
use lib.Pow.{mod-pow-add, pow-add, pow-lt, pow_pos, shl-shr}
use mathlib.Core.Bool.{false, true}
use mathlib.Core.Path.{ap, refl, sym, ◌∙◌, ◌≡◌}
use native.Mathlib.Decide.{dec_lt, ℕ_discrete}
use native.Mathlib.Nat.{div-eq_of_lt, div-eq_of_lt-le, mod-lt, pow-suc, zero-div}
use native.Mathlib.Omega.{arith}
use Rattle.basis.specs.Bits.{bit}
use Rattle.basis.specs.Choice.{both, either}
use Rattle.basis.specs.Count.{every}

pub bit_zero : (n : ℕ) → bit n 0 ≡ false
bit_zero n = rw (zero-div (2 ^ n))

digit_or : (x y : ℕ) → x < 2 → y < 2 → eqb (bit_or x y) 1 ≡ either (eqb x 1) (eqb y 1)
digit_or zero zero p q = refl
digit_or zero (suc zero) p q = refl
digit_or zero (suc (suc y)) p q = absurd (omega arith)
digit_or (suc zero) zero p q = refl
digit_or (suc zero) (suc zero) p q = refl
digit_or (suc zero) (suc (suc y)) p q = absurd (omega arith)
digit_or (suc (suc x)) y p q = absurd (omega arith)

-- what is set in either is set in the joined one, and nothing else is
pub bit_or_lem : (n a b : ℕ) → bit n (bit_or a b) ≡ either (bit n a) (bit n b)
bit_or_lem n a b =
    ap (λ x. eqb (x % 2) 1) (or_shr a b n)
    ∙ ap (λ x. eqb x 1) (or_mod (a / 2 ^ n) (b / 2 ^ n) 1)
    ∙ digit_or (a / 2 ^ n % 2) (b / 2 ^ n % 2) (mod-lt (a / 2 ^ n) (omega arith)) (mod-lt (b / 2 ^ n) (omega arith))

power_low : (d k : ℕ) → bit k (2 ^ (suc d + k)) ≡ false
power_low d k =
    let e : 2 ^ (suc d + k) / 2 ^ k ≡ 2 ^ d * 2 = ap (λ x. x / 2 ^ k) (pow-add 2 (suc d) k) ∙ shl-shr (2 ^ suc d) k ∙ pow-suc 2 d in
    let z : 2 ^ d * 2 % 2 ≡ 0 = omega arith in
    rw (e, z)

-- a power has its own bit set, and no other
pub power_same : (n : ℕ) → bit n (2 ^ n) ≡ true
power_same n =
    let e : 2 ^ n / 2 ^ n ≡ 1 = div-eq_of_lt-le (2 ^ n) (omega arith) (omega (arith, pow_pos n)) in
    rw e

pub power_other : (k n : ℕ) → (k ≡ n → ⊥) → bit k (2 ^ n) ≡ false
power_other k n h =
    elim (dec_lt n k) [
      | yes l ↦ (let e : 2 ^ n / 2 ^ k ≡ 0 = div-eq_of_lt (pow-lt l) in rw e)
      | no l ↦ (let e : n ≡ suc (n - k - 1) + k = omega arith in ap (λ x. bit k (2 ^ x)) e ∙ power_low (n - k - 1) k)
    ]

pub power_bit : (n v : ℕ) → bit v (2 ^ n) ≡ eqb n v
power_bit n v =
    elim (ℕ_discrete v n) [
      | yes e ↦ rw (e, eq-eqb n n refl) (power_same n)
      | no e ↦ power_other v n e ∙ sym (ne_eqb n v (λ f. e (sym f)))
    ]

-- all of the lowest n bits are set
full_step : (d m p : ℕ) → d < 2 → m < p → eqb (d * p + m) (p * 2 - 1) ≡ both (eqb d 1) (eqb m (p - 1))
full_step zero m p h l = ne_eqb (0 * p + m) (p * 2 - 1) (λ e. omega arith)
full_step (suc zero) m p h l =
    elim (ℕ_discrete m (p - 1)) [
      | yes e ↦ eq-eqb (1 * p + m) (p * 2 - 1) (omega arith) ∙ sym (eq-eqb m (p - 1) e)
      | no e ↦ ne_eqb (1 * p + m) (p * 2 - 1) (λ f. e (omega arith)) ∙ sym (ne_eqb m (p - 1) e)
    ]
full_step (suc (suc d)) m p h l = absurd (omega arith)

pub low_full : (x n : ℕ) → eqb (x % 2 ^ n) (2 ^ n - 1) ≡ every (λ v. bit v x) n
unfolding every
low_full x zero = eq-eqb (x % 1) 0 (omega arith)
low_full x (suc n) =
    let q : 1 + n ≡ suc n = omega arith in
    let e : x % 2 ^ suc n ≡ (x / 2 ^ n % 2) * 2 ^ n + x % 2 ^ n = rw q at (mod-pow-add x 1 n) in
    rw (e, pow-suc 2 n, ← low_full x n)
    (full_step (x / 2 ^ n % 2) (x % 2 ^ n) (2 ^ n) (mod-lt (x / 2 ^ n) (omega arith)) (mod-lt x (pow_pos n)))
