-- What it is to be in a set of pseudo-interrupts: to set one and to clear one touch the bits that they name, and no other.
use Rattle.std.proofs.Common.{◌≡◌, ℕ, ◌+◌, ◌-◌, ◌/◌, ◌%◌, ◌^◌, ◌≤◌, Bool, true, false, sym, refl, ap, ◌∙◌, arith, pow_pos, eqb-true}
use lib.Bits.{and_le_l}
use native.Mathlib.Nat.{div-eq-sub-div}
use Rattle.basis.proofs.Bits.{bit_or_lem, power_other, power_same}
use Rattle.basis.proofs.Laws.{either_no, either_yes}
use Rattle.basis.specs.Bits.{bit}
use Rattle.basis.specs.Choice.{either, pick}
use Rattle.guest.proofs.Laws.{and_in, or_sets}
use Rattle.guest.specs.Bits.{clear_bit, set_bit}

set_or : (k n x : ℕ) → bit k (set_bit n x) ≡ either (bit k x) (bit k (2 ^ n))
set_or k n x = ap (bit k) (sym (or_sets n x (2 ^ n) refl)) ∙ bit_or_lem k x (2 ^ n)

-- D17, D27: the number that is set is in it
pub set_same : (n x : ℕ) → bit n (set_bit n x) ≡ true
set_same n x = set_or n n x ∙ ap (either (bit n x)) (power_same n) ∙ either_yes (bit n x)

-- .. and the others are as they were
pub set_other : (k n x : ℕ) → (k ≡ n → ⊥) → bit k (set_bit n x) ≡ bit k x
set_other k n x h = set_or k n x ∙ ap (either (bit k x)) (power_other k n h) ∙ either_no (bit k x)

power_le : (n x : ℕ) → bit n x ≡ true → 2 ^ n ≤ x
power_le n x e = omega (arith, and_le_l x (2 ^ n), and_in n x e)

less_out : (n x : ℕ) → bit n x ≡ true → bit n (x - 2 ^ n) ≡ false
less_out n x e =
    let d : x / 2 ^ n ≡ (x - 2 ^ n) / 2 ^ n + 1 = div-eq-sub-div (pow_pos n) (power_le n x e) in
    let o : x / 2 ^ n % 2 ≡ 1 = eqb-true (x / 2 ^ n % 2) 1 e in
    let z : (x - 2 ^ n) / 2 ^ n % 2 ≡ 0 = omega (arith, d, o) in
    rw z

-- D12: the number that is cleared is out of it
pub clear_same : (n x : ℕ) → bit n (clear_bit n x) ≡ false
unfolding clear_bit
clear_same n x = go (bit n x) refl
  where
    go : (b : Bool) → bit n x ≡ b → bit n (pick b (x - 2 ^ n) x) ≡ false
    go true e = less_out n x e
    go false e = e

less_set : (n x : ℕ) → bit n x ≡ true → set_bit n (x - 2 ^ n) ≡ x
unfolding set_bit
less_set n x e = rw (less_out n x e) (omega (arith, power_le n x e))

-- .. and the others are as they were
pub clear_other : (k n x : ℕ) → (k ≡ n → ⊥) → bit k (clear_bit n x) ≡ bit k x
unfolding clear_bit
clear_other k n x h = go (bit n x) refl
  where
    go : (b : Bool) → bit n x ≡ b → bit k (pick b (x - 2 ^ n) x) ≡ bit k x
    go true e = sym (set_other k n (x - 2 ^ n) h) ∙ ap (bit k) (less_set n x e)
    go false e = refl
