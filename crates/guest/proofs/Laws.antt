-- The machine's operations on bits, in the terms of the definitions.
use Rattle.std.proofs.Common.{◌≡◌, ℕ, zero, suc, ◌+◌, ◌-◌, ◌*◌, ◌/◌, ◌%◌, ◌^◌, ◌<◌, Bool, true, false, eqb, sym, refl, ap, ◌∙◌, mod-lt, arith, pow-add, shl_exact, eqb-true, Option, Some, None}
use borrow.Author.Tests.{eqb-false}
use lib.Bits.{and_high, and_mod, and_shr, bit_and, bit_or, or_add_and}
use native.Mathlib.Decide.{dec_lt}
use Rattle.basis.proofs.Bits.{bit_zero}
use Rattle.basis.specs.Bits.{bit}
use Rattle.basis.specs.Choice.{both, pick}
use Rattle.guest.specs.Bits.{clear_bit, highest, set_bit}
use Rattle.guest.specs.Deliver.{deliver, due, interrupt, quiet}
use Rattle.guest.specs.declared.Delivery.{Delivery}
use Rattle.guest.specs.declared.Status.{Status}
use Rattle.guest.specs.declared.Vm.{Vm}

-- ---- one bit

-- both digits are set where each is
digit_and : (x y : ℕ) → x < 2 → y < 2 → eqb (bit_and x y) 1 ≡ both (eqb x 1) (eqb y 1)
digit_and zero zero p q = refl
digit_and zero (suc zero) p q = refl
digit_and zero (suc (suc y)) p q = absurd (omega arith)
digit_and (suc zero) zero p q = refl
digit_and (suc zero) (suc zero) p q = refl
digit_and (suc zero) (suc (suc y)) p q = absurd (omega arith)
digit_and (suc (suc x)) y p q = absurd (omega arith)

pub bit_and_lem : (n a b : ℕ) → bit n (bit_and a b) ≡ both (bit n a) (bit n b)
bit_and_lem n a b =
    ap (λ x. eqb (x % 2) 1) (and_shr a b n)
    ∙ ap (λ x. eqb x 1) (and_mod (a / 2 ^ n) (b / 2 ^ n) 1)
    ∙ digit_and (a / 2 ^ n % 2) (b / 2 ^ n % 2) (mod-lt (a / 2 ^ n) (omega arith)) (mod-lt (b / 2 ^ n) (omega arith))

-- what `x & (1 << n)` is
and_one : (n x : ℕ) → bit_and x (2 ^ n) ≡ (x / 2 ^ n % 2) * 2 ^ n
and_one n x = ap (bit_and x) e ∙ and_high x 1 n
  where
    e : 2 ^ n ≡ 2 ^ (1 + n) - 2 ^ n
    e = rw (pow-add 2 1 n) (omega arith)

pub and_in : (n x : ℕ) → bit n x ≡ true → bit_and x (2 ^ n) ≡ 2 ^ n
and_in n x e = and_one n x ∙ rw (eqb-true (x / 2 ^ n % 2) 1 e) (omega arith)

and_out : (n x : ℕ) → bit n x ≡ false → bit_and x (2 ^ n) ≡ 0
and_out n x e =
    let d : x / 2 ^ n % 2 < 2 = mod-lt (x / 2 ^ n) (omega arith) in
    let z : x / 2 ^ n % 2 ≡ 0 = omega (arith, d, eqb-false (x / 2 ^ n % 2) 1 e) in
    and_one n x ∙ rw z (omega arith)

pub or_sets : (n x p : ℕ) → p ≡ 2 ^ n → bit_or x p ≡ set_bit n x
unfolding set_bit
or_sets n x p f = rw f (go (bit n x) refl)
  where
    go : (b : Bool) → bit n x ≡ b → bit_or x (2 ^ n) ≡ pick b x (x + 2 ^ n)
    go true e = omega (arith, or_add_and x (2 ^ n), and_in n x e)
    go false e = omega (arith, or_add_and x (2 ^ n), and_out n x e)

pub sub_clears : (n x p : ℕ) → p ≡ 2 ^ n → x - bit_and x p ≡ clear_bit n x
unfolding clear_bit
sub_clears n x p f = rw f (go (bit n x) refl)
  where
    go : (b : Bool) → bit n x ≡ b → x - bit_and x (2 ^ n) ≡ pick b (x - 2 ^ n) x
    go true e = rw (and_in n x e)
    go false e = rw (and_out n x e) (omega arith)

-- the code's way to 2 ^ n
pub power_is : (n : ℕ) → n < 32 → 1 * 2 ^ n % 4294967296 ≡ 2 ^ n
power_is n l = shl_exact {a = 1} 1 n 32 (omega arith) (omega arith) ∙ omega arith

-- ---- the highest

module _ (p : ℕ → Bool) where
  pub highest_none : (n : ℕ) → ((k : ℕ) → k < n → p k ≡ false) → highest p n ≡ None
  unfolding highest
  highest_none zero h = refl
  highest_none (suc n) h = rw (h n (omega arith)) (highest_none n (λ k l. h k (omega arith)))

  -- what the answer tells
  pub none_is : (n : ℕ) → highest p n ≡ None → (k : ℕ) → k < n → p k ≡ false
  unfolding highest
  none_is zero e k l = absurd (omega arith)
  none_is (suc n) e k l = go (p n) refl e (λ f. none_is n f k)
    where
      go : (b : Bool) → p n ≡ b → pick b (Some n) (highest p n) ≡ None → (highest p n ≡ None → k < n → p k ≡ false) → p k ≡ false
      go true f g h = let z : ◌≡◌ {A = ℕ} 0 1 = cc in absurd (omega arith)
      go false f g h =
          elim (dec_lt k n) [
            | yes i ↦ h g i
            | no i ↦ (let q : k ≡ n = omega arith in rw q f)
          ]

  pub at_is : (n j : ℕ) → highest p n ≡ Some j → (j < n) × (p j ≡ true) × ((k : ℕ) → j < k → k < n → p k ≡ false)
  unfolding highest
  at_is zero j e = let z : ◌≡◌ {A = ℕ} 0 1 = cc in absurd (omega arith)
  at_is (suc n) j e = go (p n) refl e (at_is n j)
    where
      go : (b : Bool) → p n ≡ b → pick b (Some n) (highest p n) ≡ Some j
          → (highest p n ≡ Some j → (j < n) × (p j ≡ true) × ((k : ℕ) → j < k → k < n → p k ≡ false))
          → (j < suc n) × (p j ≡ true) × ((k : ℕ) → j < k → k < suc n → p k ≡ false)
      go true f g h = let q : n ≡ j = cc in (omega (arith, q), rw (← q) f, λ k a b. absurd (omega (arith, q)))
      go false f g h =
          let r = h g in (
            omega (arith, r.0),
            r.1,
            λ k a b.
                elim (dec_lt k n) [
                  | yes i ↦ r.2 k a i
                  | no i ↦ (let q : k ≡ n = omega arith in rw q f)
                ],
          )

-- ---- the reader's theorems about what is due

-- set in both fields, as D11 asks
abbrev pub in_both : Status → ℕ → Bool
in_both s n = both (bit n s.pending) (bit n s.enabled)

-- D11: the number is below 32, pending and enabled, and no higher one is
pub due_is : (s : Status) (n : ℕ) → due s ≡ Some n → (n < 32) × (in_both s n ≡ true) × ((k : ℕ) → n < k → k < 32 → in_both s k ≡ false)
unfolding due
due_is s n e = at_is _ 32 n e

-- D11: none is
pub due_nothing : (s : Status) → due s ≡ None → (k : ℕ) → k < 32 → in_both s k ≡ false
unfolding due
due_nothing s e = none_is _ 32 e

pub due_none : (s : Status) → bit_and s.pending s.enabled ≡ 0 → None ≡ due s
unfolding due
due_none s e = sym (highest_none _ 32 (λ k l. sym (bit_and_lem k s.pending s.enabled) ∙ ap (bit k) e ∙ bit_zero k))

pub due_few : (s : Status) (n : ℕ) → Some n ≡ due s → n < 32
due_few s n e = (due_is s n (sym e)).0

-- ---- the search (D11): a walk from 31 down; p and e are what the code found in the fields at n, where the walk stands

-- the highest of 0 to n that is set in both
pub due_to : Status → ℕ → Option ℕ
due_to s n = highest (in_both s) (suc n)

pub walk_starts : (s : Status) → due s ≡ due_to s 31
unfolding due due_to
walk_starts s = refl

pub walk_hits : (s : Status) (n : ℕ) (p e : Bool) → due s ≡ due_to s n → p ≡ bit n s.pending → e ≡ bit n s.enabled → p ≡ true → e ≡ true → Some n ≡ due s
unfolding due_to highest
walk_hits s n p e w f g i j = rw (w, ← f, ← g, i, j)

-- n is out where either field lacks it
pub out_pending : (s : Status) (n : ℕ) (p : Bool) → p ≡ bit n s.pending → p ≡ false → in_both s n ≡ false
out_pending s n p f i = rw (← f, i)

pub out_enabled : (s : Status) (n : ℕ) (p e : Bool) → p ≡ bit n s.pending → e ≡ bit n s.enabled → p ≡ true → e ≡ false → in_both s n ≡ false
out_enabled s n p e f g i j = rw (← f, ← g, i, j)

pub walk_goes : (s : Status) (n : ℕ) → due s ≡ due_to s n → in_both s n ≡ false → (n ≡ 0 → ⊥) → due s ≡ due_to s (n - 1)
unfolding due_to highest
walk_goes s zero e f z = absurd (z refl)
walk_goes s (suc n) e f z = let q : suc n - 1 ≡ n = omega arith in rw (e, f, q)

pub walk_ends : (s : Status) (n : ℕ) → due s ≡ due_to s n → in_both s n ≡ false → n ≡ 0 → None ≡ due s
unfolding due_to highest
walk_ends s zero e f z = rw (e, f)
walk_ends s (suc n) e f z = absurd (omega arith)

-- ---- a delivery by what the code found

pub deliver_none : (h : ℕ) (v : Vm) (f : Option ℕ) → f ≡ due v.status → f ≡ None → quiet v ≡ deliver h v
unfolding deliver
deliver_none h v f e g = rw (← e, g)

-- the guard: fields that share no number
pub deliver_quietly : (h : ℕ) (v : Vm) → bit_and v.status.pending v.status.enabled ≡ 0 → quiet v ≡ deliver h v
unfolding deliver
deliver_quietly h v e = rw (← due_none v.status e)

pub deliver_at : (h n : ℕ) (v w : Vm) (f : Option ℕ) → f ≡ due v.status → f ≡ Some n → w ≡ interrupt n h v
    → ◌≡◌ {A = Delivery} (record { vm = w; number = Some n }) (deliver h v)
unfolding deliver
deliver_at h n v w f e g i = rw (← e, g, i)
