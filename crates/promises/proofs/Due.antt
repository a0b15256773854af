-- What is due to a VM, in words (D11): the number that the search of the core finds is set in both fields, and none higher is.
use Rattle.std.proofs.Common.{Option, Some, None}
use Prim.Native.Nat.{ℕ}
use mathlib.Core.Bool.{false}
use mathlib.Core.Logic.{inl, inr, ◌⊎◌}
use mathlib.Core.Path.{ap, refl, sym, ◌∙◌, ◌≡◌}
use native.Mathlib.Decide.{dec_lt}
use native.Mathlib.Omega.{arith}
use Rattle.basis.proofs.Laws.{both_left, both_of, both_right, false_true}
use Rattle.basis.specs.Bits.{bit}
use Rattle.basis.specs.Choice.{both}
use Rattle.guest.proofs.Laws.{due_is, due_nothing}
use Rattle.guest.specs.Deliver.{due}
use Rattle.guest.specs.declared.Status.{Status}
use Rattle.promises.specs.Delivering.{Highest, InBoth, NoneDue, Offer}

-- two highest numbers are one
pub highest_one : (o : Offer) (n k : ℕ) → Highest o n → Highest o k → n ≡ k
highest_one o n k a b =
    elim (dec_lt n k) [
      | yes l ↦ absurd (a.top k l b.small b.set)
      | no l ↦ elim (dec_lt k n) [ yes m ↦ absurd (b.top n m a.small a.set) | no m ↦ omega arith ]
    ]

-- a status block that has what the offer says
module _ (o : Offer) (s : Status) (pending : s.pending ≡ o.pending) (enabled : s.enabled ≡ o.enabled) where
  apart : (k : ℕ) → both (bit k s.pending) (bit k s.enabled) ≡ false → InBoth o k → ⊥
  apart k h i = false_true (sym (rw (pending, enabled) at h) ∙ both_of (bit k o.pending) (bit k o.enabled) i.0 i.1)

  none_found : due s ≡ None → NoneDue o
  none_found h k l i = apart k (due_nothing s h k l) i

  pub found_highest : (n : ℕ) → due s ≡ Some n → Highest o n
  found_highest n h =
      let a = due_is s n h in
      let b = rw (pending, enabled) at a.1 in
      record { small = a.0; set = (both_left (bit n o.pending) (bit n o.enabled) b, both_right (bit n o.pending) (bit n o.enabled) b); top = λ k l m i. apart k (a.2 k l m) i }

  pub highest_found : (n : ℕ) → Highest o n → due s ≡ Some n
  highest_found n a = go (due s) refl
    where
      go : (f : Option ℕ) → due s ≡ f → f ≡ Some n
      go None h = absurd (none_found h n a.small a.set)
      go (Some k) h = ap Some (highest_one o k n (found_highest k h) a)

  pub found_none : NoneDue o → due s ≡ None
  found_none a = go (due s) refl
    where
      go : (f : Option ℕ) → due s ≡ f → f ≡ None
      go None h = refl
      go (Some k) h = (let b = found_highest k h in absurd (a k b.small b.set))

  due_cases : NoneDue o ⊎ ((n : ℕ) × Highest o n)
  due_cases = go (due s) refl
    where
      go : (f : Option ℕ) → due s ≡ f → NoneDue o ⊎ ((n : ℕ) × Highest o n)
      go None h = inl (none_found h)
      go (Some k) h = inr (k, found_highest k h)

-- nothing is due, or one number is
pub due_either : (o : Offer) → NoneDue o ⊎ ((n : ℕ) × Highest o n)
due_either o =
    due_cases o (record { since = 0; left = 0; enabled = o.enabled; pending = o.pending; resume = 0; reason = 0; previous = 0; restore = 0; ontick = 0; running = 0 }) refl refl
