-- What fails in a Copy, and what holds where nothing fails.
use Prim.Native.Nat.{ℕ, ◌<◌, ◌≤◌}
use borrow.Author.Tests.{eqb-true, le-ltb, lt-ltb}
use lib.Dec.{eqb, ltb}
use lib.ListN.{get_or, length, take}
use mathlib.Core.Bool.{Bool, false, true}
use mathlib.Core.List.{List}
use mathlib.Core.Logic.{inl, inr, ⊎_elim}
use mathlib.Core.Path.{refl, sym, ◌∙◌, ◌≡◌}
use native.Mathlib.Decide.{dec_lt}
use native.Mathlib.Omega.{arith}
use Rattle.basis.proofs.Laws.{pick_case}
use Rattle.std.proofs.lemmas.List.{get_or_past}
use Rattle.copies.proofs.Failing.{Known, extent_clean, extent_known, extent_same, fine_fits, first_each, first_holds, first_same}
use Rattle.copies.specs.Failing.{copy_failure, extent_failure, failed, failing, fine, first_failure, told}
use Rattle.copies.specs.declared.Failure.{Failure}
use Rattle.window.specs.Pieces.{extents, fits, no_extent}
use Rattle.window.specs.declared.Extent.{Extent}
use Rattle.window.specs.declared.Pieces.{Pieces}
use Rattle.window.specs.declared.Window.{Window}
use Rattle.std.specs.Prelude.{Option, Some}

module _ (query : ℕ → ℕ → ℕ → Bool) (w : Window) (p : Pieces) where
  -- the two ways of the code
  pub request_long : (n : ℕ) → 8 < p.count → n ≡ p.count → Some (failed 6 n) ≡ failing (copy_failure query w p)
  unfolding copy_failure
  request_long n h e = rw (lt-ltb 8 p.count h, e)

  pub request_is : (xs : List Extent) (r : Option Failure) → p.count ≤ 8 → xs ≡ extents p → r ≡ failing (first_failure (extent_failure query w) (take p.count xs))
      → r ≡ failing (copy_failure query w p)
  unfolding copy_failure
  request_is xs r h e f = rw (le-ltb 8 p.count h, ← e) f

  -- past the last extent stands none, and it fits
  each_fits : (k : ℕ) → (k < length (extents p) → fits w (get_or (extents p) k no_extent) ≡ true) → fits w (get_or (extents p) k no_extent) ≡ true
  unfolding fits
  each_fits k f =
      elim (dec_lt k (length (extents p))) [
        | yes l ↦ f l
        | no l ↦ rw (get_or_past (extents p) k no_extent (omega arith))
      ]

  -- where nothing fails, each extent can be copied
  pub request_fits : (copy_failure query w p).code ≡ 0 → (p.count ≤ 8) × ((k : ℕ) → k < p.count → fits w (get_or (extents p) k no_extent) ≡ true)
  unfolding copy_failure
  request_fits e =
      elim (dec_lt 8 p.count) [
        | yes h ↦ (let z = rw (lt-ltb 8 p.count h) at e in absurd (omega (arith, z)))
        | no h ↦ (let n : p.count ≤ 8 = omega arith in
            let f = first_each (extent_failure query w) (extent_clean query w) (extents p) p.count in
            (n, λ k i. each_fits k (λ l. fine_fits query w (get_or (extents p) k no_extent) (f k (rw (le-ltb 8 p.count n) at e) i l))))
      ]

  -- code 0 has no data
  pub clean : (copy_failure query w p).code ≡ 0 → copy_failure query w p ≡ fine
  unfolding copy_failure
  clean =
      pick_case (λ (r : Failure). r.code ≡ 0 → r ≡ fine) (ltb 8 p.count) _ _ (λ h e. absurd (omega arith))
      (λ h. first_holds (λ (r : Failure). r.code ≡ 0 → r ≡ fine) (extent_failure query w) (λ e. refl) (extent_clean query w) (take p.count (extents p)))

  -- what is told of the failure that the code finds is the failure
  pub request_told : (o : Option Failure) (f : Failure) → o ≡ failing (copy_failure query w p) → f ≡ told o → f ≡ copy_failure query w p
  request_told o f e g = g ∙ go (eqb (copy_failure query w p).code 0) refl
    where
      go : (b : Bool) → eqb (copy_failure query w p).code 0 ≡ b → told o ≡ copy_failure query w p
      go true h = rw (e, h) (sym (clean (eqb-true (copy_failure query w p).code 0 h)))
      go false h = rw (e, h)

  -- A5: the code is 0, 3, 6 or 7
  pub failure_known : Known (copy_failure query w p)
  unfolding copy_failure
  failure_known =
      pick_case Known (ltb 8 p.count) _ _ (λ h. inr (inr (inl refl)))
      (λ h. first_holds Known (extent_failure query w) (inl refl) (extent_known query w) (take p.count (extents p)))

  -- so it is a byte
  pub failure_code : (copy_failure query w p).code < 256
  failure_code = ⊎_elim (λ e. omega arith) (⊎_elim (λ e. omega arith) (⊎_elim (λ e. omega arith) (λ e. omega arith))) failure_known

-- two queries that agree on reading and on writing give the same failure
pub failure_same : (f g : ℕ → ℕ → ℕ → Bool) → ((a n : ℕ) → f a n 1 ≡ g a n 1) → ((a n : ℕ) → f a n 2 ≡ g a n 2) → (w : Window) (p : Pieces)
    → copy_failure f w p ≡ copy_failure g w p
unfolding copy_failure
failure_same f g r s w p = rw (first_same (extent_failure f w) (extent_failure g w) (extent_same f g r s w) (take p.count (extents p)))
