-- What fails in an extent, and in extents one after the other, in the forms that the proofs of the code ask for.
use Prim.Native.Nat.{suc, zero, ℕ, ◌+◌, ◌<◌, ◌≤◌}
use borrow.Author.Tests.{eq-eqb, eqb-true, le-leb, le-ltb, lt-ltb, ltb-false, ne_eqb}
use lib.Dec.{eqb, leb, ltb}
use lib.ListN.{get_or, length, take}
use lib.Seq.{take-suc}
use mathlib.Core.Bool.{Bool, false, not, true}
use mathlib.Core.List.{List, [], ◌++◌, ◌∷◌}
use mathlib.Core.Logic.{inl, inr, ◌≢◌, ◌⊎◌}
use mathlib.Core.Path.{ap, refl, sym, ◌∙◌, ◌≡◌}
use native.Mathlib.Numerals.{add-one}
use native.Mathlib.Omega.{arith}
use Rattle.basis.proofs.Laws.{false_true, pick_case}
use Rattle.basis.specs.Choice.{both, either, pick}
use Rattle.copies.specs.Failing.{extent_failure, failed, failing, fine, first_failure, or_else}
use Rattle.copies.specs.declared.Failure.{Failure}
use Rattle.window.specs.Pieces.{fits, inside, no_extent}
use Rattle.window.specs.declared.Extent.{Extent}
use Rattle.window.specs.declared.Window.{Window}
use Rattle.std.specs.Option.{is_some}
use Rattle.std.specs.Prelude.{None, Option, Some}

-- the way of the code through one extent
module _ (query : ℕ → ℕ → ℕ → Bool) (w : Window) (x : Extent) where
  pub extent_none : x.length ≡ 0 → None ≡ failing (extent_failure query w x)
  unfolding extent_failure
  extent_none h = rw (eq-eqb x.length 0 h)

  pub extent_long : x.length ≢ 0 → 256 < x.length → Some (failed 7 x.length) ≡ failing (extent_failure query w x)
  unfolding extent_failure
  extent_long h g = rw (ne_eqb x.length 0 h, lt-ltb 256 x.length g)

  module _ (b : Bool) (h : x.length ≢ 0) (g : x.length ≤ 256) (s : b ≡ both (query x.source x.length 1) (inside w x.source x.length)) where
    pub extent_source : b ≡ false → Some (failed 3 x.source) ≡ failing (extent_failure query w x)
    unfolding extent_failure
    extent_source t = rw (ne_eqb x.length 0 h, le-ltb 256 x.length g, ← s, t)

    module _ (d : Bool) (u : d ≡ both (query x.destination x.length 2) (inside w x.destination x.length)) (t : b ≡ true) where
      pub extent_destination : d ≡ false → Some (failed 3 x.destination) ≡ failing (extent_failure query w x)
      unfolding extent_failure
      extent_destination i = rw (ne_eqb x.length 0 h, le-ltb 256 x.length g, ← s, t, ← u, i)

      pub extent_good : d ≡ true → None ≡ failing (extent_failure query w x)
      unfolding extent_failure
      extent_good i = rw (ne_eqb x.length 0 h, le-ltb 256 x.length g, ← s, t, ← u, i)

-- whether the code finds a failure
found : (f : Failure) (b : Bool) → b ≡ is_some (failing f) → eqb f.code 0 ≡ not b
found f b e = go (eqb f.code 0) refl
  where
    go : (t : Bool) → eqb f.code 0 ≡ t → eqb f.code 0 ≡ not b
    go true h = let i : b ≡ false = rw h at e in h ∙ ap not (sym i)
    go false h = let i : b ≡ true = rw h at e in h ∙ ap not (sym i)

-- an extent in which nothing fails can be copied
pub fine_fits : (query : ℕ → ℕ → ℕ → Bool) (w : Window) (x : Extent) → (extent_failure query w x).code ≡ 0 → fits w x ≡ true
unfolding extent_failure fits
fine_fits query w x e =
    go (eqb x.length 0) (ltb 256 x.length) refl
    (query x.source x.length 1) (inside w x.source x.length)
    (query x.destination x.length 2) (inside w x.destination x.length) e
  where
    go : (b c : Bool) → ltb 256 x.length ≡ c → (m s d t : Bool)
        → (pick b fine (pick c (failed 7 x.length) (pick (both m s) (pick (both d t) fine (failed 3 x.destination)) (failed 3 x.source)))).code ≡ 0
        → either b (both (leb x.length 256) (both s t)) ≡ true
    go true c i m s d t e = refl
    go false true i m s d t e = absurd (omega arith)
    go false false i true true true true e = rw (le-leb x.length 256 (ltb-false 256 x.length i))
    go false false i true true true false e = absurd (omega arith)
    go false false i true true false t e = absurd (omega arith)
    go false false i true false d t e = absurd (omega arith)
    go false false i false s d t e = absurd (omega arith)

-- code 0 has no data
pub extent_clean : (query : ℕ → ℕ → ℕ → Bool) (w : Window) (x : Extent) → (extent_failure query w x).code ≡ 0 → extent_failure query w x ≡ fine
unfolding extent_failure
extent_clean query w x e =
    go (eqb x.length 0) (ltb 256 x.length)
    (both (query x.source x.length 1) (inside w x.source x.length))
    (both (query x.destination x.length 2) (inside w x.destination x.length)) e
  where
    go : (b c s t : Bool)
        → (pick b fine (pick c (failed 7 x.length) (pick s (pick t fine (failed 3 x.destination)) (failed 3 x.source)))).code ≡ 0
        → pick b fine (pick c (failed 7 x.length) (pick s (pick t fine (failed 3 x.destination)) (failed 3 x.source))) ≡ fine
    go true c s t e = refl
    go false true s t e = absurd (omega arith)
    go false false true true e = refl
    go false false true false e = absurd (omega arith)
    go false false false t e = absurd (omega arith)

-- the extents in their order
module _ (f : Extent → Failure) (clean : (x : Extent) → (f x).code ≡ 0 → f x ≡ fine) where
  -- one extent more
  first_append : (l : List Extent) (x : Extent) → first_failure f (l ++ (x ∷ [])) ≡ or_else (first_failure f l) (f x)
  unfolding first_failure
  first_append [] x = by (eqb (f x).code 0) refl
    where
      by : (b : Bool) → eqb (f x).code 0 ≡ b → pick b fine (f x) ≡ f x
      by true e = sym (clean x (eqb-true (f x).code 0 e))
      by false e = refl
  first_append (y ∷ l) x = by (eqb (f y).code 0) refl (first_append l x)
    where
      by : (b : Bool) → eqb (f y).code 0 ≡ b → first_failure f (l ++ (x ∷ [])) ≡ or_else (first_failure f l) (f x)
          → pick b (first_failure f (l ++ (x ∷ []))) (f y) ≡ or_else (pick b (first_failure f l) (f y)) (f x)
      by true e h = h
      by false e h = rw e

  -- a walk through the first extents: nothing fails in them
  pub first_none : (xs : List Extent) → first_failure f (take 0 xs) ≡ fine
  unfolding first_failure
  first_none xs = refl

  pub first_pass : (xs : List Extent) (k : ℕ) (y : Option Failure) (b : Bool) → k < length xs → first_failure f (take k xs) ≡ fine → y ≡ failing (f (get_or xs k no_extent))
      → b ≡ is_some y → b ≡ false → first_failure f (take (k + 1) xs) ≡ fine
  first_pass xs k y b h e g i j =
      let t = rw g at i in
      let z : f (get_or xs k no_extent) ≡ fine = clean (get_or xs k no_extent) (eqb-true (f (get_or xs k no_extent)).code 0 (found (f (get_or xs k no_extent)) b t ∙ ap not j)) in
      ap (first_failure f) (rw add-one (take-suc xs k no_extent h)) ∙ first_append (take k xs) (get_or xs k no_extent) ∙ rw (e, z)

  -- or something does in the next one
  first_here : (xs : List Extent) (n k : ℕ) → k < n → k < length xs → first_failure f (take k xs) ≡ fine → eqb (f (get_or xs k no_extent)).code 0 ≡ false
      → f (get_or xs k no_extent) ≡ first_failure f (take n xs)
  unfolding first_failure
  first_here [] n k h l e g = absurd (omega arith)
  first_here (x ∷ xs) zero k h l e g = absurd (omega arith)
  first_here (x ∷ xs) (suc n) zero h l e g = rw g
  first_here (x ∷ xs) (suc n) (suc k) h l e g = by (eqb (f x).code 0) refl e (first_here xs n k (omega arith) (omega arith))
    where
      by : (b : Bool) → eqb (f x).code 0 ≡ b → pick b (first_failure f (take k xs)) (f x) ≡ fine
          → (first_failure f (take k xs) ≡ fine → eqb (f (get_or xs k no_extent)).code 0 ≡ false → f (get_or xs k no_extent) ≡ first_failure f (take n xs))
          → f (get_or xs k no_extent) ≡ pick b (first_failure f (take n xs)) (f x)
      by true i e r = r e g
      by false i e r = false_true (sym i ∙ ap (λ (q : Failure). eqb q.code 0) e)

  pub first_hit : (xs : List Extent) (n k : ℕ) (y : Option Failure) (b : Bool) → k < n → k < length xs → first_failure f (take k xs) ≡ fine → y ≡ failing (f (get_or xs k no_extent))
      → b ≡ is_some y → b ≡ true → y ≡ failing (first_failure f (take n xs))
  first_hit xs n k y b h l e g i j =
      let t = rw g at i in
      g ∙ ap failing (first_here xs n k h l e (found (f (get_or xs k no_extent)) b t ∙ ap not j))

  pub first_end : (xs : List Extent) (n k : ℕ) → first_failure f (take k xs) ≡ fine → k ≡ n → None ≡ failing (first_failure f (take n xs))
  first_end xs n k e g = rw (← g, e)

  -- where none fails, each is fine
  pub first_each : (xs : List Extent) (n k : ℕ) → (first_failure f (take n xs)).code ≡ 0 → k < n → k < length xs → (f (get_or xs k no_extent)).code ≡ 0
  unfolding first_failure
  first_each [] n k e h i = absurd (omega arith)
  first_each (x ∷ xs) zero k e h i = absurd (omega arith)
  first_each (x ∷ xs) (suc n) k e h i = by (eqb (f x).code 0) refl (λ k. first_each xs n k) e k h i
    where
      by : (b : Bool) → eqb (f x).code 0 ≡ b → ((k : ℕ) → (first_failure f (take n xs)).code ≡ 0 → k < n → k < length xs → (f (get_or xs k no_extent)).code ≡ 0)
          → (pick b (first_failure f (take n xs)) (f x)).code ≡ 0 → (k : ℕ) → k < suc n → k < suc (length xs) → (f (get_or (x ∷ xs) k no_extent)).code ≡ 0
      by true g r e zero h i = eqb-true (f x).code 0 g
      by true g r e (suc k) h i = r k e (omega arith) (omega arith)
      by false g r e k h i = false_true (sym g ∙ eq-eqb (f x).code 0 e)

-- what holds of no failure and of the failure of each extent holds of the first
pub first_holds : (P : Failure → Type 0) (f : Extent → Failure) → P fine → ((x : Extent) → P (f x)) → (xs : List Extent) → P (first_failure f xs)
unfolding first_failure
first_holds P f p q [] = p
first_holds P f p q (x ∷ xs) = pick_case P (eqb (f x).code 0) (first_failure f xs) (f x) (λ e. first_holds P f p q xs) (λ e. q x)

-- what judges each extent alike tells the same first failure
pub first_same : (f g : Extent → Failure) → ((x : Extent) → f x ≡ g x) → (xs : List Extent) → first_failure f xs ≡ first_failure g xs
unfolding first_failure
first_same f g e [] = refl
first_same f g e (x ∷ xs) = rw (e x, first_same f g e xs)

-- an extent is judged by what its VM may read and write
pub extent_same : (f g : ℕ → ℕ → ℕ → Bool) → ((a n : ℕ) → f a n 1 ≡ g a n 1) → ((a n : ℕ) → f a n 2 ≡ g a n 2) → (w : Window) (x : Extent)
    → extent_failure f w x ≡ extent_failure g w x
unfolding extent_failure
extent_same f g r s w x = rw (r x.source x.length, s x.destination x.length)

-- A5: the codes of a Copy, no failure with them
abbrev pub Known : Failure → Type 0
Known r = (r.code ≡ 0) ⊎ ((r.code ≡ 3) ⊎ ((r.code ≡ 6) ⊎ (r.code ≡ 7)))

pub extent_known : (query : ℕ → ℕ → ℕ → Bool) (w : Window) (x : Extent) → Known (extent_failure query w x)
unfolding extent_failure
extent_known query w x =
    pick_case Known (eqb x.length 0) _ _ (λ e. inl refl)
    (λ e. pick_case Known (ltb 256 x.length) _ _ (λ e. inr (inr (inr refl)))
    (λ e. pick_case Known (both (query x.source x.length 1) (inside w x.source x.length)) _ _
    (λ e. pick_case Known (both (query x.destination x.length 2) (inside w x.destination x.length)) _ _ (λ e. inl refl) (λ e. inr (inl refl)))
    (λ e. inr (inl refl))))
