-- The turns of the loops that copy.
use Prim.Native.Nat.{ℕ, ◌+◌, ◌-◌, ◌<◌}
use lib.ListN.{drop, get_or, length, take}
use lib.Seq.{paste-zero, take-add, take-suc}
use mathlib.Core.List.{List, [], ◌++◌, ◌∷◌}
use mathlib.Core.Path.{ap, refl, sym, ◌∙◌, ◌≡◌}
use native.Mathlib.Numerals.{add-one}
use native.Mathlib.Omega.{arith}
use Rattle.std.proofs.lemmas.List.{take-append-drop}
use Rattle.std.specs.List.{copy_within}
use Rattle.window.specs.Bytes.{copied}
use Rattle.window.specs.Pieces.{copied_all, moved, no_extent}
use Rattle.window.specs.declared.Extent.{Extent}

-- bytes copied within the memory
pub moved_is : (base : ℕ) (x : Extent) (m m' : List ℕ) → m' ≡ copy_within m (x.source - base) (x.source - base + x.length) (x.destination - base) → m' ≡ moved base x m
unfolding copied
moved_is base x m m' e = let n : x.source - base + x.length - (x.source - base) ≡ x.length = omega arith in rw n at e

-- no bytes, no change
pub moved_none : (base : ℕ) (x : Extent) (m : List ℕ) → x.length ≡ 0 → m ≡ moved base x m
unfolding copied
moved_none base x m h = rw h (paste-zero m (x.destination - base) (drop (x.source - base) m))

-- onto itself, no change
pub moved_same : (base : ℕ) (x : Extent) (m : List ℕ) → x.source ≡ x.destination → m ≡ moved base x m
unfolding copied
moved_same base x m h =
    let to = x.destination - base in
    let n = x.length in
    rw h (sym (ap (λ (xs : List ℕ). xs ++ drop (to + n) m) (sym (take-add to n m)) ∙ take-append-drop (to + n) m))

-- one extent more is copied
pub copied_append : (base : ℕ) (xs : List Extent) (x : Extent) (m : List ℕ) → copied_all base (xs ++ (x ∷ [])) m ≡ moved base x (copied_all base xs m)
unfolding copied_all
copied_append base [] x m = refl
copied_append base (y ∷ xs) x m = copied_append base xs x (moved base y m)

pub copied_none : (base : ℕ) (xs : List Extent) (m : List ℕ) → m ≡ copied_all base (take 0 xs) m
unfolding copied_all
copied_none base xs m = refl

pub copied_more : (base : ℕ) (xs : List Extent) (k : ℕ) (m₀ m m' : List ℕ) → k < length xs → m ≡ copied_all base (take k xs) m₀
    → m' ≡ moved base (get_or xs k no_extent) m → m' ≡ copied_all base (take (k + 1) xs) m₀
copied_more base xs k m₀ m m' h e g =
    g
    ∙ ap (moved base (get_or xs k no_extent)) e
    ∙ sym (copied_append base (take k xs) (get_or xs k no_extent) m₀)
    ∙ ap (λ (l : List Extent). copied_all base l m₀) (sym (rw add-one (take-suc xs k no_extent h)))
