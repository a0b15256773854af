-- What a copy means, byte by byte (D36), and that a memory of zeros stays one.
use Prim.Native.Nat.{suc, zero, ℕ, ◌+◌, ◌-◌, ◌<◌, ◌≤◌}
use borrow.Author.Tests.{le-leb, le-ltb, leb-true, lt-leb, lt-ltb, ltb-true}
use lib.Dec.{leb, ltb}
use lib.ListN.{get_or-append, drop, get_or, length, length-append, length-drop, length-replicate, length-take, replicate, take}
use lib.Seq.{ext_get_or, get_or-append-add, get_or-drop, get_or-take, length-paste}
use mathlib.Core.Bool.{Bool, false, true}
use mathlib.Core.List.{List, [], ◌++◌, ◌∷◌}
use mathlib.Core.Logic.{◌≢◌}
use mathlib.Core.Path.{ap, refl, sym, ◌∙◌, ◌≡◌}
use native.Mathlib.Decide.{dec_le, dec_lt, ℕ_discrete}
use native.Mathlib.Omega.{arith}
use Rattle.basis.proofs.Laws.{both_left, both_right, false_true}
use Rattle.basis.specs.Choice.{pick}
use Rattle.window.proofs.Inside.{fits_bounds}
use Rattle.window.proofs.Laws.{copied_append, moved_none}
use Rattle.window.specs.Bytes.{copied}
use Rattle.window.specs.Pieces.{copied_all, fits, moved, no_extent, window_of}
use Rattle.window.specs.Ranges.{Apart, all_fit, in_destination, in_source, source_of}
use Rattle.window.specs.declared.Extent.{Extent}

-- an element of two lists one behind the other
join_at : (a b : List ℕ) (n i : ℕ) → length a ≡ n → get_or (a ++ b) i 0 ≡ pick (ltb i n) (get_or a i 0) (get_or b (i - n) 0)
join_at a b n i e =
    elim (dec_lt i n) [
      | yes h ↦ rw (lt-ltb i n h) (get_or-append a b 0 i (omega arith))
      | no h ↦ (let g : n ≤ i = omega arith in
          rw (le-ltb i n g) (ap (λ (k : ℕ). get_or (a ++ b) k 0) (omega arith) ∙ get_or-append-add a b (i - n) 0))
    ]

module _ (from to n : ℕ) (m : List ℕ) (h : from + n ≤ length m) (g : to + n ≤ length m) where
  front : length (take to m ++ take n (drop from m)) ≡ to + n
  front =
      length-append (take to m) (take n (drop from m))
      ∙ (let a = length-take to m in let b = length-take n (drop from m) in let c = length-drop from m in omega arith)

  -- the byte at a place: of the part before, of the part that was copied, or of the part behind
  parts : (i : ℕ) → get_or (copied from to n m) i 0
      ≡ pick (ltb i (to + n)) (pick (ltb i to) (get_or (take to m) i 0) (get_or (take n (drop from m)) (i - to) 0)) (get_or (drop (to + n) m) (i - (to + n)) 0)
  unfolding copied
  parts i =
      join_at (take to m ++ take n (drop from m)) (drop (to + n) m) (to + n) i front
      ∙ ap (λ (b : ℕ). pick (ltb i (to + n)) b (get_or (drop (to + n) m) (i - (to + n)) 0)) (join_at (take to m) (take n (drop from m)) to i (let t = length-take to m in omega arith))

  -- D36: the bytes from `to` on are those that stood from `from` on
  pub copied_in : (i : ℕ) → to ≤ i → i < to + n → get_or (copied from to n m) i 0 ≡ get_or m (from + (i - to)) 0
  copied_in i a b =
      parts i ∙ rw (lt-ltb i (to + n) b, le-ltb i to a) (get_or-take n (drop from m) (i - to) 0 (omega arith) ∙ get_or-drop from m (i - to) 0)

  -- the bytes below are as they were
  pub copied_below : (i : ℕ) → i < to → get_or (copied from to n m) i 0 ≡ get_or m i 0
  copied_below i a = parts i ∙ rw (lt-ltb i (to + n) (omega arith), lt-ltb i to a) (get_or-take to m i 0 a)

  -- the bytes from the end on are as they were
  pub copied_above : (i : ℕ) → to + n ≤ i → get_or (copied from to n m) i 0 ≡ get_or m i 0
  copied_above i a =
      parts i ∙ rw (le-ltb i (to + n) a) (get_or-drop (to + n) m (i - (to + n)) 0 ∙ ap (λ (k : ℕ). get_or m k 0) (omega arith))

  -- and there are as many
  pub copied_long : length (copied from to n m) ≡ length m
  unfolding copied
  copied_long = length-paste m to (drop from m) n g (let c = length-drop from m in omega arith)

module _ (base : ℕ) (x : Extent) (m : List ℕ) (f : fits (window_of base m) x ≡ true) where
  -- where it has bytes, its two ranges are places of the memory
  places : x.length ≢ 0 → (base ≤ x.destination) × (x.source - base + x.length ≤ length m) × (x.destination - base + x.length ≤ length m)
  places e = let b = fits_bounds (window_of base m) x f e in (b.to, omega (arith, b.from, b.from_end), omega (arith, b.to, b.to_end))

  -- a copy keeps the length of the memory
  pub moved_long : length (moved base x m) ≡ length m
  moved_long =
      elim (ℕ_discrete x.length 0) [
        | yes e ↦ ap (λ (l : List ℕ). length l) (sym (moved_none base x m e))
        | no e ↦ (let p = places e in copied_long (x.source - base) (x.destination - base) x.length m p.1 p.2)
      ]

  moved_in : (i : ℕ) → x.destination ≤ base + i → base + i < x.destination + x.length → get_or (moved base x m) i 0 ≡ get_or m (source_of base x i) 0
  moved_in i h g =
      let p = places (omega arith) in
      copied_in (x.source - base) (x.destination - base) x.length m p.1 p.2 i (omega arith) (omega (arith, p.0))
      ∙ ap (λ (k : ℕ). get_or m k 0) (omega (arith, p.0))

  moved_below : (i : ℕ) → base + i < x.destination → get_or (moved base x m) i 0 ≡ get_or m i 0
  moved_below i h =
      elim (ℕ_discrete x.length 0) [
        | yes e ↦ ap (λ (l : List ℕ). get_or l i 0) (sym (moved_none base x m e))
        | no e ↦ (let p = places e in copied_below (x.source - base) (x.destination - base) x.length m p.1 p.2 i (omega arith))
      ]

  moved_above : (i : ℕ) → x.destination + x.length ≤ base + i → get_or (moved base x m) i 0 ≡ get_or m i 0
  moved_above i h =
      elim (ℕ_discrete x.length 0) [
        | yes e ↦ ap (λ (l : List ℕ). get_or l i 0) (sym (moved_none base x m e))
        | no e ↦ (let p = places e in copied_above (x.source - base) (x.destination - base) x.length m p.1 p.2 i (omega (arith, p.0)))
      ]

  -- D36: in the destination the source's bytes as they stood, elsewhere the bytes as before
  pub moved_at : (i : ℕ) → get_or (moved base x m) i 0 ≡ pick (in_destination x (base + i)) (get_or m (source_of base x i) 0) (get_or m i 0)
  moved_at i =
      elim (dec_le x.destination (base + i)) [
        | yes h ↦ rw (le-leb x.destination (base + i) h) (elim (dec_lt (base + i) (x.destination + x.length)) [
          | yes g ↦ rw (lt-ltb (base + i) (x.destination + x.length) g) (moved_in i h g)
          | no g ↦ (let a : x.destination + x.length ≤ base + i = omega arith in
              rw (le-ltb (base + i) (x.destination + x.length) a) (moved_above i a))
        ])
        | no h ↦ (let b : base + i < x.destination = omega arith in rw (lt-leb x.destination (base + i) b) (moved_below i b))
      ]

-- what fits a memory fits it after a copy
rest_fits : (base : ℕ) (x : Extent) (xs : List Extent) (m : List ℕ) → all_fit base (x ∷ xs) m → all_fit base xs (moved base x m)
rest_fits base x xs m f k h = rw (moved_long base x m (f zero (omega arith))) (f (suc k) (omega arith))

-- D36: copies in their order keep the length of the memory
pub copied_all_long : (base : ℕ) (xs : List Extent) (m : List ℕ) → all_fit base xs m → length (copied_all base xs m) ≡ length m
unfolding copied_all
copied_all_long base [] m f = refl
copied_all_long base (x ∷ xs) m f = copied_all_long base xs (moved base x m) (rest_fits base x xs m f) ∙ moved_long base x m (f zero (omega arith))

-- D36: a byte that lies in no destination is as before
pub copied_all_else : (base : ℕ) (xs : List Extent) (m : List ℕ) (i : ℕ) → all_fit base xs m
    → ((k : ℕ) → k < length xs → in_destination (get_or xs k no_extent) (base + i) ≡ false) → get_or (copied_all base xs m) i 0 ≡ get_or m i 0
unfolding copied_all
copied_all_else base [] m i f g = refl
copied_all_else base (x ∷ xs) m i f g =
    copied_all_else base xs (moved base x m) i (rest_fits base x xs m f) (λ k h. g (suc k) (omega arith))
    ∙ moved_at base x m (f zero (omega arith)) i
    ∙ rw (g zero (omega arith))

-- D36: the bytes of the last destination are those of its source as they stood after the extents before it
pub copied_all_last : (base : ℕ) (xs : List Extent) (x : Extent) (m : List ℕ) (i : ℕ) → all_fit base xs m → fits (window_of base m) x ≡ true
    → in_destination x (base + i) ≡ true → get_or (copied_all base (xs ++ (x ∷ [])) m) i 0 ≡ get_or (copied_all base xs m) (source_of base x i) 0
copied_all_last base xs x m i f g h =
    ap (λ (l : List ℕ). get_or l i 0) (copied_append base xs x m)
    ∙ moved_at base x (copied_all base xs m) (rw (copied_all_long base xs m f) g) i
    ∙ rw h

-- the byte from which one of a destination comes lies in the source
source_in : (base : ℕ) (y : Extent) (m : List ℕ) (i : ℕ) → fits (window_of base m) y ≡ true → in_destination y (base + i) ≡ true → in_source y (base + source_of base y i) ≡ true
source_in base y m i f h =
    let low = leb-true y.destination (base + i) (both_left (leb y.destination (base + i)) _ h) in
    let high = ltb-true (base + i) (y.destination + y.length) (both_right (leb y.destination (base + i)) _ h) in
    let b = fits_bounds (window_of base m) y f (omega arith) in
    rw (le-leb y.source (base + source_of base y i) (omega (arith, b.from)), lt-ltb (base + source_of base y i) (y.source + y.length) (omega (arith, b.from)))

-- D36: where no extent touches what a later one reads or writes, each destination holds the bytes that its source held before all of them
pub copied_each : (base : ℕ) (xs : List Extent) (m : List ℕ) → all_fit base xs m → Apart xs → (k i : ℕ) → k < length xs
    → in_destination (get_or xs k no_extent) (base + i) ≡ true → get_or (copied_all base xs m) i 0 ≡ get_or m (source_of base (get_or xs k no_extent) i) 0
unfolding copied_all
copied_each base [] m f a k i h d = absurd (omega arith)
copied_each base (x ∷ xs) m f a zero i h d =
    copied_all_else base xs (moved base x m) i (rest_fits base x xs m f) (λ j l. (a zero (suc j) (omega arith) (omega arith) (base + i) d).0)
    ∙ moved_at base x m (f zero (omega arith)) i
    ∙ rw d
copied_each base (x ∷ xs) m f a (suc k) i h d =
    copied_each base xs (moved base x m) (rest_fits base x xs m f) (λ j l u v. a (suc j) (suc l) (omega arith) (omega arith)) k i (omega arith) d
    ∙ moved_at base x m (f zero (omega arith)) (source_of base (get_or xs k no_extent) i)
    ∙ rw (clear (in_destination x (base + source_of base (get_or xs k no_extent) i)) refl)
  where
    from : in_source (get_or xs k no_extent) (base + source_of base (get_or xs k no_extent) i) ≡ true
    from = source_in base (get_or xs k no_extent) m i (f (suc k) h) d

    clear : (b : Bool) → in_destination x (base + source_of base (get_or xs k no_extent) i) ≡ b → in_destination x (base + source_of base (get_or xs k no_extent) i) ≡ false
    clear true e = false_true (sym (a zero (suc k) (omega arith) h (base + source_of base (get_or xs k no_extent) i) e).1 ∙ from)
    clear false e = e

-- every byte of zeros, and behind them, is 0
zeros_at : (k i : ℕ) → ◌≡◌ {A = ℕ} (get_or (replicate k 0) i 0) 0
zeros_at zero i = refl
zeros_at (suc k) zero = refl
zeros_at (suc k) (suc i) = zeros_at k i

-- bytes copied within zeros leave zeros
pub zeros_copied : (from to n k : ℕ) → from + n ≤ k → to + n ≤ k → copied from to n (replicate k 0) ≡ replicate k 0
zeros_copied from to n k h g =
    let z : ℕ = 0 in
    let l : length (replicate k z) ≡ k = length-replicate k z in
    let h' : from + n ≤ length (replicate k z) = omega arith in
    let g' : to + n ≤ length (replicate k z) = omega arith in
    ext_get_or 0 (copied from to n (replicate k 0)) (replicate k 0) (copied_long from to n (replicate k 0) h' g')
    (λ i j. elim (dec_lt i to) [
      | yes a ↦ copied_below from to n (replicate k 0) h' g' i a
      | no a ↦ elim (dec_lt i (to + n)) [
        | yes b ↦ copied_in from to n (replicate k 0) h' g' i (omega arith) b ∙ zeros_at k (from + (i - to)) ∙ sym (zeros_at k i)
        | no b ↦ copied_above from to n (replicate k 0) h' g' i (omega arith)
      ]
    ])

zeros_moved : (base : ℕ) (x : Extent) (k : ℕ) → fits (window_of base (replicate k 0)) x ≡ true → moved base x (replicate k 0) ≡ replicate k 0
zeros_moved base x k f =
    elim (ℕ_discrete x.length 0) [
      | yes e ↦ sym (moved_none base x (replicate k 0) e)
      | no e ↦ (let z : ℕ = 0 in let l = length-replicate k z in let b = fits_bounds (window_of base (replicate k 0)) x f e in
          zeros_copied (x.source - base) (x.destination - base) x.length k (omega (arith, l, b.from, b.from_end)) (omega (arith, l, b.to, b.to_end)))
    ]

-- L6: a log begins with zeros, and no Copy makes anything else of them
pub zeros_all : (base : ℕ) (xs : List Extent) (k : ℕ) → all_fit base xs (replicate k 0) → copied_all base xs (replicate k 0) ≡ replicate k 0
unfolding copied_all
zeros_all base [] k f = refl
zeros_all base (x ∷ xs) k f =
    let e = zeros_moved base x k (f zero (omega arith)) in
    rw e (zeros_all base xs k (λ j h. f (suc j) (omega arith)))
