-- The ranges of a Copy's extents, and what copying asks of several (D34, D36): the words of the theorems about bytes.
use Rattle.std.specs.Prelude.{ℕ, ◌+◌, ◌-◌, ◌<◌, leb, ltb, get_or, length, Bool, false, true, List, ◌≡◌}
use Rattle.basis.specs.Choice.{both}
use Rattle.window.specs.Pieces.{fits, no_extent, window_of}
use Rattle.window.specs.declared.Extent.{Extent}

-- whether an address lies in the destination of an extent, or in its source; none lies in those of an extent of length 0
abbrev pub in_destination : Extent → ℕ → Bool
in_destination x a = both (leb x.destination a) (ltb a (x.destination + x.length))

abbrev pub in_source : Extent → ℕ → Bool
in_source x a = both (leb x.source a) (ltb a (x.source + x.length))

-- where the byte at place i of a destination comes from, as a place in the memory
abbrev pub source_of : ℕ → Extent → ℕ → ℕ
source_of base x i = x.source - base + (base + i - x.destination)

-- each of some extents fits
abbrev pub all_fit : ℕ → List Extent → List ℕ → Type 0
all_fit base xs m = (k : ℕ) → k < length xs → fits (window_of base m) (get_or xs k no_extent) ≡ true

-- what an extent writes, a later one neither writes nor reads
abbrev pub Spares : Extent → Extent → Type 0
Spares x y = (a : ℕ) → in_destination x a ≡ true → (in_destination y a ≡ false) × (in_source y a ≡ false)

abbrev pub Apart : List Extent → Type 0
Apart xs = (j k : ℕ) → j < k → k < length xs → Spares (get_or xs j no_extent) (get_or xs k no_extent)
