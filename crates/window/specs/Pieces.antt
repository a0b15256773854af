-- The window, what a Copy asks for, and the memory after its extents are copied (E13, E14, D32, D36).
use Rattle.std.specs.Prelude.{ℕ, ◌+◌, ◌-◌, eqb, leb, length, Bool, List, [], ◌∷◌}
use Rattle.basis.specs.Choice.{both, either}
use Rattle.window.specs.Bytes.{copied}
use Rattle.window.specs.declared.Extent.{Extent}
use Rattle.window.specs.declared.Pieces.{Pieces}
use Rattle.window.specs.declared.Window.{Window}

abbrev pub extent_of : ℕ → ℕ → ℕ → Extent
extent_of source destination n = record { source = source; destination = destination; length = n }

-- what stands past the last extent
abbrev pub no_extent : Extent
no_extent = extent_of 0 0 0

-- E13: all eight, in their order
abbrev pub extents : Pieces → List Extent
extents p = p.extents

-- E14: what the core sees of a memory that is lent with a base address
abbrev pub window_of : ℕ → List ℕ → Window
window_of base m = record { base = base; size = length m }

-- L6: the window of a log, 0x40000000 being 1073741824
abbrev pub log_window : Window
log_window = record { base = 1073741824; size = 16384 }

-- D32: n bytes from an address on lie in the window; these are whole numbers, so no sum wraps
unfoldable pub inside : Window → ℕ → ℕ → Bool
inside w address n = both (leb w.base address) (leb (address + n) (w.base + w.size))

-- D36: a memory from a base address on, with one extent copied
abbrev pub moved : ℕ → Extent → List ℕ → List ℕ
moved base x m = copied (x.source - base) (x.destination - base) x.length m

-- D36: with extents copied in their order, each from the bytes as they stood before it
unfoldable pub copied_all : ℕ → List Extent → List ℕ → List ℕ
copied_all base [] m = m
copied_all base (x ∷ xs) m = copied_all base xs (moved base x m)

-- what the copying asks of an extent: no bytes, or few enough (S10) inside the window
unfoldable pub fits : Window → Extent → Bool
fits w x =
    either (eqb x.length 0)
    (both (leb x.length 256)
    (both (inside w x.source x.length) (inside w x.destination x.length)))
