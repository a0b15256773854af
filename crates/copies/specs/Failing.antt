-- What fails in a Copy (D33, D34), with the code and the data that A5 gives it.
use Rattle.std.specs.Prelude.{ℕ, eqb, leb, ltb, take, Bool, List, None, Option, Some, [], ◌∷◌}
use Rattle.basis.specs.Choice.{both, pick}
use Rattle.copies.specs.declared.Failure.{Failure}
use Rattle.grants.specs.Access.{allowed}
use Rattle.regions.specs.declared.Regions.{Regions}
use Rattle.window.specs.Pieces.{extents, inside}
use Rattle.window.specs.declared.Extent.{Extent}
use Rattle.window.specs.declared.Pieces.{Pieces}
use Rattle.window.specs.declared.Window.{Window}

abbrev pub failed : ℕ → ℕ → Failure
failed code detail = record { code = code; detail = detail }

abbrev pub fine : Failure
fine = failed 0 0

-- the same as the code has it: none in place of code 0; and as it is told
abbrev pub failing : Failure → Option Failure
failing f = pick (eqb f.code 0) None (Some f)

abbrev pub told : Option Failure → Failure
told None = fine
told (Some f) = f

-- H8 to H10: the access query of VM v in a configuration with these regions, which is legal and has that VM
abbrev pub may : Regions → ℕ → ℕ → ℕ → ℕ → Bool
may r v address length way = both (leb r.count 64) (allowed r v address length way)

-- D34: what fails in one extent, where `query` is the access query of the VM that copies (1 to read, 2 to write)
unfoldable pub extent_failure : (ℕ → ℕ → ℕ → Bool) → Window → Extent → Failure
extent_failure query w x =
    pick (eqb x.length 0) fine
    (pick (ltb 256 x.length) (failed 7 x.length)
    (pick (both (query x.source x.length 1) (inside w x.source x.length))
    (pick (both (query x.destination x.length 2) (inside w x.destination x.length)) fine (failed 3 x.destination))
    (failed 3 x.source)))

-- the first failure of two
abbrev pub or_else : Failure → Failure → Failure
or_else a b = pick (eqb a.code 0) b a

-- D34: the first failure of some extents, in their order
unfoldable pub first_failure : (Extent → Failure) → List Extent → Failure
first_failure f [] = fine
first_failure f (x ∷ xs) = or_else (f x) (first_failure f xs)

-- D33, D34: what fails in a Copy; extents past the count are not looked at
unfoldable pub copy_failure : (ℕ → ℕ → ℕ → Bool) → Window → Pieces → Failure
copy_failure query w p = pick (ltb 8 p.count) (failed 6 p.count) (first_failure (extent_failure query w) (take p.count (extents p)))
