-- Regions one after the other, as an image lists them: a new region beside those before it, and the list with it.
use Rattle.std.specs.Prelude.{ℕ, ◌+◌, eqb, ltb, set, Bool, not}
use Rattle.basis.specs.Choice.{both, either}
use Rattle.basis.specs.Count.{every}
use Rattle.regions.specs.Rules.{alike, apart, holder_at, last_at, listed, may_write, permission_at, start_at}
use Rattle.regions.specs.declared.Regions.{Regions}

-- two ranges that are apart, or the same
abbrev pub clear : ℕ → ℕ → ℕ → ℕ → Bool
clear start last start' last' = either (apart start last start' last') (both (eqb start start') (eqb last last'))

-- the second range is behind the first, or the same
abbrev pub follows : ℕ → ℕ → ℕ → ℕ → Bool
follows start last start' last' = either (ltb last start') (both (eqb start start') (eqb last last'))

-- H6: a new region beside an earlier one; either may be the one that may be written
abbrev pub agrees : ℕ → ℕ → ℕ → ℕ → ℕ → ℕ → ℕ → ℕ → Bool
agrees permission holder start last permission' holder' start' last' =
    either (both (not (may_write permission)) (not (may_write permission'))) (alike holder start last holder' start' last')

-- H6: beside all of them
unfoldable pub agrees_all : Regions → ℕ → ℕ → ℕ → ℕ → Bool
agrees_all r holder permission start last =
    every (λ j. agrees permission holder start last (permission_at r j) (holder_at r j) (start_at r j) (last_at r j)) r.count

-- H1: with one region more
abbrev pub with_region : Regions → ℕ → ℕ → ℕ → ℕ → Regions
with_region r holder permission start last =
    listed (r.count + 1) (set r.holders r.count holder) (set r.permissions r.count permission) (set r.starts r.count start) (set r.lasts r.count last)
