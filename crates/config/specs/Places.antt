-- S4 to S7 over the arrays of a configuration, as the code tests them; `legal` of Sizes is what they mean.
use Rattle.std.specs.Prelude.{◌≡◌, ℕ, ◌+◌, ◌<◌, Bool, List, [], ◌∷◌, ◌==◌, nat_eq, nat_lt, slice_index}
use Rattle.basis.specs.Bits.{bit}
use Rattle.basis.specs.Bounds.{empty_past}
use Rattle.basis.specs.Choice.{both, pick}
use Rattle.basis.specs.Count.{every, some}
use Rattle.config.specs.Sizes.{lasts, names, slot_fits}

-- S4 to S7
unfoldable pub places_fit : ℕ → ℕ → List ℕ → List ℕ → List ℕ → List ℕ → Bool
places_fit count slots entries handlers owners durations =
    both (every (λ k. slot_fits count (slice_index owners k) (slice_index durations k)) slots)
    (both (every (λ v. some (λ k. nat_eq (slice_index owners k) v) slots) count)
    (both (every (λ k. empty_past count k (slice_index entries k) (slice_index handlers k)) 8)
    (every (λ k. empty_past slots k (slice_index owners k) (slice_index durations k)) 64)))

-- S5 of place k, and S7: past the slots it holds zero
abbrev pub owner_fits : ℕ → ℕ → ℕ → ℕ → Bool
owner_fits count slots k owner = pick (nat_lt k slots) (names count owner) (owner == 0)

-- S4 of place k, and S7
abbrev pub ticks_fit : ℕ → ℕ → ℕ → ℕ → Bool
ticks_fit slots k owner ticks = pick (nat_lt k slots) (lasts owner ticks) (ticks == 0)

-- the numbers of the places
unfoldable pub place_numbers : List ℕ
place_numbers =
    0 ∷ 1 ∷ 2 ∷ 3 ∷ 4 ∷ 5 ∷ 6 ∷ 7
    ∷ 8 ∷ 9 ∷ 10 ∷ 11 ∷ 12 ∷ 13 ∷ 14 ∷ 15
    ∷ 16 ∷ 17 ∷ 18 ∷ 19 ∷ 20 ∷ 21 ∷ 22 ∷ 23
    ∷ 24 ∷ 25 ∷ 26 ∷ 27 ∷ 28 ∷ 29 ∷ 30 ∷ 31
    ∷ 32 ∷ 33 ∷ 34 ∷ 35 ∷ 36 ∷ 37 ∷ 38 ∷ 39
    ∷ 40 ∷ 41 ∷ 42 ∷ 43 ∷ 44 ∷ 45 ∷ 46 ∷ 47
    ∷ 48 ∷ 49 ∷ 50 ∷ 51 ∷ 52 ∷ 53 ∷ 54 ∷ 55
    ∷ 56 ∷ 57 ∷ 58 ∷ 59 ∷ 60 ∷ 61 ∷ 62 ∷ 63 ∷ []

-- four VMs from `first` on, a bit of x for each: whether a slot in use names it
abbrev pub NamedBy : Bool → ℕ → ℕ → ℕ → Type 0
NamedBy used owner first x = (v : ℕ) → v < 4 → bit v x ≡ both used (owner == first + v)

-- whether one of the slots does
abbrev pub NamedFrom : ℕ → ℕ → List ℕ → ℕ → Type 0
NamedFrom first slots owners x = (v : ℕ) → v < 4 → bit v x ≡ some (λ k. nat_eq (slice_index owners k) (first + v)) slots
