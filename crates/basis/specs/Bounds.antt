-- Numbers between bounds, and places past those in use.
use Rattle.std.specs.Prelude.{suc, zero, ℕ, ◌-◌, eqb, leb, ltb, drop, Bool, true, List, [], ◌∷◌}
use Rattle.basis.specs.Choice.{both, either}

-- at least a and at most b
abbrev pub within : ℕ → ℕ → ℕ → Bool
within a b n = both (leb a n) (leb n b)

-- the first m places hold zero
unfoldable pub zeros : ℕ → List ℕ → Bool
zeros zero l = true
zeros (suc m) [] = true
zeros (suc m) (x ∷ l) = both (eqb x 0) (zeros m l)

-- of 64 places those behind the first n hold zero
abbrev pub empty_rest : ℕ → List ℕ → Bool
empty_rest n l = zeros (64 - n) (drop n l)

-- place k is one of the n in use, or it holds zeros
abbrev pub empty_past : ℕ → ℕ → ℕ → ℕ → Bool
empty_past n k x y = either (ltb k n) (both (eqb x 0) (eqb y 0))
