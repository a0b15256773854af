-- A table of digit pairs: in one row, what two places of a number can show.
use Rattle.std.specs.Prelude.{ℕ, ◌*◌, ◌+◌, get_or, List, [], ◌++◌, ◌∷◌}
use Rattle.basis.specs.Count.{joined}
use Rattle.text.specs.Digits.{digits}

-- a byte's two hexadecimal digits, for each byte, and behind them the two decimal digits of 0 to 99
unfoldable pub pairs : List ℕ
pairs = joined (digits 16 2) 256 ++ joined (digits 10 2) 100

-- pair x of the row
unfoldable pub pair_at : ℕ → List ℕ
pair_at x = get_or pairs (x * 2) 0 ∷ get_or pairs (x * 2 + 1) 0 ∷ []
