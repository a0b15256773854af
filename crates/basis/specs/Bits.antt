-- Numbers as sets of small numbers: n is in x where bit n of x, of value 2 ^ n, is set.
use Rattle.std.specs.Prelude.{ℕ, ◌%◌, ◌/◌, ◌^◌, eqb, Bool}

-- whether n is in x
abbrev pub bit : ℕ → ℕ → Bool
bit n x = eqb (x / 2 ^ n % 2) 1
