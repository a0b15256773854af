-- Numbers as text: ASCII digits, the most significant first (N3).
use Rattle.std.specs.Prelude.{suc, zero, ℕ, ◌%◌, ◌*◌, ◌+◌, ◌-◌, ◌/◌, ltb, List, [], ◌++◌, ◌∷◌}
use Rattle.basis.specs.Choice.{pick}

-- N3: a digit below 16: `0` to `9`, then `a` to `f`
unfoldable pub glyph : ℕ → ℕ
glyph d = pick (ltb d 10) (48 + d) (87 + d)

-- the k lowest digits of n
unfoldable pub digits : ℕ → ℕ → ℕ → List ℕ
digits base zero n = []
digits base (suc k) n = digits base k (n / base) ++ (glyph (n % base) ∷ [])

-- how many decimal digits a number below 2^32 has
unfoldable pub width : ℕ → ℕ
width n =
    pick (ltb n 10) 1
    (pick (ltb n 100) 2
    (pick (ltb n 1000) 3
    (pick (ltb n 10000) 4
    (pick (ltb n 100000) 5
    (pick (ltb n 1000000) 6
    (pick (ltb n 10000000) 7
    (pick (ltb n 100000000) 8
    (pick (ltb n 1000000000) 9 10))))))))

-- N3: with no zero in front
unfoldable pub decimal : ℕ → List ℕ
decimal n = digits 10 (width n) n

-- N3: eight hexadecimal digits
unfoldable pub hex8 : ℕ → List ℕ
hex8 n = digits 16 8 n

-- N10: two hexadecimal digits
unfoldable pub hex_byte : ℕ → List ℕ
hex_byte n = digits 16 2 n

-- what a digit means
unfoldable pub digit_of : ℕ → ℕ
digit_of x = pick (ltb x 58) (x - 48) (x - 87)

-- what v means with the digits xs behind it
unfoldable pub value_from : ℕ → ℕ → List ℕ → ℕ
value_from base v [] = v
value_from base v (x ∷ xs) = value_from base (v * base + digit_of x) xs

-- the number that a text of digits means to its reader
unfoldable pub value_of : ℕ → List ℕ → ℕ
value_of base xs = value_from base 0 xs
