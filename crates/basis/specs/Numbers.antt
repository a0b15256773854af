-- Numbers of two and of four bytes, low byte first (I1, E1).
use Rattle.std.specs.Prelude.{ℕ, ◌%◌, ◌*◌, ◌+◌, ◌/◌, ◌<◌, get_or, List, [], ◌∷◌}

-- I1: the number of two bytes at place i
abbrev pub half : List ℕ → ℕ → ℕ
half bs i = get_or bs i 0 + get_or bs (i + 1) 0 * 256

-- I1, E1: the number of four bytes at place i
abbrev pub word : List ℕ → ℕ → ℕ
word bs i = get_or bs i 0 + get_or bs (i + 1) 0 * 256 + get_or bs (i + 2) 0 * 65536 + get_or bs (i + 3) 0 * 16777216

-- I1: the bytes of a number
abbrev pub half_bytes : ℕ → List ℕ
half_bytes n = n % 256 ∷ n / 256 % 256 ∷ []

-- I1, E1
abbrev pub word_bytes : ℕ → List ℕ
word_bytes n = n % 256 ∷ n / 256 % 256 ∷ n / 65536 % 256 ∷ n / 16777216 % 256 ∷ []

-- each is a byte
abbrev pub Bytes : List ℕ → Type 0
Bytes bs = (i : ℕ) → get_or bs i 0 < 256
