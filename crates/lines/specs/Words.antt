-- The words of the text, as the bytes of their letters, and the parts of which lines are made (N3 to N7).
use Rattle.std.specs.Prelude.{ℕ, eqb, List, [], ◌++◌, ◌∷◌}
use Rattle.basis.specs.Choice.{pick}
use Rattle.basis.specs.Nobody.{nobody}
use Rattle.text.specs.Digits.{decimal, hex8}

-- N5: `config `
abbrev pub config_word : List ℕ
config_word = 99 ∷ 111 ∷ 110 ∷ 102 ∷ 105 ∷ 103 ∷ 32 ∷ []

-- N6: `long` and a line's end
abbrev pub long_line : List ℕ
long_line = 108 ∷ 111 ∷ 110 ∷ 103 ∷ 10 ∷ []

-- N7: `cut `
abbrev pub cut_word : List ℕ
cut_word = 99 ∷ 117 ∷ 116 ∷ 32 ∷ []

-- N10: `image `
abbrev pub image_word : List ℕ
image_word = 105 ∷ 109 ∷ 97 ∷ 103 ∷ 101 ∷ 32 ∷ []

-- N9: `notice `, `core `, `queue`, `counts`, `vm `
abbrev pub notice_word : List ℕ
notice_word = 110 ∷ 111 ∷ 116 ∷ 105 ∷ 99 ∷ 101 ∷ 32 ∷ []

abbrev pub core_word : List ℕ
core_word = 99 ∷ 111 ∷ 114 ∷ 101 ∷ 32 ∷ []

abbrev pub queue_word : List ℕ
queue_word = 113 ∷ 117 ∷ 101 ∷ 117 ∷ 101 ∷ []

abbrev pub counts_word : List ℕ
counts_word = 99 ∷ 111 ∷ 117 ∷ 110 ∷ 116 ∷ 115 ∷ []

abbrev pub vm_word : List ℕ
vm_word = 118 ∷ 109 ∷ 32 ∷ []

-- N10: a dot and a line's end
abbrev pub dot_line : List ℕ
dot_line = 46 ∷ 10 ∷ []

-- N3, N12: a number in decimal, or an address as eight hexadecimal digits, and the byte behind it: 32 is a space, 10 a line's end
abbrev pub number : ℕ → ℕ → List ℕ
number n after = decimal n ++ (after ∷ [])

abbrev pub address : ℕ → ℕ → List ℕ
address n after = hex8 n ++ (after ∷ [])

abbrev pub two : ℕ → ℕ → ℕ → List ℕ
two m n after = number m 32 ++ number n after

-- N4: `-` for none
abbrev pub dash : ℕ → List ℕ
dash after = 45 ∷ after ∷ []

-- N4, A3: a VM or a pseudo-interrupt, 0 among them, or none
unfoldable pub choice : ℕ → ℕ → List ℕ
choice v after = pick (eqb v nobody) (dash after) (number v after)
