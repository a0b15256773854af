-- What `access` prints (N22 to N25): for every image and every file of queries one text.
use Rattle.std.specs.Prelude.{ℕ, ◌%◌, ◌*◌, ◌+◌, ◌/◌, eqb, ltb, get_or, length, Bool, List, [], ◌++◌, ◌∷◌}
use Rattle.basis.specs.Choice.{pick}
use Rattle.basis.specs.Count.{joined}
use Rattle.basis.specs.Numbers.{word}
use Rattle.config.specs.Sizes.{access}
use Rattle.config.specs.declared.Config.{Config}
use Rattle.image_reader.specs.Reader.{read_image}
use Rattle.lines.specs.Text.{cut_text, refused_text}
use Rattle.lines.specs.Words.{long_line}

-- N23: `yes` or `no`, and a line's end
abbrev pub yes_line : List ℕ
yes_line = 121 ∷ 101 ∷ 115 ∷ 10 ∷ []

abbrev pub no_line : List ℕ
no_line = 110 ∷ 111 ∷ 10 ∷ []

abbrev pub word_for : Bool → List ℕ
word_for b = pick b yes_line no_line

-- N22, N23: the answer to the query whose record begins at place i: VM, way, address, length
abbrev pub answer_at : Config → List ℕ → ℕ → Bool
answer_at g queries i = access g (get_or queries i 0) (word queries (i + 2)) (word queries (i + 6)) (get_or queries (i + 1) 0)

-- N23: the lines of the first n queries, which are ten bytes each
unfoldable pub answers_text : Config → List ℕ → ℕ → List ℕ
answers_text g queries n = joined (λ k. word_for (answer_at g queries (k * 10))) n

-- N24: what is said of bytes behind the last whole record
unfoldable pub rest_text : ℕ → List ℕ
rest_text size = pick (eqb (size % 10) 0) [] (cut_text (size / 10 + 1))

-- N25: the most bytes of queries
abbrev pub longest : ℕ
longest = 60000

-- N5, N22 to N25
unfoldable pub access_text : List ℕ → List ℕ → List ℕ
access_text image queries =
    pick (eqb (read_image image).fault 0)
    (pick (ltb longest (length queries))
    long_line
    (answers_text (read_image image).config queries (length queries / 10) ++ rest_text (length queries)))
    (refused_text (read_image image).fault (read_image image).offset)

-- the most bytes that are printed, and some more
abbrev pub enough : ℕ
enough = 24064

-- a buffer of fewer bytes takes nothing
unfoldable pub shown_in : ℕ → List ℕ → List ℕ → List ℕ
shown_in room image queries = pick (ltb room enough) [] (access_text image queries)
