-- What is printed for an event, its line (N3) and for engineers the whole state behind it; for a refused image and for a cut log (N5, N7).
use Rattle.std.specs.Prelude.{ℕ, eqb, get_or, length, List, [], ◌++◌, ◌∷◌}
use Rattle.basis.specs.Choice.{pick}
use Rattle.basis.specs.Count.{joined}
use Rattle.basis.specs.Nobody.{nobody}
use Rattle.change.specs.declared.Answer.{Answer}
use Rattle.lines.specs.Words.{address, choice, config_word, cut_word, dash, image_word, number, two}
use Rattle.text.specs.Digits.{hex_byte}

-- N3, N4: the address of the VM that runs, or none
unfoldable pub where_text : ℕ → ℕ → List ℕ
where_text running at = pick (eqb running nobody) (dash 32) (address at 32)

unfoldable pub runs_text : ℕ → ℕ → ℕ → List ℕ
runs_text running at delivered = choice running 32 ++ (where_text running at ++ choice delivered 32)

-- N3: the event's number, the refusal; the VM that runs, its address, what was delivered; the notice, the result; the number removed
unfoldable pub line_text : ℕ → Answer → List ℕ
line_text n a = two n a.refusal 32 ++ (runs_text a.running a.address a.delivered ++ (two a.notice.kind a.result 32 ++ number a.removed 10))

-- N10, N27: the first n of some bytes, two hexadecimal digits each
unfoldable pub bytes_text : List ℕ → ℕ → List ℕ
bytes_text bs n = joined (λ k. hex_byte (get_or bs k 0)) n

-- N10
unfoldable pub image_text : List ℕ → List ℕ
image_text bs = image_word ++ (bytes_text bs (length bs) ++ (10 ∷ []))

-- N7: a log whose record n cannot be read
unfoldable pub cut_text : ℕ → List ℕ
cut_text n = cut_word ++ number n 10

-- N5: a refused image
unfoldable pub refused_text : ℕ → ℕ → List ℕ
refused_text fault offset = config_word ++ two fault offset 10
