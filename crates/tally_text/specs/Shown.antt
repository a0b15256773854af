-- The text of figures as the code counts them, and what `put` puts into a buffer.
use Rattle.std.specs.Prelude.{ℕ, eqb, ltb, get_or, List, [], ◌++◌}
use Rattle.basis.specs.Choice.{pick}
use Rattle.basis.specs.Count.{joined}
use Rattle.image_reader.specs.Reader.{read_image}
use Rattle.lines.specs.Text.{refused_text}
use Rattle.tally.specs.declared.Tally.{Tally}
use Rattle.tally_text.specs.Report.{last_text, row_text}

-- the lines of so many VMs
unfoldable pub rows_text : Tally → ℕ → List ℕ
rows_text t n = joined (λ v. row_text v (get_or t.table v 0) (get_or t.spare v 0) (get_or t.missed v 0)) n

unfoldable pub tally_text : ℕ → Tally → List ℕ
tally_text count t = rows_text t count ++ last_text t.idle t.ticks

unfoldable pub shown_text : List ℕ → Tally → List ℕ
shown_text image t = pick (eqb (read_image image).fault 0) (tally_text (read_image image).config.count t) (refused_text (read_image image).fault (read_image image).offset)

-- the most bytes that a report has, and some more
abbrev pub enough : ℕ
enough = 512

-- a buffer of fewer bytes takes nothing
unfoldable pub shown_in : ℕ → List ℕ → Tally → List ℕ
shown_in room image t = pick (ltb room enough) [] (shown_text image t)
