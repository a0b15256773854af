-- What `report` prints (N18, N21): for every image and every list of logs one text.
use Rattle.std.specs.Prelude.{ℕ, ◌%◌, ◌+◌, ◌/◌, eqb, List, [], ◌++◌, ◌∷◌}
use Rattle.basis.specs.Choice.{pick}
use Rattle.basis.specs.Count.{joined}
use Rattle.config.specs.declared.Config.{Config}
use Rattle.rig_core.specs.Events.{step_of}
use Rattle.history.specs.History.{Moment, ticking, times}
use Rattle.image_reader.specs.Reader.{read_image}
use Rattle.lines.specs.Text.{refused_text}
use Rattle.lines.specs.Words.{number, two}
use Rattle.tally.specs.Figures.{idle_tick, missed_tick, spare_tick, table_tick}
use Rattle.tally.specs.Logs.{happens_in}

-- N18: `idle ` and `ticks `
abbrev pub idle_word : List ℕ
idle_word = 105 ∷ 100 ∷ 108 ∷ 101 ∷ 32 ∷ []

abbrev pub ticks_word : List ℕ
ticks_word = 116 ∷ 105 ∷ 99 ∷ 107 ∷ 115 ∷ 32 ∷ []

-- N18: a VM's line: its number, table ticks, spare ticks, missed ticks
unfoldable pub row_text : ℕ → ℕ → ℕ → ℕ → List ℕ
row_text v table spare missed = two v table 32 ++ two spare missed 10

unfoldable pub last_text : ℕ → ℕ → List ℕ
last_text idle ticks = (idle_word ++ number idle 10) ++ (ticks_word ++ number ticks 10)

-- N18: the figures of what happened
unfoldable pub figures_text : Config → List Moment → List ℕ
figures_text g ms =
    joined (λ v. row_text v (times (table_tick g v) ms) (times (spare_tick g v) ms) (times (missed_tick g v) ms)) g.count
    ++ last_text (times idle_tick ms) (times ticking ms)

-- N21: an image that is refused, or the figures of its configuration
unfoldable pub report_text : List ℕ → List (List ℕ) → List ℕ
report_text image logs =
    pick (eqb (read_image image).fault 0)
    (figures_text (read_image image).config (happens_in step_of (read_image image).config logs))
    (refused_text (read_image image).fault (read_image image).offset)

-- N13: the name of the log k, `log` and two digits and `.bin`
abbrev pub log_name : ℕ → List ℕ
log_name k = 108 ∷ 111 ∷ 103 ∷ (48 + k / 10 % 10) ∷ (48 + k % 10) ∷ 46 ∷ 98 ∷ 105 ∷ 110 ∷ []
