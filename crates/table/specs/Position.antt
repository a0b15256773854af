-- Where the core stands in the table, and how a tick moves it (D5).
use Rattle.std.specs.Prelude.{ℕ, ◌+◌, ◌-◌, eqb, ltb, get_or, Bool, List}
use Rattle.basis.specs.Choice.{pick, unless}
use Rattle.table.specs.declared.Clock.{Clock}

-- T6
abbrev pub fresh_clock : Clock
fresh_clock = record { started = 0; ticked = 0; slot = 0; left = 0 }

-- D1, D2: the core is started, and all else stays
abbrev pub started_clock : Clock → Clock
started_clock k = record { started = 1; ticked = k.ticked; slot = k.slot; left = k.left }

abbrev pub is_started : Clock → Bool
is_started k = eqb k.started 1

abbrev pub has_ticked : Clock → Bool
has_ticked k = eqb k.ticked 1

-- D5: a slot is entered, with its duration as ticks left
abbrev pub enter_slot : List ℕ → Clock → ℕ → Clock
enter_slot durations k slot = record { started = k.started; ticked = 1; slot = slot; left = get_or durations slot 0 }

-- D5: one of the slot's ticks is over
abbrev pub one_less : Clock → Clock
one_less k = record { started = k.started; ticked = 1; slot = k.slot; left = k.left - 1 }

-- D5: the slot after this one; after the last, the first
abbrev pub slot_after : ℕ → ℕ → ℕ
slot_after slots i = pick (ltb (i + 1) slots) (i + 1) 0

-- D5
unfoldable pub next_clock : ℕ → List ℕ → Clock → Clock
next_clock slots durations k =
    unless (has_ticked k) (enter_slot durations k 0)
    (pick (ltb 1 k.left) (one_less k)
    (enter_slot durations k (slot_after slots k.slot)))
