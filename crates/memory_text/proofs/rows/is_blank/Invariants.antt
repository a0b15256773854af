-- The bytes so far are zero.
use mathlib.Core.Bool.{true}
use mathlib.Core.Path.{◌≡◌}
use Rattle.memory_text.proofs.Texts.{blank_to}
use Rattle.memory_text.proofs.rows.is_blank.Given as goal

abbrev pub invariant-loop-x : goal.invariant-loop-x
invariant-loop-x l = true ≡ blank_to l.row l.x-index
