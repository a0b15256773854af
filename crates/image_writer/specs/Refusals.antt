-- I11: the numbers of the writer's refusals.
use Rattle.std.specs.Prelude.{ℕ}
use Rattle.image_writer.specs.declared.Unwritten.{Unwritten}
use Rattle.image_writer.specs.declared.Unwritten.TheVariants.{Short, Illegal}

abbrev pub refusal_number : Unwritten → ℕ
refusal_number Short = 30
refusal_number Illegal = 31
