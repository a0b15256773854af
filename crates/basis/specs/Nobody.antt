-- The number that stands for none throughout: nobody runs, a spare slot names nobody, nobody is at the queue's front, nothing was delivered.
use Rattle.std.specs.Prelude.{ℕ}

abbrev pub nobody : ℕ
nobody = 255
