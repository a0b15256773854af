-- What the Results of both round trips say, as the records of the reader and the writer.
use Rattle.std.specs.Prelude.{ℕ, Result, Ok, Err}
use Rattle.config.specs.declared.Config.{Config}
use Rattle.image_laws.specs.declared.refusal.Refusal.{Refusal}
use Rattle.image_laws.specs.declared.refusal.Refusal.TheVariants.{Unread, Unwritten}
use Rattle.image_reader.specs.Faults.{fault_number}
use Rattle.image_reader.specs.Reader.{accepted, refused}
use Rattle.image_reader.specs.Reading.{Reading}
use Rattle.image_writer.specs.Refusals.{refusal_number}
use Rattle.image_writer.specs.Writer.{unwritten, written}
use Rattle.image_writer.specs.Written.{Written}

-- I8, I11: no fault has the number of a refusal
abbrev pub number_of : Refusal → ℕ
number_of (Unread f) = fault_number f
number_of (Unwritten u) = refusal_number u

abbrev pub written_again : Result ℕ Refusal → Written
written_again (Ok size) = written size
written_again (Err r) = unwritten (number_of r)

abbrev pub read_again : Result Config Refusal → Reading
read_again (Ok c) = accepted c
read_again (Err r) = refused (number_of r) 0
