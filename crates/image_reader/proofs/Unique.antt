-- No second answer fits (C2): each public function whose contract is an equation.
use mathlib.Core.Path.{sym, ◌∙◌}
use Rattle.basis.proofs.Unique.{OneAnswer}
use Rattle.image_reader.proofs.Faults.{reading_once}
use Rattle.image_reader.proofs.fault.Fault.number.Kinds as number-kinds
use Rattle.image_reader.proofs.fault.Fault.number.Reads as number-reads
use Rattle.image_reader.proofs.reader.no_config.Kinds as no_config-kinds
use Rattle.image_reader.proofs.reader.no_config.Reads as no_config-reads
use Rattle.image_reader.proofs.read.Kinds as read-kinds
use Rattle.image_reader.proofs.read.Reads as read-reads

pub number_one : OneAnswer 0 number-kinds.ps number-kinds.r number-reads.Post
number_one κs a x y s t p q = p ∙ sym q

pub no_config_one : OneAnswer 0 no_config-kinds.ps no_config-kinds.r no_config-reads.Post
no_config_one κs a x y s t p q = p ∙ sym q

-- C1, C2
pub read_one : OneAnswer 1 read-kinds.ps read-kinds.r read-reads.Post
read_one κs a x y s t p q = reading_once x y (p ∙ sym q)
