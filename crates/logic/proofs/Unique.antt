-- No second answer fits (C2): two answers that meet a function's contract are equal. `Post` is the contract as the source has it.
use mathlib.Core.Path.{sym, ◌∙◌}
use Rattle.basis.proofs.Unique.{OneAnswer}
use Rattle.logic.proofs.change_of.Kinds as change-of-kinds
use Rattle.logic.proofs.change_of.Reads as change-of-reads
use Rattle.logic.proofs.place_of.Kinds as place-of-kinds
use Rattle.logic.proofs.place_of.Reads as place-of-reads
use Rattle.logic.proofs.row_of.Kinds as row-of-kinds
use Rattle.logic.proofs.row_of.Reads as row-of-reads

pub place_of_one : OneAnswer 0 place-of-kinds.ps place-of-kinds.r place-of-reads.Post
place_of_one κs a x y s t p q = p ∙ sym q

pub row_of_one : OneAnswer 0 row-of-kinds.ps row-of-kinds.r row-of-reads.Post
row_of_one κs a x y s t p q = p ∙ sym q

pub change_of_one : OneAnswer 0 change-of-kinds.ps change-of-kinds.r change-of-reads.Post
change_of_one κs a x y s t p q = p ∙ sym q
