-- No second answer fits (C2). `Post` is the contract as the source has it.
use mathlib.Core.Path.{sym, ◌∙◌}
use Rattle.basis.proofs.Unique.{OneAnswer}
use Rattle.copies.proofs.Failure.told.Kinds as told-kinds
use Rattle.copies.proofs.Failure.told.Reads as told-reads
use Rattle.copies.proofs.failure_of.Kinds as failure-of-kinds
use Rattle.copies.proofs.failure_of.Reads as failure-of-reads

pub told_one : OneAnswer 0 told-kinds.ps told-kinds.r told-reads.Post
told_one κs a x y s t p q = p ∙ sym q

-- C1, C2
pub failure_of_one : OneAnswer 1 failure-of-kinds.ps failure-of-kinds.r failure-of-reads.Post
failure_of_one κs a x y s t p q = p ∙ sym q
