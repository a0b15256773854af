-- No second answer fits (C2).
use mathlib.Core.Path.{sym, ◌∙◌}
use Rattle.basis.proofs.Unique.{OneAnswer}
use Rattle.grants.proofs.allows.Kinds as allows-kinds
use Rattle.grants.proofs.allows.Reads as allows-reads

-- C1, C2
pub allows_one : OneAnswer 1 allows-kinds.ps allows-kinds.r allows-reads.Post
allows_one κs a x y s t p q = p ∙ sym q
