-- No second answer fits (C2): each public function whose contract is an equation.
use Rattle.std.proofs.Common.{sym, ◌∙◌}
use Rattle.basis.proofs.Unique.{OneAnswer}
use Rattle.config.proofs.Config.allows.Kinds as allows-kinds
use Rattle.config.proofs.Config.allows.Reads as allows-reads
use Rattle.config.proofs.Config.legal.Kinds as legal-kinds
use Rattle.config.proofs.Config.legal.Reads as legal-reads
use Rattle.config.proofs.parts_legal.Kinds as parts-kinds
use Rattle.config.proofs.parts_legal.Reads as parts-reads
use Rattle.config.proofs.Config.serves_all.Kinds as serves-kinds
use Rattle.config.proofs.Config.serves_all.Reads as serves-reads

-- C1, C2
pub allows_one : OneAnswer 1 allows-kinds.ps allows-kinds.r allows-reads.Post
allows_one κs a x y s t p q = p ∙ sym q

pub legal_one : OneAnswer 1 legal-kinds.ps legal-kinds.r legal-reads.Post
legal_one κs a x y s t p q = p ∙ sym q

pub parts_one : OneAnswer 4 parts-kinds.ps parts-kinds.r parts-reads.Post
parts_one κs a x y s t p q = p ∙ sym q

pub serves_one : OneAnswer 1 serves-kinds.ps serves-kinds.r serves-reads.Post
serves_one κs a x y s t p q = p ∙ sym q
