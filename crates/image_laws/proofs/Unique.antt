-- No second answer fits (C2): each public function whose contract is an equation.
use borrow.Fn.Kinds.{Dens, ended_of, res_t}
use contract.Lifetimes.{Lfts}
use denote.Triple.Clauses.{AtExit}
use mathlib.Core.Path.{sym, ◌∙◌, ◌≡◌}
use Rattle.basis.proofs.Unique.{OneAnswer}
use Rattle.image_laws.proofs.Refusals.{read_again_once, written_again_once}
use Rattle.image_laws.proofs.reread.Kinds as reread-kinds
use Rattle.image_laws.proofs.reread.Reads as reread-reads
use Rattle.image_laws.proofs.rewrite.Kinds as rewrite-kinds
use Rattle.image_laws.proofs.rewrite.Reads as rewrite-reads

pub rewrite_one : OneAnswer 2 rewrite-kinds.ps rewrite-kinds.r rewrite-reads.Post
rewrite_one κs a x y s t p q = written_again_once x y (p.0 ∙ sym q.0)

-- nor two contents of the buffer
pub rewrite_one_buffer : (κs : Lfts 2) (a : Dens κs rewrite-kinds.ps) (x y : (res_t rewrite-kinds.r κs).Denot) (s t : AtExit (ended_of 2 rewrite-kinds.ps rewrite-kinds.r) κs)
    → rewrite-reads.Post κs a x s → rewrite-reads.Post κs a y t → s.1.0.now ≡ t.1.0.now
rewrite_one_buffer κs a x y s t p q = p.1 ∙ sym q.1

pub reread_one : OneAnswer 2 reread-kinds.ps reread-kinds.r reread-reads.Post
reread_one κs a x y s t p q = read_again_once x y (p.0 ∙ sym q.0)

-- nor two contents of the buffer
pub reread_one_buffer : (κs : Lfts 2) (a : Dens κs reread-kinds.ps) (x y : (res_t reread-kinds.r κs).Denot) (s t : AtExit (ended_of 2 reread-kinds.ps reread-kinds.r) κs)
    → reread-reads.Post κs a x s → reread-reads.Post κs a y t → s.1.0.now ≡ t.1.0.now
reread_one_buffer κs a x y s t p q = p.1 ∙ sym q.1
