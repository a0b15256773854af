-- No second answer fits, nor a second content of the memory (C2). `Post` is the contract as the source has it.
use borrow.Fn.Kinds.{Dens, ended_of, res_t}
use contract.Lifetimes.{Lfts}
use denote.Triple.Clauses.{AtExit}
use mathlib.Core.Path.{sym, ◌∙◌, ◌≡◌}
use Rattle.basis.proofs.Unique.{OneAnswer}
use Rattle.window.proofs.Pieces.extents.Kinds as extents-kinds
use Rattle.window.proofs.Pieces.extents.Reads as extents-reads
use Rattle.window.proofs.Window.inside.Kinds as inside-kinds
use Rattle.window.proofs.Window.inside.Reads as inside-reads
use Rattle.window.proofs.copy_all.Kinds as copy-all-kinds
use Rattle.window.proofs.copy_all.Reads as copy-all-reads

pub extents_one : OneAnswer 0 extents-kinds.ps extents-kinds.r extents-reads.Post
extents_one κs a x y s t p q = p ∙ sym q

pub inside_one : OneAnswer 0 inside-kinds.ps inside-kinds.r inside-reads.Post
inside_one κs a x y s t p q = p ∙ sym q

-- C1, C2
pub copy_all_one : (κs : Lfts 1) (a : Dens κs copy-all-kinds.ps) (x y : (res_t copy-all-kinds.r κs).Denot) (s t : AtExit (ended_of 1 copy-all-kinds.ps copy-all-kinds.r) κs)
    → copy-all-reads.Post κs a x s → copy-all-reads.Post κs a y t → s.0.now ≡ t.0.now
copy_all_one κs a x y s t p q = p ∙ sym q
