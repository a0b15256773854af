-- No second answer fits (C2): each public function whose contract is an equation.
use borrow.Fn.Kinds.{Dens, ended_of, res_t}
use contract.Lifetimes.{Lfts}
use denote.Triple.Clauses.{AtExit}
use mathlib.Core.Path.{sym, ◌∙◌, ◌≡◌}
use Rattle.basis.proofs.Unique.{OneAnswer}
use Rattle.image_writer.proofs.Refusals.{written_once}
use Rattle.image_writer.proofs.Unwritten.number.Kinds as number-kinds
use Rattle.image_writer.proofs.Unwritten.number.Reads as number-reads
use Rattle.image_writer.proofs.write.Kinds as write-kinds
use Rattle.image_writer.proofs.write.Reads as write-reads

pub number_one : OneAnswer 0 number-kinds.ps number-kinds.r number-reads.Post
number_one κs a x y s t p q = p ∙ sym q

-- C1, C2
pub write_one : OneAnswer 2 write-kinds.ps write-kinds.r write-reads.Post
write_one κs a x y s t p q = written_once x y (p.0 ∙ sym q.0)

-- C1, C2: nor two contents of the buffer
pub write_one_buffer : (κs : Lfts 2) (a : Dens κs write-kinds.ps) (x y : (res_t write-kinds.r κs).Denot) (s t : AtExit (ended_of 2 write-kinds.ps write-kinds.r) κs)
    → write-reads.Post κs a x s → write-reads.Post κs a y t → s.1.0.now ≡ t.1.0.now
write_one_buffer κs a x y s t p q = p.1 ∙ sym q.1
