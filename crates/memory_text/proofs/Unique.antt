-- No second answer fits (C2): two answers that meet the contract of `put` are equal, and so are two contents of the buffer.
use borrow.Fn.Kinds.{Dens, ended_of, res_t}
use contract.Lifetimes.{Lfts}
use denote.Triple.Clauses.{AtExit}
use mathlib.Core.Path.{◌≡◌}
use Rattle.basis.proofs.Unique.{OneAnswer}
use Rattle.memory_text.proofs.put.Kinds as puts
use Rattle.memory_text.proofs.put.Reads as putting
use Rattle.text.proofs.Puts.{puts_one}

pub put_one : OneAnswer 4 puts.ps puts.r putting.Post
put_one κs a x y s t p q = (puts_one p.0 q.0).1

pub put_one_buffer : (κs : Lfts 4) (a : Dens κs puts.ps) (x y : (res_t puts.r κs).Denot) (s t : AtExit (ended_of 4 puts.ps puts.r) κs)
    → putting.Post κs a x s → putting.Post κs a y t → s.0.now ≡ t.0.now
put_one_buffer κs a x y s t p q = (puts_one p.0 q.0).0
