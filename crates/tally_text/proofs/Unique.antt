-- No second answer fits (C2): two answers that meet a function's contract are equal. `Post` is the contract as the source has it.
use borrow.Fn.Kinds.{Dens, ended_of, res_t}
use contract.Lifetimes.{Lfts}
use denote.Triple.Clauses.{AtExit}
use mathlib.Core.Path.{sym, ◌∙◌, ◌≡◌}
use Rattle.basis.proofs.Unique.{OneAnswer}
use Rattle.tally_text.proofs.log_name.Kinds as names
use Rattle.tally_text.proofs.log_name.Reads as naming
use Rattle.tally_text.proofs.put.Kinds as puts
use Rattle.tally_text.proofs.put.Reads as putting
use Rattle.text.proofs.Puts.{puts_one}

pub put_one : OneAnswer 2 puts.ps puts.r putting.Post
put_one κs a x y s t p q = (puts_one p.0 q.0).1

-- nor two contents of the buffer
pub put_one_buffer : (κs : Lfts 2) (a : Dens κs puts.ps) (x y : (res_t puts.r κs).Denot) (s t : AtExit (ended_of 2 puts.ps puts.r) κs)
    → putting.Post κs a x s → putting.Post κs a y t → s.0.now ≡ t.0.now
put_one_buffer κs a x y s t p q = (puts_one p.0 q.0).0

pub log_name_one : OneAnswer 0 names.ps names.r naming.Post
log_name_one κs a x y s t p q = p ∙ sym q
