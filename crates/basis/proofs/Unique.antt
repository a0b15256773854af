-- No second answer fits (C2): what it is that two answers which meet a function's contract are equal, and that no function here has two.
use Prim.Native.Nat.{ℕ}
use borrow.Fn.Kinds.{Dens, Out, ParamKind, ResultKind, ended_of, res_t}
use contract.Lifetimes.{Lfts}
use denote.Param.Laws.{IsCopy, Laws}
use denote.RattleType.{RattleType}
use denote.Triple.Clauses.{AtExit}
use mathlib.Core.List.{List}
use mathlib.Core.Path.{sym, ◌∙◌, ◌≡◌}
use mir.Syntax.{Dict}
use Rattle.std.specs.declared.clone.Clone as clone
use Rattle.basis.proofs.numbers.half.Kinds as half-kinds
use Rattle.basis.proofs.numbers.half.Reads as half-reads
use Rattle.basis.proofs.numbers.put_half.Kinds as put-half-kinds
use Rattle.basis.proofs.numbers.put_half.Reads as put-half-reads
use Rattle.basis.proofs.numbers.put_word.Kinds as put-word-kinds
use Rattle.basis.proofs.numbers.put_word.Reads as put-word-reads
use Rattle.basis.proofs.numbers.word.Kinds as word-kinds
use Rattle.basis.proofs.numbers.word.Reads as word-reads
use Rattle.basis.proofs.numbers.word_inside.Kinds as word-inside-kinds
use Rattle.basis.proofs.numbers.word_inside.Reads as word-inside-reads
use Rattle.basis.proofs.places.at.Kinds as at-kinds
use Rattle.basis.proofs.places.at.Reads as at-reads
use Rattle.basis.proofs.places.put_byte.Kinds as put-byte-kinds
use Rattle.basis.proofs.places.put_byte.Reads as put-byte-reads
use Rattle.basis.proofs.tests.both.Kinds as both-kinds
use Rattle.basis.proofs.tests.both.Reads as both-reads
use Rattle.basis.proofs.tests.fault.Kinds as fault-kinds
use Rattle.basis.proofs.tests.fault.Reads as fault-reads

-- for the same arguments, no two answers; `Post` is the contract as the source has it
abbrev pub OneAnswer : (n : ℕ) (ps : List (ParamKind n)) (r : ResultKind n) → Out n ps r → Type 0
OneAnswer n ps r Post = (κs : Lfts n) (a : Dens κs ps) (x y : (res_t r κs).Denot) (s t : AtExit (ended_of n ps r) κs) → Post κs a x s → Post κs a y t → x ≡ y

pub both_one : OneAnswer 0 both-kinds.ps both-kinds.r both-reads.Post
both_one κs a x y s t p q = p ∙ sym q

pub fault_one : OneAnswer 0 fault-kinds.ps fault-kinds.r fault-reads.Post
fault_one κs a x y s t p q = p ∙ sym q

-- of each type
pub at_one : (T : RattleType) (l : Laws T) (c : IsCopy T) (g : clone.Ghosts T.Denot) (d : Dict) → OneAnswer 2 (at-kinds.ps T l c) (at-kinds.r T l c) (at-reads.Post T l c g d)
at_one T l c g d κs a x y s t p q = p ∙ sym q

pub half_one : OneAnswer 1 half-kinds.ps half-kinds.r half-reads.Post
half_one κs a x y s t p q = p ∙ sym q

pub word_one : OneAnswer 1 word-kinds.ps word-kinds.r word-reads.Post
word_one κs a x y s t p q = p ∙ sym q

pub word_inside_one : OneAnswer 1 word-inside-kinds.ps word-inside-kinds.r word-inside-reads.Post
word_inside_one κs a x y s t p q = p ∙ sym q

-- nor two contents of a buffer
pub put_half_one : (κs : Lfts 1) (a : Dens κs put-half-kinds.ps) (x y : (res_t put-half-kinds.r κs).Denot) (s t : AtExit (ended_of 1 put-half-kinds.ps put-half-kinds.r) κs)
    → put-half-reads.Post κs a x s → put-half-reads.Post κs a y t → s.0.now ≡ t.0.now
put_half_one κs a x y s t p q = p ∙ sym q

pub put_word_one : (κs : Lfts 1) (a : Dens κs put-word-kinds.ps) (x y : (res_t put-word-kinds.r κs).Denot) (s t : AtExit (ended_of 1 put-word-kinds.ps put-word-kinds.r) κs)
    → put-word-reads.Post κs a x s → put-word-reads.Post κs a y t → s.0.now ≡ t.0.now
put_word_one κs a x y s t p q = p ∙ sym q

pub put_byte_one : (κs : Lfts 1) (a : Dens κs put-byte-kinds.ps) (x y : (res_t put-byte-kinds.r κs).Denot) (s t : AtExit (ended_of 1 put-byte-kinds.ps put-byte-kinds.r) κs)
    → put-byte-reads.Post κs a x s → put-byte-reads.Post κs a y t → s.0.now ≡ t.0.now
put_byte_one κs a x y s t p q = p ∙ sym q
