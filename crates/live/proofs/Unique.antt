-- No second answer fits, nor a second core where one is lent, nor other bytes where memory is (C2): over the contract as the source has it, which is `Post`, and for what is walked by hand `clauses`.
use base.Logic.{SProp, ent, id⊢, sep, via}
use contract.Lifetimes.{Lfts}
use contract.Monad.{Fun, conj, fact, fact_i, fact_use, sep→conj}
use denote.Laws.{both_say}
use denote.Triple.Clauses.{AtExit}
use denote.Triple.Entry.{Args, Res}
use types.Logic.{Logic}
use seplogic.Ra.Ura.{Ura}
use mathlib.Core.Path.{sym, ◌∙◌, ◌≡◌}
use prog.Memory.{Memory}
use prog.Routine.{Routine}
use Rattle.basis.proofs.Unique.{OneAnswer}
use Rattle.live.proofs.core_allows.Kinds as allows-kinds
use Rattle.live.proofs.core_allows.Reads as allows-reads
use Rattle.live.specs.contracts.core_copy as copy
use Rattle.live.proofs.core_fresh.Kinds as fresh-kinds
use Rattle.live.proofs.core_fresh.Reads as fresh-reads
use Rattle.live.specs.contracts.core_inner as inner
use Rattle.live.specs.contracts.core_live as live
use Rattle.live.specs.contracts.core_step as step
use Rattle.live.specs.contracts.happen as happen

pub core_fresh_one : OneAnswer 1 fresh-kinds.ps fresh-kinds.r fresh-reads.Post
core_fresh_one κs a x y s t p q = p ∙ sym q

pub core_allows_one : OneAnswer 0 allows-kinds.ps allows-kinds.r allows-reads.Post
core_allows_one κs a x y s t p q = p ∙ sym q

module _ {M : Type 1} {𝓤 : Ura M} (𝓛 : Logic 𝓤) (mem : Memory → SProp 𝓤) (run : Routine → Fun 𝓤) where
  -- from two facts a third
  of_both : {P Q R : Type 0} → (P → Q → R) → ent 𝓤 (sep 𝓤 (fact 𝓤 P) (fact 𝓤 Q)) (fact 𝓤 R)
  of_both {P} {Q} {R} f =
      fact_use 𝓤 (P × Q) (via 𝓤 (conj 𝓤 (fact 𝓤 P) (fact 𝓤 Q)) (sep→conj 𝓤 (fact 𝓤 P) (fact 𝓤 Q)) (both_say 𝓛 P Q (id⊢ 𝓤 (fact 𝓤 P)) (id⊢ 𝓤 (fact 𝓤 Q))))
      (λ b. fact_i 𝓤 R (sep 𝓤 (fact 𝓤 P) (fact 𝓤 Q)) (f b.0 b.1))

  pub happen_one : (κs : Lfts 1) (a : Args happen.signature κs) (x y : Res happen.signature κs) (s t : AtExit happen.ended κs)
      → ent 𝓤 (sep 𝓤 ((happen.clauses 𝓛 mem run κs a).ensures tt x s) ((happen.clauses 𝓛 mem run κs a).ensures tt y t)) (fact 𝓤 ((x ≡ y) × (s.0.now ≡ t.0.now)))
  happen_one κs a x y s t = of_both (λ p q. (p.1 ∙ sym q.1, p.0 ∙ sym q.0))

  -- C1, C2
  pub core_live_one : (κs : Lfts 1) (a : Args live.signature κs) (x y : Res live.signature κs) (s t : AtExit live.ended κs)
      → ent 𝓤 (sep 𝓤 ((live.clauses 𝓛 mem run κs a).ensures tt x s) ((live.clauses 𝓛 mem run κs a).ensures tt y t)) (fact 𝓤 ((x ≡ y) × (s.0.now ≡ t.0.now)))
  core_live_one κs a x y s t = of_both (λ p q. (p.1 ∙ sym q.1, p.0 ∙ sym q.0))

  -- C1, C2
  pub core_inner_one : (κs : Lfts 1) (a : Args inner.signature κs) (x y : Res inner.signature κs) (s t : AtExit inner.ended κs)
      → ent 𝓤 (sep 𝓤 ((inner.clauses 𝓛 mem run κs a).ensures tt x s) ((inner.clauses 𝓛 mem run κs a).ensures tt y t)) (fact 𝓤 ((x ≡ y) × (s.0.now ≡ t.0.now)))
  core_inner_one κs a x y s t = of_both (λ p q. (p.1 ∙ sym q.1, p.0 ∙ sym q.0))

  pub core_step_one : (κs : Lfts 0) (a : Args step.signature κs) (x y : Res step.signature κs) (s t : AtExit step.ended κs)
      → ent 𝓤 (sep 𝓤 ((step.clauses 𝓛 mem run κs a).ensures tt x s) ((step.clauses 𝓛 mem run κs a).ensures tt y t)) (fact 𝓤 (x ≡ y))
  core_step_one κs a x y s t = of_both (λ p q. p ∙ sym q)

  -- C1, C2
  pub core_copy_one : (κs : Lfts 2) (a : Args copy.signature κs) (x y : Res copy.signature κs) (s t : AtExit copy.ended κs)
      → ent 𝓤 (sep 𝓤 ((copy.clauses 𝓛 mem run κs a).ensures tt x s) ((copy.clauses 𝓛 mem run κs a).ensures tt y t)) (fact 𝓤 ((x ≡ y) × (s.0.now ≡ t.0.now) × (s.1.1.0.now ≡ t.1.1.0.now)))
  core_copy_one κs a x y s t = of_both (λ p q. (p.1 ∙ sym q.1, p.0 ∙ sym q.0, p.2 ∙ sym q.2))
