-- The event, and then its bytes: they stay where it was refused or failed, and else the extents fit.
use mathlib.Core.Path.{ap, refl, sym, ◌∙◌}
use Rattle.change.specs.declared.Answer.{Answer}
use Rattle.rig_core.proofs.Copying.{by_row, copies_done, inner_fit, stays_failed, stays_refused}
use Rattle.rig_core.specs.Events.{inner_of}
use Rattle.rig_core.specs.Memory.{copy_in}
use Rattle.rig_core.proofs.Core.apply_copy.Goals as goal
use Rattle.rig_core.proofs.Core.apply_copy.Goals.{else-answer-eq0-via-then-answer-eq0+else-answer-eq0-2, else-answer-eq0-via-else-answer-eq0}

pub copy_all-requires : goal.copy_all-requires
copy_all-requires c =
    let s = inner_of c.args.self.now (copy_in c.args.p c.args.base c.args.m.now) in
    rw c.extents.ensures
    (inner_fit _ _ _ s refl (sym (ap (λ (a : Answer). a.refusal) c.apply-answer.ensures.answer) ∙ c.if-answer-eq0.true)
    (sym (ap (λ (a : Answer). a.notice.kind) c.apply-answer.ensures.answer) ∙ c.if-answer-eq0-2.true))

pub returns-then-answer-eq0-2-clause-memory : goal.returns-then-answer-eq0-2-clause-memory
returns-then-answer-eq0-2-clause-memory c =
    let s = inner_of c.args.self.now (copy_in c.args.p c.args.base c.args.m.now) in
    copies_done _ _ _ _ s (by_row _ _ _ refl) _ _ _ (sym (ap (λ (a : Answer). a.refusal) c.apply-answer.ensures.answer) ∙ c.if-answer-eq0.true)
    (sym (ap (λ (a : Answer). a.notice.kind) c.apply-answer.ensures.answer) ∙ c.if-answer-eq0-2.true) c.extents.ensures c.copy_all.ensures

pub returns-else-answer-eq0-clause-memory : goal.returns-else-answer-eq0-clause-memory
returns-else-answer-eq0-clause-memory c =
    let s = inner_of c.args.self.now (copy_in c.args.p c.args.base c.args.m.now) in
    elim c.else-answer-eq0.branch [
      | else-answer-eq0-via-then-answer-eq0+else-answer-eq0-2 w ↦
          stays_failed _ _ _ _ s (by_row _ _ _ refl) _ (sym (ap (λ (a : Answer). a.refusal) c.apply-answer.ensures.answer) ∙ w.if-answer-eq0.true)
          (λ z. w.if-answer-eq0-2.false (ap (λ (a : Answer). a.notice.kind) c.apply-answer.ensures.answer ∙ z))
      | else-answer-eq0-via-else-answer-eq0 w ↦
          stays_refused _ _ _ _ s (by_row _ _ _ refl) _ (λ z. w.if-answer-eq0.false (ap (λ (a : Answer). a.refusal) c.apply-answer.ensures.answer ∙ z))
    ]
