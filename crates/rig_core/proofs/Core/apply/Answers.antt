-- Refused by its row, or done; all but Start, Tick and Copy by one function (`other_arm`).
use mathlib.Core.Path.{ap, refl, ◌∙◌}
use Rattle.rig_core.proofs.Inner.{done_answer, done_core, other_arm, refused_answer, refused_core, row_law}
use Rattle.rig_core.specs.declared.Stepped.{Stepped}
use Rattle.rig_core.proofs.Core.apply.Goals as goal

pub returns-then-row-ne0-clause-core : goal.returns-then-row-ne0-clause-core
returns-then-row-ne0-clause-core c = refused_core _ _ _ (row_law _ _ _ _ _ _ c.place_of-place.ensures c.vm_at.ensures c.is_ready-ready.ensures c.row_of-row.ensures) c.if-row-ne0.true

pub returns-then-row-ne0-clause-answer : goal.returns-then-row-ne0-clause-answer
returns-then-row-ne0-clause-answer c =
    refused_answer _ _ _ (row_law _ _ _ _ _ _ c.place_of-place.ensures c.vm_at.ensures c.is_ready-ready.ensures c.row_of-row.ensures) c.if-row-ne0.true _ c.refusal.ensures

pub returns-in-Start-clause-core : goal.returns-in-Start-clause-core
returns-in-Start-clause-core c =
    done_core _ _ _ (row_law _ _ _ _ _ _ c.place_of-place.ensures c.vm_at.ensures c.is_ready-ready.ensures c.row_of-row.ensures) c.if-row-ne0.false _ c.in-Start.is _ c.begin.ensures.core

pub returns-in-Start-clause-answer : goal.returns-in-Start-clause-answer
returns-in-Start-clause-answer c =
    done_answer _ _ _ (row_law _ _ _ _ _ _ c.place_of-place.ensures c.vm_at.ensures c.is_ready-ready.ensures c.row_of-row.ensures) c.if-row-ne0.false _ c.in-Start.is _ c.begin.ensures.answer

pub returns-in-Tick-clause-core : goal.returns-in-Tick-clause-core
returns-in-Tick-clause-core c =
    done_core _ _ _ (row_law _ _ _ _ _ _ c.place_of-place.ensures c.vm_at.ensures c.is_ready-ready.ensures c.row_of-row.ensures) c.if-row-ne0.false _ c.in-Tick.is _ c.move_on.ensures.core

pub returns-in-Tick-clause-answer : goal.returns-in-Tick-clause-answer
returns-in-Tick-clause-answer c =
    done_answer _ _ _ (row_law _ _ _ _ _ _ c.place_of-place.ensures c.vm_at.ensures c.is_ready-ready.ensures c.row_of-row.ensures) c.if-row-ne0.false _ c.in-Tick.is _ c.move_on.ensures.answer

pub returns-in-Copy-clause-core : goal.returns-in-Copy-clause-core
returns-in-Copy-clause-core c =
    done_core _ _ _ (row_law _ _ _ _ _ _ c.place_of-place.ensures c.vm_at.ensures c.is_ready-ready.ensures c.row_of-row.ensures) c.if-row-ne0.false _ c.in-Copy.is _ c.move_bytes.ensures.core

pub returns-in-Copy-clause-answer : goal.returns-in-Copy-clause-answer
returns-in-Copy-clause-answer c =
    done_answer _ _ _ (row_law _ _ _ _ _ _ c.place_of-place.ensures c.vm_at.ensures c.is_ready-ready.ensures c.row_of-row.ensures) c.if-row-ne0.false _ c.in-Copy.is _ c.move_bytes.ensures.answer

pub returns-in_default-clause-core : goal.returns-in_default-clause-core
returns-in_default-clause-core c =
    done_core _ _ _ (row_law _ _ _ _ _ _ c.place_of-place.ensures c.vm_at.ensures c.is_ready-ready.ensures c.row_of-row.ensures) c.if-row-ne0.false _ refl _
    (c.change.ensures.core ∙ ap (λ (s : Stepped). s.core) (other_arm _ _ c.in_default.not-Start c.in_default.not-Tick c.in_default.not-Copy))

pub returns-in_default-clause-answer : goal.returns-in_default-clause-answer
returns-in_default-clause-answer c =
    done_answer _ _ _ (row_law _ _ _ _ _ _ c.place_of-place.ensures c.vm_at.ensures c.is_ready-ready.ensures c.row_of-row.ensures) c.if-row-ne0.false _ refl _
    (c.change.ensures.answer ∙ ap (λ (s : Stepped). s.answer) (other_arm _ _ c.in_default.not-Start c.in_default.not-Tick c.in_default.not-Copy))
