-- The change is that of a Copy (`copy_law`).
use mathlib.Core.Path.{ap, ◌∙◌}
use Rattle.copies.proofs.Requests.{request_told}
use Rattle.rig_core.proofs.Inner.{copy_law}
use Rattle.rig_core.specs.declared.Stepped.{Stepped}
use Rattle.rig_core.proofs.Core.move_bytes.Goals as goal

pub returns-clause-core : goal.returns-clause-core
returns-clause-core c =
    c.settle.ensures.core ∙ ap (λ (s : Stepped). s.core) (copy_law _ _ _ _ _ _ _ c.vm_at.ensures c.saved-saved.ensures (request_told _ _ _ _ _ c.failure_of.ensures c.told-failure.ensures) c.copying-change.ensures)

pub returns-clause-answer : goal.returns-clause-answer
returns-clause-answer c =
    c.settle.ensures.answer ∙ ap (λ (s : Stepped). s.answer) (copy_law _ _ _ _ _ _ _ c.vm_at.ensures c.saved-saved.ensures (request_told _ _ _ _ _ c.failure_of.ensures c.told-failure.ensures) c.copying-change.ensures)
