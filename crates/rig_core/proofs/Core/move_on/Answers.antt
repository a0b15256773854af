-- The change is that of a tick (`tick_law`).
use borrow.Author.Rules.{rules}
use mathlib.Core.Path.{ap, ◌∙◌}
use Rattle.basis.proofs.Laws.{length_mapped}
use Rattle.rig_core.proofs.Inner.{tick_law}
use Rattle.rig_core.specs.declared.Stepped.{Stepped}
use Rattle.rig_core.proofs.Core.move_on.Goals as goal

pub returns-clause-core : goal.returns-clause-core
returns-clause-core c =
    c.settle.ensures.core
    ∙ ap (λ (s : Stepped). s.core) (tick_law _ _ _ _ _ _ _ _ _ _ _ _ _ (search (rules, length_mapped)) c.save.ensures c.age_all.ensures c.next-self.ensures c.owner_at-owner.ensures c.served-served.ensures c.vm_at.ensures c.is_ready-ready.ensures c.runner-who.ensures c.vm_at-vm.ensures c.at-handler.ensures c.ticking-turn.ensures)

pub returns-clause-answer : goal.returns-clause-answer
returns-clause-answer c =
    c.settle.ensures.answer
    ∙ ap (λ (s : Stepped). s.answer) (tick_law _ _ _ _ _ _ _ _ _ _ _ _ _ (search (rules, length_mapped)) c.save.ensures c.age_all.ensures c.next-self.ensures c.owner_at-owner.ensures c.served-served.ensures c.vm_at.ensures c.is_ready-ready.ensures c.runner-who.ensures c.vm_at-vm.ensures c.at-handler.ensures c.ticking-turn.ensures)
