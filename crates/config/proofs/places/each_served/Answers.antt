-- Each VM below `v` has a slot.
use Rattle.std.proofs.Common.{sym, ◌∙◌, arith}
use Rattle.basis.proofs.Laws.{every_miss, every_more, turns}
use Rattle.config.proofs.places.each_served.Goals as goal

pub loop-v-init : goal.loop-v-init
loop-v-init c = search turns

pub loop-v-preserved : goal.loop-v-preserved
loop-v-preserved c = (omega arith, every_more _ _ _ _ c.loop-v.invariant.1 (rw (← c.has_slot.ensures, c.if-has_slot.true)))

pub returns-else-has_slot : goal.returns-else-has_slot
returns-else-has_slot c = every_miss _ _ c.loop-v.v (omega arith) (sym c.has_slot.ensures ∙ c.if-has_slot.false)
