-- No slot below `k` names the VM.
use Rattle.std.proofs.Common.{arith, eq-eqb, ne_eqb}
use Rattle.basis.proofs.Laws.{some_hit, some_more, turns}
use Rattle.config.proofs.places.has_slot.Goals as goal

pub loop-k-init : goal.loop-k-init
loop-k-init c = search turns

pub returns-then-owners-k : goal.returns-then-owners-k
returns-then-owners-k c = some_hit _ _ c.loop-k.k (omega arith) (eq-eqb _ _ c.if-owners-k.true)

pub loop-k-preserved : goal.loop-k-preserved
loop-k-preserved c = (omega arith, some_more _ _ _ _ c.loop-k.invariant.1 (rw (ne_eqb _ _ c.if-owners-k.false)))
