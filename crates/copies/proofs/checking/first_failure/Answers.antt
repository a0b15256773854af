-- Nothing fails in the extents below `k`.
use native.Mathlib.Omega.{arith}
use Rattle.copies.proofs.Failing.{extent_clean, first_end, first_hit, first_none, first_pass}
use Rattle.copies.proofs.checking.first_failure.Goals as goal

pub loop-k-init : goal.loop-k-init
loop-k-init c = first_none _ (extent_clean _ _) c.args.extents.now

pub loop-k-preserved : goal.loop-k-preserved
loop-k-preserved c = first_pass _ (extent_clean _ _) c.args.extents.now c.loop-k.k _ _ (omega arith) c.loop-k.invariant c.extent_failure-failure.ensures c.is_some.ensures c.if-is_some.false

pub returns-then-is_some : goal.returns-then-is_some
returns-then-is_some c = first_hit _ (extent_clean _ _) c.args.extents.now c.args.n c.loop-k.k _ _ (omega arith) (omega arith) c.loop-k.invariant c.extent_failure-failure.ensures c.is_some.ensures c.if-is_some.true

pub returns : goal.returns
returns c = first_end _ (extent_clean _ _) c.args.extents.now c.args.n c.loop-k.k c.loop-k.invariant (omega arith)
