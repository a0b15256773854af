-- The first record that fails, or none.
use Rattle.std.proofs.Common.{refl, sym, ◌∙◌, true, arith}
use borrow.Author.Tests.{le-ltb, lt-ltb}
use Rattle.basis.proofs.Laws.{every_end, every_miss, every_more}
use Rattle.basis.specs.Count.{every}
use Rattle.vms.proofs.Laws.{unused_fresh}
use Rattle.vms.specs.Records.{rest_fresh}
use Rattle.vms.proofs.rest_fresh.Goals as goal
use Rattle.vms.proofs.rest_fresh.Goals.{else-count-k-via-then-count-k+else-not-is_fresh, else-count-k-via-else-count-k}

pub loop-k-init : goal.loop-k-init
unfolding every
loop-k-init c = refl

pub returns-then-not-is_fresh : goal.returns-then-not-is_fresh
unfolding rest_fresh
returns-then-not-is_fresh c =
    every_miss (unused_fresh c.args.count c.args.vms.now) 8 c.loop-k.k (omega (arith, c.loop-k-test.true))
    (rw (le-ltb _ _ c.if-count-k.true) (sym c.is_fresh.ensures ∙ c.if-not-is_fresh.true))

pub loop-k-preserved : goal.loop-k-preserved
loop-k-preserved c =
    every_more _ c.loop-k.k true true c.loop-k.invariant
    (elim c.else-count-k.branch [
      | else-count-k-via-then-count-k+else-not-is_fresh w ↦ rw (le-ltb _ _ w.if-count-k.true, ← w.is_fresh.ensures, w.if-not-is_fresh.false)
      | else-count-k-via-else-count-k w ↦ rw (lt-ltb _ _ w.if-count-k.false)
    ])

pub returns : goal.returns
unfolding rest_fresh
returns c = every_end _ c.loop-k.k 8 true c.loop-k.invariant (omega arith)
