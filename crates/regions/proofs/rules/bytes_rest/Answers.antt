-- The bytes of the places from `n` on, below `k`, are joined.
use lib.ListN.{get_or}
use mathlib.Core.Path.{refl, sym}
use native.Mathlib.Omega.{arith}
use Rattle.basis.proofs.Bounds.{rest_both, rest_more, rest_none}
use Rattle.basis.proofs.Laws.{every_end}
use Rattle.regions.proofs.rules.bytes_rest.Goals as goal

pub loop-k-init : goal.loop-k-init
loop-k-init c = sym (rest_none _ c.args.r.now.holders c.args.r.now.permissions)

pub loop-k-preserved : goal.loop-k-preserved
loop-k-preserved c = rest_more _ _ _ (get_or c.args.r.now.holders c.loop-k.k 0) (get_or c.args.r.now.permissions c.loop-k.k 0) _ c.loop-k.bits _ refl c.loop-k.auto.k c.loop-k.invariant refl refl

pub returns : goal.returns
returns c = rest_both _ c.args.r.now.holders c.args.r.now.permissions _ (every_end _ _ _ _ c.loop-k.invariant (omega arith))
