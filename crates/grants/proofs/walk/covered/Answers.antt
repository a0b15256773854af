-- Every byte from the first on, below `at`, is granted.
use mathlib.Core.Path.{sym, ◌∙◌, ◌≡◌}
use native.Mathlib.Omega.{arith}
use Rattle.grants.proofs.Reaching.{reach_far, reached_is, reached_none, walk_done, walk_miss, walk_more}
use Rattle.grants.specs.Cover.{reach}
use Rattle.grants.proofs.walk.covered.Goals as goal

pub loop-at-smaller : goal.loop-at-smaller
loop-at-smaller c = let next = c.in-Some.next in
    let r : (next ≡ reach c.args.r.now c.args.v c.args.way c.loop-at.at c.args.r.now.count) × (next ≡ 0 → ⊥) = reached_is _ _ (sym c.reach.ensures ∙ c.in-Some.is) in
    omega (arith, (reach_far _ _ _ _ _ r.0 r.1).0)

pub loop-at-preserved : goal.loop-at-preserved
loop-at-preserved c = let next = c.in-Some.next in
    let r : (next ≡ reach c.args.r.now c.args.v c.args.way c.loop-at.at c.args.r.now.count) × (next ≡ 0 → ⊥) = reached_is _ _ (sym c.reach.ensures ∙ c.in-Some.is) in
    (omega (arith, (reach_far _ _ _ _ _ r.0 r.1).0), walk_more _ _ _ _ _ _ c.loop-at.invariant.1 r.0 r.1)

pub returns-in-None : goal.returns-in-None
returns-in-None c = walk_miss _ _ _ _ _ _ c.loop-at.invariant.0 c.loop-at-test.true (reached_none _ (sym c.reach.ensures ∙ c.in-None.is))

pub returns : goal.returns
returns c = walk_done _ _ _ _ _ _ c.requires.1 c.loop-at-test.false c.loop-at.invariant.1
