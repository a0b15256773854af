-- After k turns: the memory with the first k extents copied.
use lib.ListN.{take}
use mathlib.Core.Path.{refl, ◌∙◌}
use Rattle.window.proofs.Laws.{copied_more, copied_none}
use Rattle.window.proofs.copy_all.Goals as goal

pub loop-x-init : goal.loop-x-init
loop-x-init c = (refl, copied_none c.args.base c.args.xs c.args.m.now)

pub loop-x-preserved : goal.loop-x-preserved
loop-x-preserved c = let a = c.args in
    let l = c.loop-x in
    let d = c.copy_extent in
    (d.auto.m ∙ l.invariant.0, copied_more a.base (take a.n a.xs) l.x-index a.m.now l.m d.new.m c.loop-x-test.true l.invariant.1 d.ensures)
