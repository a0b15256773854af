-- The loop has kept the entries before where it stands that are not for v.
use Rattle.std.proofs.Common.{rules, sym, arith, refl, ap, ◌∙◌, length}
use Rattle.queue.proofs.Lists.{pad}
use Rattle.queue.proofs.Meaning.{entries_most}
use Rattle.queue.proofs.Turns.{kept_more, kept_same, kept_short, without_is}
use Rattle.queue.specs.Entries.{others}
use Rattle.queue.proofs.Queue.others.Goals.{then-entry-v, else-entry-v}
use Rattle.queue.proofs.Queue.others.Goals as goal

pub loop-entry-init : goal.loop-entry-init
unfolding others
loop-entry-init c = (refl, refl)

pub bounds-items-n : goal.bounds-items-n
bounds-items-n c =
    omega (arith, c.loop-entry.invariant.0, kept_short c.args.v c.entries-entries.result.now c.loop-entry.entry-index, c.loop-entry-test.true, ap length c.entries-entries.ensures, entries_most c.args.self.now (search rules))

pub overflow_add-n : goal.overflow_add-n
overflow_add-n c =
    omega (arith, c.loop-entry.invariant.0, kept_short c.args.v c.entries-entries.result.now c.loop-entry.entry-index, c.loop-entry-test.true, ap length c.entries-entries.ensures, entries_most c.args.self.now (search rules))

pub loop-entry-preserved : goal.loop-entry-preserved
loop-entry-preserved c = let l = c.entries-entries.result.now in
    let k = c.loop-entry.entry-index in
    let few = entries_most c.args.self.now (search rules) in
    let i = c.loop-entry.invariant in
    elim c.if-entry-v.branch [
      | then-entry-v w ↦ (let m = kept_more c.args.v l c.loop-entry.items k c.loop-entry.n (omega (arith, few, ap length c.entries-entries.ensures)) c.loop-entry-test.true w.if-entry-v.true i.0 i.1 in
          (w.n-is ∙ m.0, w.items-is ∙ m.1))
      | else-entry-v w ↦ (let m = kept_same c.args.v l k c.loop-entry-test.true w.if-entry-v.false in (w.n-is ∙ i.0 ∙ ap length (sym m), w.items-is ∙ i.1 ∙ ap pad (sym m)))
    ]

pub overflow_cast-result : goal.overflow_cast-result
overflow_cast-result c =
    omega (arith, c.loop-entry.invariant.0, kept_short c.args.v c.entries-entries.result.now c.loop-entry.entry-index, c.loop-entry.auto.entry-index-end, ap length c.entries-entries.ensures, entries_most c.args.self.now (search rules))

pub returns : goal.returns
returns c =
    without_is c.args.v c.entries-entries.result.now _ c.loop-entry.items c.loop-entry.entry-index c.loop-entry.n _ _ c.entries-entries.ensures c.loop-entry-test.false c.loop-entry.invariant.0 c.loop-entry.invariant.1 c.with_count.ensures
