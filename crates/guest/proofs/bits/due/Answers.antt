-- What is due is the highest of the numbers where the walk stands and below.
use Rattle.std.proofs.Common.{◌≡◌, false, rules}
use Rattle.guest.proofs.Laws.{in_both, out_enabled, out_pending, walk_ends, walk_goes, walk_hits, walk_starts}
use Rattle.guest.proofs.bits.due.Goals as goal
use Rattle.guest.proofs.bits.due.Goals.{else-has_bit-via-then-has_bit+else-has_bit-2, else-has_bit-via-else-has_bit}

pub loop-status-init : goal.loop-status-init
loop-status-init c = (search rules, search (rules, walk_starts))

pub loop-status-preserved : goal.loop-status-preserved
loop-status-preserved c = let s = c.args.status in
    let n = c.loop-status.n in
    let p = c.has_bit.ensures in
    let out : in_both s n ≡ false = elim c.else-has_bit.branch [ else-has_bit-via-then-has_bit+else-has_bit-2 w ↦ out_enabled s n _ _ p w.has_bit-then-has_bit.ensures w.if-has_bit.true w.if-has_bit-2.false | else-has_bit-via-else-has_bit w ↦ out_pending s n _ p w.if-has_bit.false ] in
    (search rules, walk_goes s n c.loop-status.invariant.1 out c.if-n-eq0.false)

pub returns-then-has_bit-2 : goal.returns-then-has_bit-2
returns-then-has_bit-2 c = search (rules, walk_hits)

pub returns-then-n-eq0 : goal.returns-then-n-eq0
returns-then-n-eq0 c = let s = c.args.status in
    let n = c.loop-status.n in
    let p = c.has_bit.ensures in
    let out : in_both s n ≡ false = elim c.else-has_bit.branch [ else-has_bit-via-then-has_bit+else-has_bit-2 w ↦ out_enabled s n _ _ p w.has_bit-then-has_bit.ensures w.if-has_bit.true w.if-has_bit-2.false | else-has_bit-via-else-has_bit w ↦ out_pending s n _ p w.if-has_bit.false ] in
    walk_ends s n c.loop-status.invariant.1 out c.if-n-eq0.true
