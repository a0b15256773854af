-- An extent that fits and has bytes has its bounds; one without bytes, or onto itself, changes nothing.
use borrow.Author.Rules.{rules}
use native.Mathlib.Omega.{arith}
use Rattle.window.proofs.Inside.{fits_bounds}
use Rattle.window.proofs.Laws.{moved_is, moved_none, moved_same}
use Rattle.window.specs.Pieces.{window_of}
use Rattle.window.proofs.copy_extent.Goals as goal
use Rattle.window.proofs.copy_extent.Goals.{else-x-ne0-via-then-x-ne0+else-x, else-x-ne0-via-else-x-ne0}

pub overflow_sub-from : goal.overflow_sub-from
overflow_sub-from c = let a = c.args in
    (fits_bounds (window_of a.base a.m.now) a.x.now c.requires c.if-x-ne0.true).from

pub overflow_sub-to : goal.overflow_sub-to
overflow_sub-to c = let a = c.args in
    (fits_bounds (window_of a.base a.m.now) a.x.now c.requires c.if-x-ne0.true).to

pub copy_within-requires-clause-in_bounds : goal.copy_within-requires-clause-in_bounds
copy_within-requires-clause-in_bounds c = let a = c.args in
    let b = fits_bounds (window_of a.base a.m.now) a.x.now c.requires c.if-x-ne0.true in
    omega (arith, b.from, b.from_end)

pub copy_within-requires-clause-dest_in_bounds : goal.copy_within-requires-clause-dest_in_bounds
copy_within-requires-clause-dest_in_bounds c = let a = c.args in
    let b = fits_bounds (window_of a.base a.m.now) a.x.now c.requires c.if-x-ne0.true in
    omega (arith, b.to, b.to_end)

pub returns-then-x : goal.returns-then-x
returns-then-x c = let a = c.args in moved_is a.base a.x.now a.m.now c.copy_within.new.self c.copy_within.ensures.after

pub returns-else-x-ne0 : goal.returns-else-x-ne0
returns-else-x-ne0 c = let a = c.args in
    elim c.else-x-ne0.branch [
      | else-x-ne0-via-then-x-ne0+else-x w ↦ moved_same a.base a.x.now a.m.now (search (rules, w.if-x))
      | else-x-ne0-via-else-x-ne0 w ↦ moved_none a.base a.x.now a.m.now (search (rules, w.if-x-ne0))
    ]
