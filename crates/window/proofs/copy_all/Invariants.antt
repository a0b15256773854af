-- After k turns: the memory with the first k extents copied.
use lib.ListN.{length, take}
use mathlib.Core.Path.{◌≡◌}
use Rattle.window.specs.Pieces.{copied_all}
use Rattle.window.proofs.copy_all.Given as goal

abbrev pub invariant-loop-x : goal.invariant-loop-x
invariant-loop-x l = (length l.m ≡ length l.initial.m) × (l.m ≡ copied_all l.base (take l.x-index l.x-items) l.initial.m)
