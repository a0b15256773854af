-- The places before where the loop stands hold zero.
use Rattle.std.proofs.Common.{◌≡◌, ◌+◌, length}
use Rattle.basis.specs.Count.{every}
use Rattle.queue.proofs.Turns.{pads}
use Rattle.queue.specs.Entries.{entries}
use Rattle.queue.proofs.Queue.padded.Given as goal

abbrev pub invariant-loop-item : goal.invariant-loop-item
invariant-loop-item l = l.padded ≡ every (pads l.self) (length (entries l.self) + l.item-index)
