-- The loop has kept the entries before where it stands that are not for v.
use Rattle.std.proofs.Common.{◌≡◌, length, take}
use Rattle.queue.proofs.Lists.{pad}
use Rattle.queue.specs.Entries.{others}
use Rattle.queue.proofs.Queue.others.Given as goal

abbrev pub invariant-loop-entry : goal.invariant-loop-entry
invariant-loop-entry l = (l.n ≡ length (others l.v (take l.entry-index l.entries))) × (l.items ≡ pad (others l.v (take l.entry-index l.entries)))
