-- The loop has counted the entries before where it stands.
use Rattle.std.proofs.Common.{◌≡◌, length, take}
use Rattle.queue.specs.Entries.{Counted}
use Rattle.queue.proofs.counts_of.Given as goal

abbrev pub invariant-loop-v : goal.invariant-loop-v
invariant-loop-v l = (length l.counts ≡ 8) × Counted l.counts (take l.v-index l.entries)
