-- The records below `k` are in use, or fresh.
use Rattle.std.proofs.Common.{◌≡◌, true}
use Rattle.vms.proofs.Laws.{unused_fresh}
use Rattle.basis.specs.Count.{every}
use Rattle.vms.proofs.rest_fresh.Given as goal

abbrev pub invariant-loop-k : goal.invariant-loop-k
invariant-loop-k l = true ≡ every (unused_fresh l.count l.vms) l.k
