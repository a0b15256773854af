-- The VMs below `k` are started.
use Rattle.std.proofs.Common.{◌≡◌}
use Rattle.vms.specs.Records.{started_all}
use Rattle.vms.proofs.start_all.Given as goal

abbrev pub invariant-loop-k : goal.invariant-loop-k
invariant-loop-k l = l.vms ≡ started_all l.k l.entries l.initial.vms
