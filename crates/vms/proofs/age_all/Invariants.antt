-- The VMs below `i` are older.
use Rattle.std.proofs.Common.{◌≡◌}
use Rattle.vms.specs.Records.{aged_all}
use Rattle.vms.proofs.age_all.Given as goal

abbrev pub invariant-loop-i : goal.invariant-loop-i
invariant-loop-i l = l.vms ≡ aged_all l.i l.initial.vms
