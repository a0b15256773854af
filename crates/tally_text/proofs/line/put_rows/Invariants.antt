-- The lines of the VMs below `v`.
use Prim.Native.Nat.{◌*◌}
use Rattle.tally_text.specs.Shown.{rows_text}
use Rattle.text.specs.Adds.{Adds}
use Rattle.tally_text.proofs.line.put_rows.Given as goal

abbrev pub invariant-loop-v : goal.invariant-loop-v
invariant-loop-v l = Adds (rows_text l.t l.v) (l.v * 44) l.initial.page l.page
