-- The rows below `k` are put.
use Prim.Native.Nat.{◌*◌}
use Rattle.memory_text.specs.Memory.{rows_text}
use Rattle.text.specs.Adds.{Adds}
use Rattle.memory_text.proofs.rows.put_rows.Given as goal

abbrev pub invariant-loop-k : goal.invariant-loop-k
invariant-loop-k l = Adds (rows_text l.m l.k) (l.k * 81) l.initial.page l.page
