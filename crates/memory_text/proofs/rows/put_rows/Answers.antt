-- The rows below `k` are put.
use mathlib.Core.Path.{◌≡◌}
use native.Mathlib.Omega.{arith}
use Rattle.lines.proofs.Texts.{joined_more, joined_none}
use Rattle.memory_text.specs.Memory.{rows_text}
use Rattle.memory_text.proofs.rows.put_rows.Goals as goal

pub loop-k-init : goal.loop-k-init
unfolding rows_text
loop-k-init c = joined_none _ 81 _

pub loop-k-preserved : goal.loop-k-preserved
unfolding rows_text
loop-k-preserved c = joined_more _ 81 c.loop-k.invariant c.put_row.ensures

pub returns : goal.returns
returns c = let e : c.loop-k.k ≡ 512 = omega arith in rw e at c.loop-k.invariant
