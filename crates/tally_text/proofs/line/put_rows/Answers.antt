-- The lines of the VMs below `v`.
use mathlib.Core.Path.{◌≡◌}
use native.Mathlib.Omega.{arith}
use Rattle.lines.proofs.Texts.{joined_more, joined_none}
use Rattle.tally_text.specs.Shown.{rows_text}
use Rattle.text.proofs.Adds.{adds_most}
use Rattle.tally_text.proofs.line.put_rows.Goals as goal

pub loop-v-init : goal.loop-v-init
unfolding rows_text
loop-v-init c = joined_none _ 44 _

pub loop-v-preserved : goal.loop-v-preserved
unfolding rows_text
loop-v-preserved c = joined_more _ 44 c.loop-v.invariant c.put_row.ensures

pub returns : goal.returns
returns c = let e : c.loop-v.v ≡ c.args.n = omega arith in adds_most (rw e at c.loop-v.invariant) (omega arith)
