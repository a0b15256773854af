-- Each turn counts one log more.
use Rattle.std.proofs.Common.{refl, ◌∙◌}
use Rattle.report.proofs.counted.Goals as goal
use Rattle.tally.proofs.Logs.{of_more, of_none}

pub loop-k-init : goal.loop-k-init
loop-k-init c = (refl, of_none _ _ c.none-t.ensures)

pub loop-k-preserved : goal.loop-k-preserved
loop-k-preserved c = (c.read_opened.auto.buf ∙ c.loop-k.invariant.0, of_more _ c.loop-k.invariant.1 c.with_log-t.ensures)
