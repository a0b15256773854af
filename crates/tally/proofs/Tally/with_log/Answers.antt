-- Nothing where the image is refused or the log is too long; else what its events show.
use mathlib.Core.Path.{refl}
use Rattle.image_reader.proofs.Faults.{fault_some}
use Rattle.tally.proofs.Whole.{log_long, log_refused, log_run}
use Rattle.std.proofs.Common.{arith}
use Rattle.tally.proofs.Tally.with_log.Goals as goal

pub returns-in_default : goal.returns-in_default
returns-in_default c = log_refused _ _ _ c.in_default.ensures (fault_some c.in_default.field-0.fault)

pub returns-then-log-gt-LONGEST : goal.returns-then-log-gt-LONGEST
returns-then-log-gt-LONGEST c = log_long _ _ _ c.in-Ok.ensures refl (omega (arith, c.if-log-gt-LONGEST.true))

pub returns : goal.returns
returns c = log_run _ _ _ c.in-Ok.ensures (λ i. (c.type_inv.image i).fits) refl (omega (arith, c.if-log-gt-LONGEST.false)) c.run.ensures
