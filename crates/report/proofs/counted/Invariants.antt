-- Each turn counts one log more.
use lib.ListN.{length}
use mathlib.Core.Path.{◌≡◌}
use Rattle.tally.specs.Counting.{OfLogs}
use Rattle.report.proofs.counted.Given as goal

abbrev pub invariant-loop-k : goal.invariant-loop-k
invariant-loop-k l = (length l.log ≡ length l.initial.log) × OfLogs l.image l.k l.t
