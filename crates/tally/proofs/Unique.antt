-- No second answer fits (C2): two answers that meet a function's contract are equal. `Post` is the contract as the source has it.
use Rattle.std.proofs.Common.{sym, ◌∙◌}
use Rattle.basis.proofs.Unique.{OneAnswer}
use Rattle.tally.proofs.Tally.none.Kinds as nones
use Rattle.tally.proofs.Tally.none.Reads as beginning
use Rattle.tally.proofs.Tally.with_log.Kinds as with-logs
use Rattle.tally.proofs.Tally.with_log.Reads as counting

pub none_one : OneAnswer 0 nones.ps nones.r beginning.Post
none_one κs a x y s t p q = p ∙ sym q

-- C1, C2
pub with_log_one : OneAnswer 2 with-logs.ps with-logs.r counting.Post
with_log_one κs a x y s t p q = p ∙ sym q
