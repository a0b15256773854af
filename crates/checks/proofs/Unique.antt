-- No second answer fits (C2): two answers that meet a function's contract are equal. `Post` is the contract as the source has it.
use mathlib.Core.Path.{sym, ◌∙◌}
use Rattle.basis.proofs.Unique.{OneAnswer}
use Rattle.checks.proofs.rows.of_ready.Kinds as of-readys
use Rattle.checks.proofs.rows.of_ready.Reads as of-ready
use Rattle.checks.proofs.rows.of_any.Kinds as of-anys
use Rattle.checks.proofs.rows.of_any.Reads as of-any
use Rattle.checks.proofs.rows.of_request.Kinds as of-requests
use Rattle.checks.proofs.rows.of_request.Reads as of-request
use Rattle.checks.proofs.rows.of_running.Kinds as of-runnings
use Rattle.checks.proofs.rows.of_running.Reads as of-running
use Rattle.checks.proofs.rows.of_write.Kinds as of-writes
use Rattle.checks.proofs.rows.of_write.Reads as of-write
use Rattle.checks.proofs.rows.of_fault.Kinds as of-faults
use Rattle.checks.proofs.rows.of_fault.Reads as of-fault
use Rattle.checks.proofs.sound.parts_sound.Kinds as parts-sounds
use Rattle.checks.proofs.sound.parts_sound.Reads as parts-sound
use Rattle.checks.proofs.rows.of_start.Kinds as of-starts
use Rattle.checks.proofs.rows.of_start.Reads as of-start
use Rattle.checks.proofs.rows.of_tick.Kinds as of-ticks
use Rattle.checks.proofs.rows.of_tick.Reads as of-tick

pub of_ready_one : OneAnswer 0 of-readys.ps of-readys.r of-ready.Post
of_ready_one κs a x y s t p q = p ∙ sym q

pub of_any_one : OneAnswer 0 of-anys.ps of-anys.r of-any.Post
of_any_one κs a x y s t p q = p ∙ sym q

pub of_request_one : OneAnswer 0 of-requests.ps of-requests.r of-request.Post
of_request_one κs a x y s t p q = p ∙ sym q

pub of_running_one : OneAnswer 0 of-runnings.ps of-runnings.r of-running.Post
of_running_one κs a x y s t p q = p ∙ sym q

pub of_write_one : OneAnswer 0 of-writes.ps of-writes.r of-write.Post
of_write_one κs a x y s t p q = p ∙ sym q

pub of_fault_one : OneAnswer 0 of-faults.ps of-faults.r of-fault.Post
of_fault_one κs a x y s t p q = p ∙ sym q

pub parts_sound_one : OneAnswer 5 parts-sounds.ps parts-sounds.r parts-sound.Post
parts_sound_one κs a x y s t p q = p ∙ sym q

pub of_start_one : OneAnswer 0 of-starts.ps of-starts.r of-start.Post
of_start_one κs a x y s t p q = p ∙ sym q

pub of_tick_one : OneAnswer 0 of-ticks.ps of-ticks.r of-tick.Post
of_tick_one κs a x y s t p q = p ∙ sym q
