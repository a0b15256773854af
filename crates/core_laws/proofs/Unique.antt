-- No second answer fits (C2): each public function of the core.
use borrow.Fn.Kinds.{Dens, ended_of, res_t}
use contract.Lifetimes.{Lfts}
use denote.Triple.Clauses.{AtExit}
use mathlib.Core.Path.{sym, ◌∙◌, ◌≡◌}
use Rattle.basis.proofs.Unique.{OneAnswer}
use Rattle.rig_core.proofs.Core.apply.Kinds as core-apply-kinds
use Rattle.rig_core.proofs.Core.apply.Reads as core-apply-reads
use Rattle.rig_core.proofs.Core.apply_copy.Kinds as core-apply-copy-kinds
use Rattle.rig_core.proofs.Core.apply_copy.Reads as core-apply-copy-reads
use Rattle.rig_core.proofs.Core.call.Kinds as core-call-kinds
use Rattle.rig_core.proofs.Core.call.Reads as core-call-reads
use Rattle.rig_core.proofs.Core.copied.Kinds as core-copied-kinds
use Rattle.rig_core.proofs.Core.copied.Reads as core-copied-reads
use Rattle.rig_core.proofs.Core.copy.Kinds as core-copy-kinds
use Rattle.rig_core.proofs.Core.copy.Reads as core-copy-reads
use Rattle.rig_core.proofs.Core.extra.Kinds as core-extra-kinds
use Rattle.rig_core.proofs.Core.extra.Reads as core-extra-reads
use Rattle.rig_core.proofs.Core.fault.Kinds as core-fault-kinds
use Rattle.rig_core.proofs.Core.fault.Reads as core-fault-reads
use Rattle.rig_core.proofs.Core.fresh.Kinds as core-fresh-kinds
use Rattle.rig_core.proofs.Core.fresh.Reads as core-fresh-reads
use Rattle.rig_core.proofs.Core.inner.Kinds as core-inner-kinds
use Rattle.rig_core.proofs.Core.inner.Reads as core-inner-reads
use Rattle.rig_core.proofs.Core.refusal.Kinds as core-refusal-kinds
use Rattle.rig_core.proofs.Core.refusal.Reads as core-refusal-reads
use Rattle.rig_core.proofs.Core.refused.Kinds as core-refused-kinds
use Rattle.rig_core.proofs.Core.refused.Reads as core-refused-reads
use Rattle.rig_core.proofs.Core.restart.Kinds as core-restart-kinds
use Rattle.rig_core.proofs.Core.restart.Reads as core-restart-reads
use Rattle.rig_core.proofs.Core.shutdown.Kinds as core-shutdown-kinds
use Rattle.rig_core.proofs.Core.shutdown.Reads as core-shutdown-reads
use Rattle.rig_core.proofs.Core.sound.Kinds as core-sound-kinds
use Rattle.rig_core.proofs.Core.sound.Reads as core-sound-reads
use Rattle.rig_core.proofs.Core.start.Kinds as core-start-kinds
use Rattle.rig_core.proofs.Core.start.Reads as core-start-reads
use Rattle.rig_core.proofs.Core.step.Kinds as core-step-kinds
use Rattle.rig_core.proofs.Core.step.Reads as core-step-reads
use Rattle.rig_core.proofs.Core.stop.Kinds as core-stop-kinds
use Rattle.rig_core.proofs.Core.stop.Reads as core-stop-reads
use Rattle.rig_core.proofs.Core.tick.Kinds as core-tick-kinds
use Rattle.rig_core.proofs.Core.tick.Reads as core-tick-reads
use Rattle.rig_core.proofs.Core.write.Kinds as core-write-kinds
use Rattle.rig_core.proofs.Core.write.Reads as core-write-reads

pub core_fresh_one : OneAnswer 0 core-fresh-kinds.ps core-fresh-kinds.r core-fresh-reads.Post
core_fresh_one κs a x y s t p q = p ∙ sym q

pub core_sound_one : OneAnswer 1 core-sound-kinds.ps core-sound-kinds.r core-sound-reads.Post
core_sound_one κs a x y s t p q = p ∙ sym q

pub core_refused_one : OneAnswer 0 core-refused-kinds.ps core-refused-kinds.r core-refused-reads.Post
core_refused_one κs a x y s t p q = p ∙ sym q

pub core_refusal_one : OneAnswer 1 core-refusal-kinds.ps core-refusal-kinds.r core-refusal-reads.Post
core_refusal_one κs a x y s t p q = p ∙ sym q

pub core_start_one : OneAnswer 0 core-start-kinds.ps core-start-kinds.r core-start-reads.Post
core_start_one κs a x y s t p q = p ∙ sym q

pub core_tick_one : OneAnswer 0 core-tick-kinds.ps core-tick-kinds.r core-tick-reads.Post
core_tick_one κs a x y s t p q = p ∙ sym q

pub core_stop_one : OneAnswer 0 core-stop-kinds.ps core-stop-kinds.r core-stop-reads.Post
core_stop_one κs a x y s t p q = p ∙ sym q

pub core_shutdown_one : OneAnswer 0 core-shutdown-kinds.ps core-shutdown-kinds.r core-shutdown-reads.Post
core_shutdown_one κs a x y s t p q = p ∙ sym q

pub core_restart_one : OneAnswer 0 core-restart-kinds.ps core-restart-kinds.r core-restart-reads.Post
core_restart_one κs a x y s t p q = p ∙ sym q

pub core_extra_one : OneAnswer 0 core-extra-kinds.ps core-extra-kinds.r core-extra-reads.Post
core_extra_one κs a x y s t p q = p ∙ sym q

pub core_call_one : OneAnswer 0 core-call-kinds.ps core-call-kinds.r core-call-reads.Post
core_call_one κs a x y s t p q = p ∙ sym q

pub core_write_one : OneAnswer 0 core-write-kinds.ps core-write-kinds.r core-write-reads.Post
core_write_one κs a x y s t p q = p ∙ sym q

pub core_fault_one : OneAnswer 0 core-fault-kinds.ps core-fault-kinds.r core-fault-reads.Post
core_fault_one κs a x y s t p q = p ∙ sym q

-- C1, C2
pub core_step_one : OneAnswer 0 core-step-kinds.ps core-step-kinds.r core-step-reads.Post
core_step_one κs a x y s t p q = p ∙ sym q

pub core_inner_one : OneAnswer 0 core-inner-kinds.ps core-inner-kinds.r core-inner-reads.Post
core_inner_one κs a x y s t p q = p ∙ sym q

pub core_copy_one : OneAnswer 1 core-copy-kinds.ps core-copy-kinds.r core-copy-reads.Post
core_copy_one κs a x y s t p q = p.0 ∙ sym q.0

-- nor a second content of the window
pub core_copy_one_window : (κs : Lfts 1) (a : Dens κs core-copy-kinds.ps) (x y : (res_t core-copy-kinds.r κs).Denot) (s t : AtExit (ended_of 1 core-copy-kinds.ps core-copy-kinds.r) κs)
    → core-copy-reads.Post κs a x s → core-copy-reads.Post κs a y t → s.1.1.0.now ≡ t.1.1.0.now
core_copy_one_window κs a x y s t p q = p.1 ∙ sym q.1

pub core_copied_one : OneAnswer 1 core-copied-kinds.ps core-copied-kinds.r core-copied-reads.Post
core_copied_one κs a x y s t p q = p.0 ∙ sym q.0

pub core_copied_one_window : (κs : Lfts 1) (a : Dens κs core-copied-kinds.ps) (x y : (res_t core-copied-kinds.r κs).Denot) (s t : AtExit (ended_of 1 core-copied-kinds.ps core-copied-kinds.r) κs)
    → core-copied-reads.Post κs a x s → core-copied-reads.Post κs a y t → s.1.1.0.now ≡ t.1.1.0.now
core_copied_one_window κs a x y s t p q = p.1 ∙ sym q.1

-- C1, C2: where the core stands, no second answer, and no second core
pub core_apply_one : OneAnswer 1 core-apply-kinds.ps core-apply-kinds.r core-apply-reads.Post
core_apply_one κs a x y s t p q = p.1 ∙ sym q.1

pub core_apply_one_core : (κs : Lfts 1) (a : Dens κs core-apply-kinds.ps) (x y : (res_t core-apply-kinds.r κs).Denot) (s t : AtExit (ended_of 1 core-apply-kinds.ps core-apply-kinds.r) κs)
    → core-apply-reads.Post κs a x s → core-apply-reads.Post κs a y t → s.0.now ≡ t.0.now
core_apply_one_core κs a x y s t p q = p.0 ∙ sym q.0

pub core_apply_copy_one : OneAnswer 2 core-apply-copy-kinds.ps core-apply-copy-kinds.r core-apply-copy-reads.Post
core_apply_copy_one κs a x y s t p q = p.1.0 ∙ sym q.1.0

pub core_apply_copy_one_core : (κs : Lfts 2) (a : Dens κs core-apply-copy-kinds.ps) (x y : (res_t core-apply-copy-kinds.r κs).Denot) (s t : AtExit (ended_of 2 core-apply-copy-kinds.ps core-apply-copy-kinds.r) κs)
    → core-apply-copy-reads.Post κs a x s → core-apply-copy-reads.Post κs a y t → s.0.now ≡ t.0.now
core_apply_copy_one_core κs a x y s t p q = p.0 ∙ sym q.0

pub core_apply_copy_one_window : (κs : Lfts 2) (a : Dens κs core-apply-copy-kinds.ps) (x y : (res_t core-apply-copy-kinds.r κs).Denot) (s t : AtExit (ended_of 2 core-apply-copy-kinds.ps core-apply-copy-kinds.r) κs)
    → core-apply-copy-reads.Post κs a x s → core-apply-copy-reads.Post κs a y t → s.1.1.0.now ≡ t.1.1.0.now
core_apply_copy_one_window κs a x y s t p q = p.1.1 ∙ sym q.1.1
