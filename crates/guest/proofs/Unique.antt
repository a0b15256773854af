-- No second answer fits (C2): each public function.
use Rattle.std.proofs.Common.{sym, ◌∙◌}
use Rattle.basis.proofs.Unique.{OneAnswer}
use Rattle.guest.proofs.Vm.delivered.Kinds as delivered-kinds
use Rattle.guest.proofs.Vm.delivered.Reads as delivered-reads
use Rattle.guest.proofs.Vm.ended.Kinds as ended-kinds
use Rattle.guest.proofs.Vm.ended.Reads as ended-reads
use Rattle.guest.proofs.Vm.entered.Kinds as entered-kinds
use Rattle.guest.proofs.Vm.entered.Reads as entered-reads
use Rattle.guest.proofs.Vm.entered_if.Kinds as entered-if-kinds
use Rattle.guest.proofs.Vm.entered_if.Reads as entered-if-reads
use Rattle.guest.proofs.Vm.fresh.Kinds as fresh-kinds
use Rattle.guest.proofs.Vm.fresh.Reads as fresh-reads
use Rattle.guest.proofs.Vm.is_field.Kinds as is-field-kinds
use Rattle.guest.proofs.Vm.is_field.Reads as is-field-reads
use Rattle.guest.proofs.Vm.is_fresh.Kinds as is-fresh-kinds
use Rattle.guest.proofs.Vm.is_fresh.Reads as is-fresh-reads
use Rattle.guest.proofs.Vm.is_ready.Kinds as is-ready-kinds
use Rattle.guest.proofs.Vm.is_ready.Reads as is-ready-reads
use Rattle.guest.proofs.Vm.older.Kinds as older-kinds
use Rattle.guest.proofs.Vm.older.Reads as older-reads
use Rattle.guest.proofs.Vm.pended.Kinds as pended-kinds
use Rattle.guest.proofs.Vm.pended.Reads as pended-reads
use Rattle.guest.proofs.Vm.returned.Kinds as returned-kinds
use Rattle.guest.proofs.Vm.returned.Reads as returned-reads
use Rattle.guest.proofs.Vm.saved.Kinds as saved-kinds
use Rattle.guest.proofs.Vm.saved.Reads as saved-reads
use Rattle.guest.proofs.Vm.started.Kinds as started-kinds
use Rattle.guest.proofs.Vm.started.Reads as started-reads
use Rattle.guest.proofs.Vm.written.Kinds as written-kinds
use Rattle.guest.proofs.Vm.written.Reads as written-reads

pub guest_fresh_one : OneAnswer 0 fresh-kinds.ps fresh-kinds.r fresh-reads.Post
guest_fresh_one κs a x y s t p q = p ∙ sym q

pub guest_started_one : OneAnswer 0 started-kinds.ps started-kinds.r started-reads.Post
guest_started_one κs a x y s t p q = p ∙ sym q

pub guest_is_ready_one : OneAnswer 0 is-ready-kinds.ps is-ready-kinds.r is-ready-reads.Post
guest_is_ready_one κs a x y s t p q = p ∙ sym q

pub guest_is_fresh_one : OneAnswer 0 is-fresh-kinds.ps is-fresh-kinds.r is-fresh-reads.Post
guest_is_fresh_one κs a x y s t p q = p ∙ sym q

pub guest_saved_one : OneAnswer 0 saved-kinds.ps saved-kinds.r saved-reads.Post
guest_saved_one κs a x y s t p q = p ∙ sym q

pub guest_older_one : OneAnswer 0 older-kinds.ps older-kinds.r older-reads.Post
guest_older_one κs a x y s t p q = p ∙ sym q

pub guest_ended_one : OneAnswer 0 ended-kinds.ps ended-kinds.r ended-reads.Post
guest_ended_one κs a x y s t p q = p ∙ sym q

pub guest_pended_one : OneAnswer 0 pended-kinds.ps pended-kinds.r pended-reads.Post
guest_pended_one κs a x y s t p q = p ∙ sym q

pub guest_delivered_one : OneAnswer 0 delivered-kinds.ps delivered-kinds.r delivered-reads.Post
guest_delivered_one κs a x y s t p q = p ∙ sym q

pub guest_entered_one : OneAnswer 0 entered-kinds.ps entered-kinds.r entered-reads.Post
guest_entered_one κs a x y s t p q = p ∙ sym q

pub guest_entered_if_one : OneAnswer 0 entered-if-kinds.ps entered-if-kinds.r entered-if-reads.Post
guest_entered_if_one κs a x y s t p q = p ∙ sym q

pub guest_returned_one : OneAnswer 0 returned-kinds.ps returned-kinds.r returned-reads.Post
guest_returned_one κs a x y s t p q = p ∙ sym q

pub guest_written_one : OneAnswer 0 written-kinds.ps written-kinds.r written-reads.Post
guest_written_one κs a x y s t p q = p ∙ sym q

pub guest_is_field_one : OneAnswer 0 is-field-kinds.ps is-field-kinds.r is-field-reads.Post
guest_is_field_one κs a x y s t p q = p ∙ sym q
