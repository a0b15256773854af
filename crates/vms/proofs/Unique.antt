-- No second outcome fits (C2): one answer for each reader, and for each writer one list of records.
use borrow.Fn.Kinds.{Dens, Out, ParamKind, ResultKind, ended_of, res_t}
use contract.Lifetimes.{Lfts}
use denote.Triple.Clauses.{AtExit}
use mathlib.Core.List.{List}
use mathlib.Core.Path.{◌∙◌, ◌≡◌, sym}
use Rattle.basis.proofs.Unique.{OneAnswer}
use Rattle.vms.proofs.number_of.Kinds as number-of-kinds
use Rattle.vms.proofs.number_of.Reads as number-of-reads
use Rattle.vms.proofs.rest_fresh.Kinds as rest-fresh-kinds
use Rattle.vms.proofs.rest_fresh.Reads as rest-fresh-reads
use Rattle.vms.proofs.standings.Kinds as standings-kinds
use Rattle.vms.proofs.standings.Reads as standings-reads
use Rattle.vms.proofs.vm_at.Kinds as vm-at-kinds
use Rattle.vms.proofs.vm_at.Reads as vm-at-reads
use Rattle.vms.proofs.runner.Kinds as runner-kinds
use Rattle.vms.proofs.runner.Reads as runner-reads
use Rattle.vms.proofs.at_most_8.Kinds as at-most-8-kinds
use Rattle.vms.proofs.at_most_8.Reads as at-most-8-reads
use Rattle.vms.proofs.put_vm.Kinds as put-vm-kinds
use Rattle.vms.proofs.put_vm.Reads as put-vm-reads
use Rattle.vms.proofs.start_all.Kinds as start-all-kinds
use Rattle.vms.proofs.start_all.Reads as start-all-reads
use Rattle.vms.proofs.save.Kinds as save-kinds
use Rattle.vms.proofs.save.Reads as save-reads
use Rattle.vms.proofs.age_all.Kinds as age-all-kinds
use Rattle.vms.proofs.age_all.Reads as age-all-reads
use Rattle.guest.specs.declared.Vm.{Vm}
use Prim.Native.Nat.{ℕ}

pub vms_number_of_one : OneAnswer 0 number-of-kinds.ps number-of-kinds.r number-of-reads.Post
vms_number_of_one κs a x y s t p q = p ∙ sym q

pub vms_rest_fresh_one : OneAnswer 1 rest-fresh-kinds.ps rest-fresh-kinds.r rest-fresh-reads.Post
vms_rest_fresh_one κs a x y s t p q = p ∙ sym q

pub vms_standings_one : OneAnswer 1 standings-kinds.ps standings-kinds.r standings-reads.Post
vms_standings_one κs a x y s t p q = p ∙ sym q

pub vms_vm_at_one : OneAnswer 1 vm-at-kinds.ps vm-at-kinds.r vm-at-reads.Post
vms_vm_at_one κs a x y s t p q = p ∙ sym q

pub vms_runner_one : OneAnswer 0 runner-kinds.ps runner-kinds.r runner-reads.Post
vms_runner_one κs a x y s t p q = p ∙ sym q

pub vms_at_most_8_one : OneAnswer 0 at-most-8-kinds.ps at-most-8-kinds.r at-most-8-reads.Post
vms_at_most_8_one κs a x y s t p q = p ∙ sym q

-- for the same arguments the same records; `Post` is the contract as the source has it, `held` the records at exit
abbrev pub OneList : (n : ℕ) (ps : List (ParamKind n)) (r : ResultKind n) → Out n ps r → ((κs : Lfts n) → AtExit (ended_of n ps r) κs → List Vm) → Type 0
OneList n ps r Post held =
    (κs : Lfts n) (a : Dens κs ps) (x y : (res_t r κs).Denot) (s t : AtExit (ended_of n ps r) κs) → Post κs a x s → Post κs a y t → held κs s ≡ held κs t

pub vms_put_vm_one : OneList 1 put-vm-kinds.ps put-vm-kinds.r put-vm-reads.Post (λ κs s. s.0.now)
vms_put_vm_one κs a x y s t p q = p ∙ sym q

pub vms_start_all_one : OneList 2 start-all-kinds.ps start-all-kinds.r start-all-reads.Post (λ κs s. s.0.now)
vms_start_all_one κs a x y s t p q = p ∙ sym q

pub vms_save_one : OneList 1 save-kinds.ps save-kinds.r save-reads.Post (λ κs s. s.0.now)
vms_save_one κs a x y s t p q = p ∙ sym q

pub vms_age_all_one : OneList 1 age-all-kinds.ps age-all-kinds.r age-all-reads.Post (λ κs s. s.0.now)
vms_age_all_one κs a x y s t p q = p ∙ sym q
