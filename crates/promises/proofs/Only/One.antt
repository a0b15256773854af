-- No second outcome fits one event.
use Prim.Native.Nat.{ℕ, ◌<◌, ◌≤◌}
use borrow.Author.Tests.{eq-eqb}
use lib.Seq.{ext_get_or}
use mathlib.Core.Bool.{Bool, false, true}
use mathlib.Core.List.{List}
use mathlib.Core.Logic.{⊎_elim}
use mathlib.Core.Path.{ap, refl, sym, ◌∙◌, ◌≡◌}
use native.Mathlib.Decide.{dec_lt, ℕ_discrete}
use native.Mathlib.Omega.{arith}
use Rattle.config.specs.declared.Config.{Config}
use Rattle.rig_core.specs.State.{address_of, vm_at}
use Rattle.rig_core.specs.declared.Core.{Core}
use Rattle.rig_core.specs.declared.Stepped.{Stepped}
use Rattle.core_laws.proofs.Facts.{past_fresh, running_who, sound_is}
use Rattle.event.specs.declared.Event.TheVariants.{Call, Copy, Extra, Fault, Restart, Shutdown, Start, Stop, Tick, Write}
use Rattle.event.specs.declared.Event.{Event}
use Rattle.guest.specs.Record.{fresh}
use Rattle.history.specs.History.{Moment, moment_of}
use Rattle.history.specs.Moments.{begins}
use Rattle.promises.proofs.Due.{due_either}
use Rattle.promises.proofs.Only.Alike.{alike, by_service}
use Rattle.promises.proofs.Only.Fits.{Fits, Two, same_age, same_begins, same_clock, same_queue, same_ran, same_removed, same_result, same_running, same_standing, told_running}
use Rattle.promises.proofs.Only.Parts.{answer_same, core_same, status_same, stepped_same, vm_same}
use Rattle.promises.specs.Delivering.{Delivered, Offer}
use Rattle.promises.specs.Refusing.{first_of, lines_of}

-- ---- the number delivered

number_one : (g : Config) (o : Offer) (m n : Moment) → Delivered g o m → Delivered g o n → m.answer.delivered ≡ n.answer.delivered
number_one g o m n p q = ⊎_elim (λ z. (p.quiet z).0 ∙ sym (q.quiet z).0) (λ z. (p.given z.0 z.1).0 ∙ sym (q.given z.0 z.1).0) (due_either o)

module _ {g : Config} {ms : List Moment} {k : ℕ} {c : Core} where
  tick_number : (at : ℕ) {s t : Stepped} → Two g ms k c (Tick at) s t → s.answer.delivered ≡ t.answer.delivered
  tick_number at {s} {t} w =
      let a = w.one.delivers.accepted w.went_one in
      let b = w.two.delivers.accepted w.went_two in
      let r = told_running w in
      let h = w.one.tells.running in
      ⊎_elim
      (λ z. a.to_nobody (h ∙ z) ∙ sym (b.to_nobody (sym r ∙ h ∙ z)))
      (λ z. (let l : s.core.running < g.count = omega (arith, z, ap (λ (i : Config). i.count) w.one.table.kept) in
      number_one g _ _ _ (a.to_runner s.core.running l h) (b.to_runner s.core.running l (sym r ∙ h))))
      (running_who s.core w.one.traced.records (sound_is s.core w.one.sound))

  call_number : (i n at : ℕ) {s t : Stepped} → Two g ms k c (Call i n at) s t → s.answer.delivered ≡ t.answer.delivered
  call_number i n at w =
      let a = w.one.delivers.accepted w.went_one in
      let b = w.two.delivers.accepted w.went_two in
      by_service {s = i} {n = n} (λ z. number_one g _ _ _ (a.sync z) (b.sync z)) (λ z. number_one g _ _ _ (a.return z) (b.return z)) (λ z y. number_one g _ _ _ (a.inject z y) (b.inject z y))
      (λ h. a.never h ∙ sym (b.never h))

  same_delivered : (e : Event) {s t : Stepped} → Two g ms k c e s t → s.answer.delivered ≡ t.answer.delivered
  same_delivered Start w = w.one.delivers.accepted w.went_one ∙ sym (w.two.delivers.accepted w.went_two)
  same_delivered (Tick at) w = tick_number at w
  same_delivered (Stop v) w = w.one.delivers.accepted w.went_one ∙ sym (w.two.delivers.accepted w.went_two)
  same_delivered (Shutdown v) w = (w.one.delivers.accepted w.went_one).never ∙ sym (w.two.delivers.accepted w.went_two).never
  same_delivered (Restart v) w = w.one.delivers.accepted w.went_one ∙ sym (w.two.delivers.accepted w.went_two)
  same_delivered (Extra v) w = w.one.delivers.accepted w.went_one ∙ sym (w.two.delivers.accepted w.went_two)
  same_delivered (Call i n at) w = call_number i n at w
  same_delivered (Write o x) w = w.one.delivers.accepted w.went_one ∙ sym (w.two.delivers.accepted w.went_two)
  same_delivered (Fault i x) w = w.one.delivers.accepted w.went_one ∙ sym (w.two.delivers.accepted w.went_two)
  same_delivered (Copy p x) w = (w.one.delivers.accepted w.went_one).never ∙ sym (w.two.delivers.accepted w.went_two).never

-- ---- one event

module _ {g : Config} {ms : List Moment} {k : ℕ} {c : Core} (e : Event) {s t : Stepped} (w : Two g ms k c e s t) where
  same_vm : (v : ℕ) → v < g.count → vm_at s.core v ≡ vm_at t.core v
  same_vm v l = go (begins v (moment_of k c e s)) refl
    where
      go : (b : Bool) → begins v (moment_of k c e s) ≡ b → vm_at s.core v ≡ vm_at t.core v
      go true h = w.one.starts v l h ∙ sym (w.two.starts v l (sym (same_begins w v) ∙ h))
      go false h =
          let a = alike e w v l h in
          vm_same (vm_at s.core v) (vm_at t.core v) (same_standing w v l) a.address (status_same (vm_at s.core v).status (vm_at t.core v).status a.fields) (same_age w v l) (same_ran w v l)

  -- records past the VM count are fresh (W2)
  past : (u : Stepped) → Fits g ms k c e u → (v : ℕ) → g.count ≤ v → vm_at u.core v ≡ fresh
  past u r v h = past_fresh u.core r.traced.records (sound_is u.core r.sound) v (omega (arith, h, ap (λ (i : Config). i.count) r.table.kept))

  same_vms : s.core.vms ≡ t.core.vms
  same_vms =
      ext_get_or fresh s.core.vms t.core.vms (w.one.traced.records ∙ sym w.two.traced.records)
      (λ v h. elim (dec_lt v g.count) [
        | yes l ↦ same_vm v l
        | no l ↦ (let i : g.count ≤ v = omega arith in past s w.one v i ∙ sym (past t w.two v i))
      ])

  same_core : s.core ≡ t.core
  same_core = core_same s.core t.core (w.one.table.kept ∙ sym w.two.table.kept) (same_clock w) (same_running w) (same_queue w) same_vms

  accepted_one : s ≡ t
  accepted_one =
      stepped_same s t same_core
      (answer_same s.answer t.answer (w.one.refused.number ∙ sym w.two.refused.number) (told_running w) (w.one.tells.address ∙ ap address_of same_core ∙ sym w.two.tells.address)
      (same_delivered e w) (w.one.tells.notice w.went_one ∙ sym (w.two.tells.notice w.went_two)) (same_result w) (same_removed w))

-- no second outcome fits
pub outcome_one : {g : Config} {ms : List Moment} {k : ℕ} {c : Core} (e : Event) {s t : Stepped} → Fits g ms k c e s → Fits g ms k c e t → s ≡ t
outcome_one {c = c} e {s} {t} p q =
    elim (ℕ_discrete (first_of (lines_of c e)) 0) [
      | yes z ↦ accepted_one e (record { one = p; two = q; went_one = eq-eqb s.answer.refusal 0 (p.refused.number ∙ z); went_two = eq-eqb t.answer.refusal 0 (q.refused.number ∙ z) })
      | no z ↦ stepped_same s t (p.refused.untouched z ∙ sym (q.refused.untouched z)) (p.refused.answered z ∙ sym (q.refused.answered z))
    ]
