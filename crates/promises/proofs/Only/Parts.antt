-- States and answers that agree in every part are the same; and a table has one place for each tick.
use Prim.Native.Nat.{suc, ℕ, ◌+◌, ◌-◌, ◌<◌}
use lib.ListN.{length}
use mathlib.Core.List.{List}
use mathlib.Core.Path.{ap, sym, ◌∙◌, ◌≡◌}
use native.Mathlib.Decide.{dec_lt}
use native.Mathlib.Omega.{arith}
use Rattle.change.specs.declared.Answer.{Answer}
use Rattle.change.specs.declared.Notice.{Notice}
use Rattle.config.specs.Sizes.{duration_at}
use Rattle.config.specs.declared.Config.{Config}
use Rattle.rig_core.specs.declared.Core.{Core}
use Rattle.rig_core.specs.declared.Stepped.{Stepped}
use Rattle.guest.specs.declared.Status.{Status}
use Rattle.guest.specs.declared.Vm.{Vm}
use Rattle.promises.specs.Framing.{Enabled, Field, Left, OnTick, Pending, Previous, Reason, Restore, Resume, Running, Since, value_of}
use Rattle.queue.specs.declared.Queue.{Queue}
use Rattle.table.proofs.Place.{to_grows, to_more}
use Rattle.table.specs.Place.{Placed, table_to}
use Rattle.table.specs.declared.Clock.{Clock}

-- ---- records by their parts

status_parts : (s t : Status) → s.since ≡ t.since → s.left ≡ t.left → s.enabled ≡ t.enabled → s.pending ≡ t.pending → s.resume ≡ t.resume → s.reason ≡ t.reason → s.previous ≡ t.previous → s.restore ≡ t.restore → s.ontick ≡ t.ontick → s.running ≡ t.running → s ≡ t
status_parts s t e0 e1 e2 e3 e4 e5 e6 e7 e8 e9 = go s.since t.since s.left t.left s.enabled t.enabled s.pending t.pending s.resume t.resume s.reason t.reason s.previous t.previous s.restore t.restore s.ontick t.ontick s.running t.running e0 e1 e2 e3 e4 e5 e6 e7 e8 e9
  where
    go : (a0 b0 : ℕ) (a1 b1 : ℕ) (a2 b2 : ℕ) (a3 b3 : ℕ) (a4 b4 : ℕ) (a5 b5 : ℕ) (a6 b6 : ℕ) (a7 b7 : ℕ) (a8 b8 : ℕ) (a9 b9 : ℕ) → a0 ≡ b0 → a1 ≡ b1 → a2 ≡ b2 → a3 ≡ b3 → a4 ≡ b4 → a5 ≡ b5 → a6 ≡ b6 → a7 ≡ b7 → a8 ≡ b8 → a9 ≡ b9
        → ◌≡◌ {A = Status} (record { since = a0; left = a1; enabled = a2; pending = a3; resume = a4; reason = a5; previous = a6; restore = a7; ontick = a8; running = a9 }) (record { since = b0; left = b1; enabled = b2; pending = b3; resume = b4; reason = b5; previous = b6; restore = b7; ontick = b8; running = b9 })
    go a0 b0 a1 b1 a2 b2 a3 b3 a4 b4 a5 b5 a6 b6 a7 b7 a8 b8 a9 b9 e0 e1 e2 e3 e4 e5 e6 e7 e8 e9 = cc

-- two status blocks with the same ten fields
pub status_same : (s t : Status) → ((f : Field) → value_of f s ≡ value_of f t) → s ≡ t
status_same s t h = status_parts s t (h Since) (h Left) (h Enabled) (h Pending) (h Resume) (h Reason) (h Previous) (h Restore) (h OnTick) (h Running)

pub vm_same : (s t : Vm) → s.standing ≡ t.standing → s.address ≡ t.address → s.status ≡ t.status → s.age ≡ t.age → s.ran ≡ t.ran → s ≡ t
vm_same s t e0 e1 e2 e3 e4 = go s.standing t.standing s.address t.address s.status t.status s.age t.age s.ran t.ran e0 e1 e2 e3 e4
  where
    go : (a0 b0 : ℕ) (a1 b1 : ℕ) (a2 b2 : Status) (a3 b3 : ℕ) (a4 b4 : ℕ) → a0 ≡ b0 → a1 ≡ b1 → a2 ≡ b2 → a3 ≡ b3 → a4 ≡ b4
        → ◌≡◌ {A = Vm} (record { standing = a0; address = a1; status = a2; age = a3; ran = a4 }) (record { standing = b0; address = b1; status = b2; age = b3; ran = b4 })
    go a0 b0 a1 b1 a2 b2 a3 b3 a4 b4 e0 e1 e2 e3 e4 = cc

pub clock_same : (s t : Clock) → s.started ≡ t.started → s.ticked ≡ t.ticked → s.slot ≡ t.slot → s.left ≡ t.left → s ≡ t
clock_same s t e0 e1 e2 e3 = go s.started t.started s.ticked t.ticked s.slot t.slot s.left t.left e0 e1 e2 e3
  where
    go : (a0 b0 : ℕ) (a1 b1 : ℕ) (a2 b2 : ℕ) (a3 b3 : ℕ) → a0 ≡ b0 → a1 ≡ b1 → a2 ≡ b2 → a3 ≡ b3
        → ◌≡◌ {A = Clock} (record { started = a0; ticked = a1; slot = a2; left = a3 }) (record { started = b0; ticked = b1; slot = b2; left = b3 })
    go a0 b0 a1 b1 a2 b2 a3 b3 e0 e1 e2 e3 = cc

pub core_same : (s t : Core) → s.config ≡ t.config → s.clock ≡ t.clock → s.running ≡ t.running → s.queue ≡ t.queue → s.vms ≡ t.vms → s ≡ t
core_same s t e0 e1 e2 e3 e4 = go s.config t.config s.clock t.clock s.running t.running s.queue t.queue s.vms t.vms e0 e1 e2 e3 e4
  where
    go : (a0 b0 : Config) (a1 b1 : Clock) (a2 b2 : ℕ) (a3 b3 : Queue) (a4 b4 : List Vm) → a0 ≡ b0 → a1 ≡ b1 → a2 ≡ b2 → a3 ≡ b3 → a4 ≡ b4
        → ◌≡◌ {A = Core} (record { config = a0; clock = a1; running = a2; queue = a3; vms = a4 }) (record { config = b0; clock = b1; running = b2; queue = b3; vms = b4 })
    go a0 b0 a1 b1 a2 b2 a3 b3 a4 b4 e0 e1 e2 e3 e4 = cc

pub answer_same : (s t : Answer) → s.refusal ≡ t.refusal → s.running ≡ t.running → s.address ≡ t.address → s.delivered ≡ t.delivered → s.notice ≡ t.notice → s.result ≡ t.result → s.removed ≡ t.removed → s ≡ t
answer_same s t e0 e1 e2 e3 e4 e5 e6 = go s.refusal t.refusal s.running t.running s.address t.address s.delivered t.delivered s.notice t.notice s.result t.result s.removed t.removed e0 e1 e2 e3 e4 e5 e6
  where
    go : (a0 b0 : ℕ) (a1 b1 : ℕ) (a2 b2 : ℕ) (a3 b3 : ℕ) (a4 b4 : Notice) (a5 b5 : ℕ) (a6 b6 : ℕ) → a0 ≡ b0 → a1 ≡ b1 → a2 ≡ b2 → a3 ≡ b3 → a4 ≡ b4 → a5 ≡ b5 → a6 ≡ b6
        → ◌≡◌ {A = Answer} (record { refusal = a0; running = a1; address = a2; delivered = a3; notice = a4; result = a5; removed = a6 }) (record { refusal = b0; running = b1; address = b2; delivered = b3; notice = b4; result = b5; removed = b6 })
    go a0 b0 a1 b1 a2 b2 a3 b3 a4 b4 a5 b5 a6 b6 e0 e1 e2 e3 e4 e5 e6 = cc

pub stepped_same : (s t : Stepped) → s.core ≡ t.core → s.answer ≡ t.answer → s ≡ t
stepped_same s t e0 e1 = go s.core t.core s.answer t.answer e0 e1
  where
    go : (a0 b0 : Core) (a1 b1 : Answer) → a0 ≡ b0 → a1 ≡ b1
        → ◌≡◌ {A = Stepped} (record { core = a0; answer = a1 }) (record { core = b0; answer = b1 })
    go a0 b0 a1 b1 e0 e1 = cc

-- ---- one place in the table

module _ (g : Config) (k : ℕ) where
  same_tick : (h j : Clock) → Placed g k h → Placed g k j → length (table_to g h.slot) + (duration_at g h.slot - h.left) ≡ length (table_to g j.slot) + (duration_at g j.slot - j.left)
  same_tick h j p q = p.place ∙ sym q.place

  -- of two slots the later one stands at a later tick
  not_later : (h j : Clock) → Placed g k h → Placed g k j → h.slot < j.slot → ⊥
  not_later h j p q l =
      omega (arith, same_tick h j p q, to_grows g j.slot (suc h.slot) (omega arith), to_more g h.slot, p.left.0, p.left.1, q.left.0, q.left.1)

  pub slot_one : (h j : Clock) → Placed g k h → Placed g k j → h.slot ≡ j.slot
  slot_one h j p q =
      elim (dec_lt h.slot j.slot) [
        | yes l ↦ absurd (not_later h j p q l)
        | no l ↦ elim (dec_lt j.slot h.slot) [ yes m ↦ absurd (not_later j h q p m) | no m ↦ omega arith ]
      ]

  pub left_one : (h j : Clock) → Placed g k h → Placed g k j → h.left ≡ j.left
  left_one h j p q =
      let e = slot_one h j p q in
      omega (arith, same_tick h j p q, p.left.0, p.left.1, q.left.0, q.left.1, ap (λ (i : ℕ). length (table_to g i)) e, ap (λ (i : ℕ). duration_at g i) e)
