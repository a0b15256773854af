-- Second demand: what is delivered, to whom, and when.
use Rattle.std.specs.Prelude.{ℕ, ◌<◌, ◌≤◌, eqb, leb, Bool, false, true, List, ◌≡◌}
use Rattle.std.specs.Int.Bits.{bit_or}
use Rattle.basis.specs.Bits.{bit}
use Rattle.basis.specs.Choice.{both, either, pick}
use Rattle.config.specs.Sizes.{handler_at}
use Rattle.config.specs.declared.Config.{Config}
use Rattle.rig_core.specs.State.{vm_at}
use Rattle.rig_core.specs.declared.Core.{Core}
use Rattle.event.specs.declared.Event.TheVariants.{Call, Copy, Extra, Fault, Restart, Shutdown, Start, Stop, Tick, Write}
use Rattle.event.specs.declared.Event.{Event}
use Rattle.guest.specs.Bits.{clear_bit, set_bit}
use Rattle.guest.specs.declared.Vm.{Vm}
use Rattle.history.specs.History.{AtEachEvent, Behaviour, Moment, went}

-- what a VM has when its moment comes
pub record Offer : Type 0 where
  pub vm : ℕ
  pub pending : ℕ
  pub enabled : ℕ
  pub address : ℕ

-- D8, D9: a tick that runs v; the address given is that of the VM that was running
abbrev pub tick_offer : Core → ℕ → ℕ → Offer
tick_offer c at v =
    record { vm = v; pending = bit_or (vm_at c v).status.pending (vm_at c v).status.ontick; enabled = (vm_at c v).status.enabled; address = pick (eqb v c.running) at (vm_at c v).address }

-- D25
abbrev pub sync_offer : Core → ℕ → Offer
sync_offer c at =
    record { vm = c.running; pending = (vm_at c c.running).status.pending; enabled = (vm_at c c.running).status.enabled; address = at }

-- D26
abbrev pub return_offer : Core → Offer
return_offer c =
    record { vm = c.running; pending = (vm_at c c.running).status.pending; enabled = (vm_at c c.running).status.previous; address = (vm_at c c.running).status.resume }

-- D27: n is pending too
abbrev pub inject_offer : Core → ℕ → ℕ → Offer
inject_offer c n at =
    record { vm = c.running; pending = set_bit n (vm_at c c.running).status.pending; enabled = (vm_at c c.running).status.enabled; address = at }

-- D13: the Calls that deliver: services 0 and 1, and 2 with a number up to 31
abbrev pub call_delivers : ℕ → ℕ → Bool
call_delivers s n = either (leb s 1) (both (eqb s 2) (leb n 31))

-- pending and enabled
abbrev pub InBoth : Offer → ℕ → Type 0
InBoth o n = (bit n o.pending ≡ true) × (bit n o.enabled ≡ true)

abbrev pub NoneDue : Offer → Type 0
NoneDue o = (k : ℕ) → k < 32 → InBoth o k → ⊥

-- D11: n is pending and enabled, and none higher is
pub record Highest (o : Offer) (n : ℕ) : Type 0 where
  pub small : n < 32
  pub set : InBoth o n
  pub top : (k : ℕ) → n < k → k < 32 → InBoth o k → ⊥

-- nothing is due: the VM goes on
pub record GoesOn (o : Offer) (w : Vm) : Type 0 where
  pub pending : w.status.pending ≡ o.pending
  pub enabled : w.status.enabled ≡ o.enabled
  pub address : w.address ≡ o.address

-- D12: n is delivered, at the handler
pub record Enters (handler n : ℕ) (o : Offer) (w : Vm) : Type 0 where
  pub reason : w.status.reason ≡ n
  pub previous : w.status.previous ≡ o.enabled
  pub enabled : w.status.enabled ≡ 0
  pub pending : w.status.pending ≡ clear_bit n o.pending
  pub resume : w.status.resume ≡ o.address
  pub address : w.address ≡ handler

-- A3: 255 tells that nothing was delivered
pub record Delivered (g : Config) (o : Offer) (m : Moment) : Type 0 where
  pub quiet : NoneDue o → (m.answer.delivered ≡ 255) × GoesOn o (vm_at m.after o.vm)
  pub given : (n : ℕ) → Highest o n → (m.answer.delivered ≡ n) × Enters (handler_at g o.vm) n o (vm_at m.after o.vm)

-- a tick delivers to the VM that it runs, and leaves the fields of every other VM alone
pub record DeliversAtTick (g : Config) (at : ℕ) (m : Moment) : Type 0 where
  pub to_runner : (v : ℕ) → v < g.count → m.answer.running ≡ v → Delivered g (tick_offer m.before at v) m
  pub to_nobody : m.answer.running ≡ 255 → m.answer.delivered ≡ 255
  pub others : (w : ℕ) → (m.answer.running ≡ w → ⊥) → (vm_at m.after w).status ≡ (vm_at m.before w).status
  -- D3: of those that do not run now, the VM that was running is to go on at the address given, every other where it was
  pub addresses : (w : ℕ) → w < g.count → (m.answer.running ≡ w → ⊥) → (vm_at m.after w).address ≡ pick (eqb w m.before.running) at (vm_at m.before w).address

-- a Call delivers with services 0, 1 and 2, and with no other
pub record DeliversAtCall (g : Config) (service argument at : ℕ) (m : Moment) : Type 0 where
  pub sync : service ≡ 0 → Delivered g (sync_offer m.before at) m
  pub return : service ≡ 1 → Delivered g (return_offer m.before) m
  pub inject : service ≡ 2 → argument ≤ 31 → Delivered g (inject_offer m.before argument at) m
  pub never : call_delivers service argument ≡ false → m.answer.delivered ≡ 255
  -- D24: the next address is stored, for a VM that the Call ends too
  pub saved : call_delivers service argument ≡ false → (vm_at m.after m.before.running).address ≡ at

-- D17: the master's Shutdown only sets bit 11
pub record DeliversNot (v : ℕ) (m : Moment) : Type 0 where
  pub never : m.answer.delivered ≡ 255
  pub waits : (vm_at m.after v).status.pending ≡ set_bit 11 (vm_at m.before v).status.pending
  pub address : (vm_at m.after v).address ≡ (vm_at m.before v).address

-- D36: a Copy delivers nothing
pub record DeliversAtCopy (next : ℕ) (m : Moment) : Type 0 where
  pub never : m.answer.delivered ≡ 255
  -- D31: the next address is stored, for a VM that the Copy ends too
  pub saved : (vm_at m.after m.before.running).address ≡ next

-- D13, D22: at no other moment
abbrev pub DeliversBy : Config → Moment → Event → Type 0
DeliversBy g m Start = m.answer.delivered ≡ 255
DeliversBy g m (Tick at) = DeliversAtTick g at m
DeliversBy g m (Stop v) = m.answer.delivered ≡ 255
DeliversBy g m (Shutdown v) = DeliversNot v m
DeliversBy g m (Restart v) = m.answer.delivered ≡ 255
DeliversBy g m (Extra v) = m.answer.delivered ≡ 255
DeliversBy g m (Call s n at) = DeliversAtCall g s n at m
DeliversBy g m (Write o x) = m.answer.delivered ≡ 255
DeliversBy g m (Fault k d) = m.answer.delivered ≡ 255
DeliversBy g m (Copy p w) = DeliversAtCopy p.next m

pub record DeliversOf (g : Config) (ms : List Moment) (m : Moment) : Type 0 where
  pub refused : went m ≡ false → m.answer.delivered ≡ 255
  pub accepted : went m ≡ true → DeliversBy g m m.event

abbrev pub Delivers : Behaviour → Type 0
Delivers = AtEachEvent DeliversOf
