-- The easy mistakes that change a delivery change nothing else.
use Prim.Native.Nat.{suc, zero, ℕ}
use borrow.Author.Tests.{lt-leb, ne_eqb}
use lib.Dec.{eqb}
use mathlib.Core.Bool.{Bool, false, true}
use mathlib.Core.Path.{ap, refl, ◌≡◌}
use native.Mathlib.Omega.{arith}
use Rattle.basis.proofs.Laws.{false_true}
use Rattle.basis.specs.Choice.{both, pick}
use Rattle.change.specs.Changes.{called_from, delivering_from}
use Rattle.change.specs.declared.Change.{Change}
use Rattle.config.specs.Sizes.{handler_at}
use Rattle.rig_core.specs.Changes.{changed_by}
use Rattle.rig_core.specs.Events.{done, inner_of, tick_turn}
use Rattle.rig_core.specs.Refusals.{refused, row_of}
use Rattle.rig_core.specs.State.{full, vm_at}
use Rattle.rig_core.specs.declared.Core.{Core}
use Rattle.rig_core.specs.declared.Stepped.{Stepped}
use Rattle.event.specs.declared.Event.TheVariants.{Call, Copy, Extra, Fault, Restart, Shutdown, Start, Stop, Tick, Write}
use Rattle.event.specs.declared.Event.{Event}
use Rattle.guest.specs.Deliver.{deliver, enter}
use Rattle.guest.specs.Record.{saved_at}
use Rattle.guest.specs.declared.Vm.{Vm}
use Rattle.promises.specs.Delivering.{call_delivers}
use Rattle.queue.specs.declared.Queue.{Queue}
use Rattle.trials.specs.Worthless.{call_by, delivering_by}
use Rattle.vms.specs.Tick.{entering, turn, turn_by}

called_delivers : (running : ℕ) (queue : Queue) (noRoom : Bool) (handler v s n : ℕ) (vm : Vm) → call_delivers s n ≡ true
    → delivering_from running queue v (call_by deliver (λ m. deliver) s n handler vm) ≡ called_from running queue noRoom handler v s n vm
unfolding called_from
called_delivers running queue noRoom handler v zero n vm h = refl
called_delivers running queue noRoom handler v (suc zero) n vm h = refl
called_delivers running queue noRoom handler v (suc (suc zero)) n vm h = rw h
called_delivers running queue noRoom handler v (suc (suc (suc s))) n vm h =
    false_true (rw (lt-leb (suc (suc (suc s))) 1 (omega arith), ne_eqb (suc (suc (suc s))) 2 (λ e. omega arith)) at h)

-- with our own delivery put in, the behaviour that the mistakes in a delivery are made from is ours
pub same_delivery : (c : Core) (e : Event) → delivering_by deliver (λ n. deliver) c e ≡ inner_of c e
unfolding inner_of done tick_turn turn turn_by entering enter
same_delivery c Start = refl
same_delivery c (Tick at) = refl
same_delivery c (Stop v) = refl
same_delivery c (Shutdown v) = refl
same_delivery c (Restart v) = refl
same_delivery c (Extra v) = refl
same_delivery c (Call s n at) = go (eqb (row_of c (Call s n at)) 0) (call_delivers s n) refl refl
  where
    vm : Vm
    vm = saved_at at (vm_at c c.running)

    new : Stepped
    new = changed_by c (delivering_from c.running c.queue c.running (call_by deliver (λ m. deliver) s n (handler_at c.config c.running) vm))

    go : (a b : Bool) → eqb (row_of c (Call s n at)) 0 ≡ a → call_delivers s n ≡ b → pick (both a b) new (pick a (done c (Call s n at)) (refused c (row_of c (Call s n at)))) ≡ pick a (done c (Call s n at)) (refused c (row_of c (Call s n at)))
    go true true e f = ap (λ (x : Change). changed_by c x) (called_delivers c.running c.queue (full c) (handler_at c.config c.running) c.running s n vm f)
    go true false e f = refl
    go false b e f = refl
same_delivery c (Write o x) = refl
same_delivery c (Fault k x) = refl
same_delivery c (Copy p w) = refl
