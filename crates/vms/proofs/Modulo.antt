-- Laws of a tick: a record saved, the VM chosen, the VM entered; whether a record is found by its number or by its number modulo 8.
use Prim.Native.Nat.{ℕ, ◌%◌, ◌<◌, ◌≤◌}
use borrow.Author.Tests.{ltb-false, ltb-true}
use lib.Dec.{ltb}
use lib.ListN.{get_or-eq_default, get_or, length, set}
use lib.Seq.{get_or-set_same, set-get_or, set_out}
use mathlib.Core.Bool.{Bool, false, true}
use mathlib.Core.List.{List}
use mathlib.Core.Path.{refl, ◌≡◌}
use native.Mathlib.Nat.{mod-eq_of_lt}
use native.Mathlib.Omega.{arith}
use Rattle.basis.specs.Choice.{pick}
use Rattle.basis.specs.Nobody.{nobody}
use Rattle.config.specs.Sizes.{is_spare}
use Rattle.guest.specs.Deliver.{enter, quiet}
use Rattle.guest.specs.Record.{fresh, is_ready, saved_at}
use Rattle.guest.specs.declared.Delivery.{Delivery}
use Rattle.guest.specs.declared.Vm.{Vm}
use Rattle.vms.specs.Tick.{entering, number_of, runner_of, saving, turn, turn_by, turn_to}

-- a number below 8 is itself modulo 8: so these laws hold of a record that is read and stored at its number, and at its number modulo 8
pub mod_8 : (i : ℕ) → ltb i 8 ≡ true → i % 8 ≡ i
mod_8 i e = let h = ltb-true i 8 e in mod-eq_of_lt h

-- D3, as the code stores it: at a place that is the number where that is below 8
pub saved_law : (l : List Vm) (r i at : ℕ) (s : Vm) → (ltb r 8 ≡ true → i ≡ r) → s ≡ pick (ltb r 8) (saved_at at (get_or l i fresh)) (get_or l i fresh) → set l i s ≡ saving r at l
unfolding saving
saved_law l r i at s same e = go (ltb r 8) refl
  where
    go : (b : Bool) → ltb r 8 ≡ b → set l i s ≡ pick b (set l r (saved_at at (get_or l r fresh))) l
    go true f = (let g = same f in rw (rw (f, g) at e, g))
    go false f = (rw (rw f at e) (set-get_or l i fresh))

-- D6, D7, as the code chooses
pub runner_law : (l : List Vm) (owner i head who : ℕ) (b : Bool) → length l ≡ 8 → (ltb owner 8 ≡ true → i ≡ owner) → b ≡ is_ready (get_or l i fresh)
    → who ≡ pick (is_spare owner) head (pick (ltb owner 8) (pick b owner nobody) nobody) → who ≡ runner_of owner head l
unfolding runner_of
runner_law l owner i head who b h same e f = go (ltb owner 8) refl
  where
    go : (t : Bool) → ltb owner 8 ≡ t → who ≡ pick (is_spare owner) head (pick (is_ready (get_or l owner fresh)) owner nobody)
    go true g = rw (g, e, same g) at f
    go false g = (let p : length l ≤ owner = omega (arith, ltb-false owner 8 g) in rw (get_or-eq_default l fresh p) (rw g at f))

-- D8, D9, as the code stores them
pub entered_law : (l : List Vm) (handlers : List ℕ) (who i left address number : ℕ) (d : Delivery) → length l ≡ 8 → (ltb who 8 ≡ true → i ≡ who)
    → d ≡ pick (ltb who 8) (enter left (get_or handlers i 0) (get_or l i fresh)) (quiet (get_or l i fresh))
    → address ≡ pick (ltb who 8) d.vm.address 0 → number ≡ number_of d.number
    → record { vms = set l i d.vm; who = who; address = address; number = number } ≡ turn_by who left handlers l
unfolding turn_by entering
entered_law l handlers who i left address number d h same e a n = go (ltb who 8) refl
  where
    go : (t : Bool) → ltb who 8 ≡ t → record { vms = set l i d.vm; who = who; address = address; number = number } ≡ turn_to who (pick t (enter left (get_or handlers who 0) (get_or l who fresh)) (quiet (get_or l who fresh))) l
    go true g =
        (let m = same g in
        let dd : d ≡ enter left (get_or handlers who 0) (get_or l who fresh) = rw (g, m) at e in
        let low : who < length l = omega (arith, ltb-true who 8 g) in
        rw (n, rw g at a, m, ← dd, get_or-set_same l who d.vm fresh low))
    go false g =
        (let dd : d ≡ quiet (get_or l i fresh) = rw g at e in
        let far : length l ≤ who = omega (arith, ltb-false who 8 g) in
        rw (n, rw g at a, dd, set-get_or l i fresh, set_out l who (get_or l who fresh) far, get_or-eq_default l fresh far))

-- A2: the answer of a tick shows where the VM that runs goes on
pub turn_address : (running at count owner head left : ℕ) (handlers : List ℕ) (l : List Vm)
    → (turn running at count owner head left handlers l).address ≡ (get_or (turn running at count owner head left handlers l).vms (turn running at count owner head left handlers l).who fresh).address
unfolding turn turn_by
turn_address running at count owner head left handlers l = refl
