-- What a tick makes of one VM record: address, fields, age and ticks run.
use Prim.Native.Nat.{ℕ, ◌%◌, ◌+◌, ◌<◌, ◌^◌}
use borrow.Author.Tests.{eq-eqb, lt-ltb, ne_eqb}
use lib.Dec.{eqb, ltb}
use lib.ListN.{get_or, length, set}
use lib.Seq.{get_or-set_other, get_or-set_same}
use mathlib.Core.Bool.{Bool}
use mathlib.Core.List.{List}
use mathlib.Core.Path.{ap, refl, subst, sym, ◌∙◌, ◌≡◌}
use native.Mathlib.Decide.{ℕ_discrete}
use native.Mathlib.Omega.{arith}
use Rattle.basis.specs.Choice.{pick}
use Rattle.basis.specs.Nobody.{nobody}
use Rattle.config.specs.Sizes.{handler_at}
use Rattle.rig_core.specs.Events.{tick_clock, tick_turn}
use Rattle.rig_core.specs.State.{vm_at}
use Rattle.rig_core.specs.declared.Core.{Core}
use Rattle.guest.proofs.Facts.{enter_age, enter_left, enter_ran, enter_running, enter_since}
use Rattle.guest.specs.Deliver.{enter, quiet}
use Rattle.guest.specs.Record.{fresh}
use Rattle.guest.specs.declared.Vm.{Vm}
use Rattle.vms.proofs.Records.{passed_age, passed_length, passed_ran}
use Rattle.vms.specs.Tick.{entering, number_of, passed, turn, turn_by}

-- ---- a tick of a core

-- the records when addresses are stored and ages have grown
abbrev pub passed_of : Core → ℕ → List Vm
passed_of c at = passed c.running at c.config.count c.vms

module _ (c : Core) (at : ℕ) (eight : length c.vms ≡ 8) (v : ℕ) (small : v < 8) where
  -- the VM that the tick runs is entered
  pub tick_enters : (tick_turn c at).who ≡ v → get_or (tick_turn c at).vms v fresh ≡ (enter (tick_clock c).left (handler_at c.config v) (get_or (passed_of c at) v fresh)).vm
  unfolding tick_turn turn turn_by entering
  tick_enters e =
      subst (λ (w : ℕ). w ≡ v → get_or (set (passed_of c at) w (pick (ltb w 8) (enter (tick_clock c).left (get_or c.config.handlers w 0) (get_or (passed_of c at) w fresh)) (quiet (get_or (passed_of c at) w fresh))).vm) v fresh ≡ (enter (tick_clock c).left (handler_at c.config v) (get_or (passed_of c at) v fresh)).vm)
      (sym e)
      (λ z. rw (lt-ltb v 8 small) (get_or-set_same (passed_of c at) v _ fresh (let q = passed_length c.running at c.config.count c.vms in omega arith)))
      e

  pub tick_number : (tick_turn c at).who ≡ v → (tick_turn c at).number ≡ number_of (enter (tick_clock c).left (handler_at c.config v) (get_or (passed_of c at) v fresh)).number
  unfolding tick_turn turn turn_by entering
  tick_number e =
      subst (λ (w : ℕ). number_of (pick (ltb w 8) (enter (tick_clock c).left (get_or c.config.handlers w 0) (get_or (passed_of c at) w fresh)) (quiet (get_or (passed_of c at) w fresh))).number ≡ number_of (enter (tick_clock c).left (handler_at c.config v) (get_or (passed_of c at) v fresh)).number)
      (sym e) (rw (lt-ltb v 8 small))

-- any other VM is not
pub tick_passes : (c : Core) (at v : ℕ) → ((tick_turn c at).who ≡ v → ⊥) → get_or (tick_turn c at).vms v fresh ≡ get_or (passed_of c at) v fresh
unfolding tick_turn turn turn_by
tick_passes c at v n = get_or-set_other (passed_of c at) _ v _ fresh (λ e. n (sym e))

pub tick_silent : (c : Core) (at : ℕ) → (tick_turn c at).who ≡ nobody → (tick_turn c at).number ≡ nobody
unfolding tick_turn turn turn_by entering
tick_silent c at e =
    subst (λ (w : ℕ). number_of (pick (ltb w 8) (enter (tick_clock c).left (get_or c.config.handlers w 0) (get_or (passed_of c at) w fresh)) (quiet (get_or (passed_of c at) w fresh))).number ≡ nobody) (sym e) refl

module _ (c : Core) (at : ℕ) (eight : length c.vms ≡ 8) (v : ℕ) (small : v < 8) where
  -- both counts after a tick
  pub tick_age : v < c.config.count → (get_or (tick_turn c at).vms v fresh).age ≡ ((vm_at c v).age + 1) % 2 ^ 32
  tick_age h = go (ℕ_discrete (tick_turn c at).who v) ∙ passed_age c.running at c.config.count c.vms eight v small h
    where
      go : Dec ((tick_turn c at).who ≡ v) → (get_or (tick_turn c at).vms v fresh).age ≡ (get_or (passed_of c at) v fresh).age
      go (yes e) = ap (λ (w : Vm). w.age) (tick_enters c at eight v small e) ∙ enter_age _ _ _
      go (no n) = ap (λ (w : Vm). w.age) (tick_passes c at v n)

  pub tick_ran : (get_or (tick_turn c at).vms v fresh).ran ≡ pick (eqb (tick_turn c at).who v) (((vm_at c v).ran + 1) % 2 ^ 32) (vm_at c v).ran
  tick_ran = go (ℕ_discrete (tick_turn c at).who v)
    where
      old : (get_or (passed_of c at) v fresh).ran ≡ (vm_at c v).ran
      old = passed_ran c.running at c.config.count c.vms eight v small

      go : Dec ((tick_turn c at).who ≡ v) → (get_or (tick_turn c at).vms v fresh).ran ≡ pick (eqb (tick_turn c at).who v) (((vm_at c v).ran + 1) % 2 ^ 32) (vm_at c v).ran
      go (yes e) =
          ap (λ (w : Vm). w.ran) (tick_enters c at eight v small e) ∙ enter_ran _ _ _ ∙ ap (λ (n : ℕ). (n + 1) % 2 ^ 32) old
          ∙ sym (ap (λ (b : Bool). pick b (((vm_at c v).ran + 1) % 2 ^ 32) (vm_at c v).ran) (eq-eqb (tick_turn c at).who v e))
      go (no n) =
          ap (λ (w : Vm). w.ran) (tick_passes c at v n) ∙ old
          ∙ sym (ap (λ (b : Bool). pick b (((vm_at c v).ran + 1) % 2 ^ 32) (vm_at c v).ran) (ne_eqb (tick_turn c at).who v n))

  -- D8: the three fields, right after a tick that runs the VM
  pub tick_shows : (tick_turn c at).who ≡ v
      → ((get_or (tick_turn c at).vms v fresh).status.since ≡ (get_or (tick_turn c at).vms v fresh).age)
      × ((get_or (tick_turn c at).vms v fresh).status.left ≡ (tick_clock c).left)
      × ((get_or (tick_turn c at).vms v fresh).status.running ≡ (get_or (tick_turn c at).vms v fresh).ran)
  tick_shows e =
      rw (tick_enters c at eight v small e)
      (enter_since _ _ _ ∙ sym (enter_age _ _ _), enter_left _ _ _, enter_running _ _ _ ∙ sym (enter_ran _ _ _))
