-- A tick leaves the table at one of its ticks (D5, W8, W9).
use Prim.Native.Nat.{ℕ, ◌+◌, ◌<◌, ◌≤◌}
use borrow.Author.Tests.{ltb-true}
use lib.Dec.{ltb}
use mathlib.Core.Bool.{true}
use mathlib.Core.List.{List}
use mathlib.Core.Path.{ap, refl, ◌≡◌}
use native.Mathlib.Decide.{ℕ_discrete}
use native.Mathlib.Omega.{arith}
use Rattle.basis.proofs.Laws.{pick_case}
use Rattle.basis.specs.Nobody.{nobody}
use Rattle.config.specs.Sizes.{Legal, duration_at, owner_at}
use Rattle.config.specs.declared.Config.{Config}
use Rattle.table.specs.Position.{enter_slot, has_ticked, next_clock, slot_after}
use Rattle.table.specs.declared.Clock.{Clock}

-- S4: every slot of the table lasts a tick or more
pub duration_some : (g : Config) → Legal g → (k : ℕ) → k < g.slots → 1 ≤ duration_at g k
duration_some g l k h =
    elim (ℕ_discrete (owner_at g k) nobody) [
      | yes e ↦ (let d = l.spares k h e in omega arith)
      | no e ↦ (l.named k h e).0
    ]

-- the table stands at one of its ticks
pub record OnTable (g : Config) (k : Clock) : Type 0 where
  pub slot : k.slot < g.slots
  pub some : 1 ≤ k.left
  pub most : k.left ≤ duration_at g k.slot

pub next_started : (n : ℕ) (d : List ℕ) (k : Clock) → (next_clock n d k).started ≡ k.started
unfolding next_clock
next_started n d k =
    pick_case (λ (x : Clock). x.started ≡ k.started) (has_ticked k) _ _
    (λ h. pick_case (λ (x : Clock). x.started ≡ k.started) (ltb 1 k.left) _ _ (λ i. refl) (λ i. refl))
    (λ h. refl)

pub next_ticked : (n : ℕ) (d : List ℕ) (k : Clock) → (next_clock n d k).ticked ≡ 1
unfolding next_clock
next_ticked n d k =
    pick_case (λ (x : Clock). x.ticked ≡ 1) (has_ticked k) _ _
    (λ h. pick_case (λ (x : Clock). x.ticked ≡ 1) (ltb 1 k.left) _ _ (λ i. refl) (λ i. refl))
    (λ h. refl)

enter_on_table : (g : Config) → Legal g → (k : Clock) (i : ℕ) → i < g.slots → OnTable g (enter_slot g.durations k i)
enter_on_table g l k i h = record { slot = h; some = duration_some g l i h; most = omega arith }

after_slot : (n i : ℕ) → 1 ≤ n → slot_after n i < n
after_slot n i h = pick_case (λ (x : ℕ). x < n) (ltb (i + 1) n) _ _ (λ e. ltb-true (i + 1) n e) (λ e. omega arith)

-- D5, W8, W9: a tick leaves the table at one of its ticks
pub next_on_table : (g : Config) → Legal g → (k : Clock) → (has_ticked k ≡ true → OnTable g k) → OnTable g (next_clock g.slots g.durations k)
unfolding next_clock
next_on_table g l k p =
    pick_case (OnTable g) (has_ticked k) _ _
    (λ h. pick_case (OnTable g) (ltb 1 k.left) _ _
    (λ i. (let q = p h in let j = ltb-true 1 k.left i in record { slot = q.slot; some = omega arith; most = omega arith }))
    (λ i. enter_on_table g l k (slot_after g.slots k.slot) (after_slot g.slots k.slot l.table.0)))
    (λ h. enter_on_table g l k 0 l.table.0)

-- ticked, slot and ticks left are the same
pub record SamePlace (k j : Clock) : Type 0 where
  pub ticked : k.ticked ≡ j.ticked
  pub slot : k.slot ≡ j.slot
  pub left : k.left ≡ j.left

pub same_place : (k j : Clock) → k ≡ j → SamePlace k j
same_place k j e = record { ticked = ap (λ (x : Clock). x.ticked) e; slot = ap (λ (x : Clock). x.slot) e; left = ap (λ (x : Clock). x.left) e }
