-- The walk from region to region finds what is granted byte by byte (H9, H10).
use Prim.Native.Nat.{suc, zero, ℕ, ◌+◌, ◌-◌, ◌<◌, ◌^◌, ◌≤◌}
use borrow.Author.Tests.{eq-eqb, le-leb, leb-true, lt-leb, ne_eqb}
use lib.Dec.{eqb, leb}
use mathlib.Core.Bool.{Bool, false, true}
use mathlib.Core.Path.{ap, refl, sym, ◌∙◌, ◌≡◌}
use native.Mathlib.Decide.{dec_lt, ℕ_discrete}
use native.Mathlib.Omega.{arith}
use Rattle.basis.proofs.Laws.{both_left, both_of, both_right, every_miss, every_of, some_of}
use Rattle.basis.specs.Count.{some, up_to}
use Rattle.grants.specs.Access.{allowed, allows, granted, granted_all, grants, permits}
use Rattle.grants.specs.Cover.{reach, reached}
use Rattle.std.specs.Prelude.{None, Option, Some}
use Rattle.regions.specs.Rules.{holder_at, last_at, permission_at, start_at}
use Rattle.regions.specs.declared.Regions.{Regions}

-- a region that grants a byte has it between its bounds, and grants each other one there
bounds : (h p s l v way a : ℕ) → allows h p s l v way a ≡ true → (s ≤ a) × (a ≤ l)
unfolding allows
bounds h p s l v way a e =
    let f = both_right (permits way p) _ (both_right (eqb h v) _ e) in
    (leb-true s a (both_left (leb s a) (leb a l) f), leb-true a l (both_right (leb s a) (leb a l) f))

within : (h p s l v way a b : ℕ) → allows h p s l v way a ≡ true → a ≤ b → b ≤ l → allows h p s l v way b ≡ true
unfolding allows
within h p s l v way a b e m n =
    let i = bounds h p s l v way a e in
    let f = both_right (eqb h v) _ e in
    both_of (eqb h v) _ (both_left (eqb h v) _ e)
    (both_of (permits way p) _ (both_left (permits way p) _ f)
    (both_of (leb s b) (leb b l) (le-leb s b (omega arith)) (le-leb b l n)))

module _ (r : Regions) (v way : ℕ) where
  -- none of the first n grants the byte, or one does and the reach is its end
  data Reach (a n : ℕ) : Type 0 where
    stuck : reach r v way a n ≡ 0 → some (grants r v way a) n ≡ false → Reach a n
    far : (k : ℕ) → k < n → grants r v way a k ≡ true → reach r v way a n ≡ last_at r k + 1 → Reach a n

  reach_is : (a n : ℕ) → Reach a n
  unfolding reach up_to some
  reach_is a zero = stuck refl refl
  reach_is a (suc n) = go (grants r v way a n) refl (reach_is a n)
    where
      go : (b : Bool) → grants r v way a n ≡ b → Reach a n → Reach a (suc n)
      go true e h = far n (omega arith) e (rw e)
      go false e (stuck x y) = stuck (rw e x) (rw e y)
      go false e (far k l g x) = far k (omega arith) g (rw e x)

  -- from a byte on all is granted as far as the reach goes
  pub reach_far : (a next : ℕ) → next ≡ reach r v way a r.count → (next ≡ 0 → ⊥)
      → (a < next) × ((b : ℕ) → a ≤ b → b < next → granted r v way b ≡ true)
  unfolding granted
  reach_far a next e z = go (reach_is a r.count)
    where
      go : Reach a r.count → (a < next) × ((b : ℕ) → a ≤ b → b < next → granted r v way b ≡ true)
      go (stuck x y) = absurd (z (e ∙ x))
      go (far k l g x) =
          let i = bounds (holder_at r k) (permission_at r k) (start_at r k) (last_at r k) v way a g in
          (omega arith, λ b m n. some_of (grants r v way b) r.count k l (within (holder_at r k) (permission_at r k) (start_at r k) (last_at r k) v way a b g m (omega arith)))

  pub reach_none : (a : ℕ) → reach r v way a r.count ≡ 0 → granted r v way a ≡ false
  unfolding granted
  reach_none a z = go (reach_is a r.count)
    where
      go : Reach a r.count → granted r v way a ≡ false
      go (stuck x y) = y
      go (far k l g x) = absurd (omega arith)

  -- every byte from `from` on, below `at`, is granted
  abbrev pub Walked : ℕ → ℕ → Type 0
  Walked from at = (a : ℕ) → from ≤ a → a < at → granted r v way a ≡ true

  pub walk_none : (from : ℕ) → Walked from from
  walk_none from a h l = absurd (omega arith)

  pub walk_more : (from at next : ℕ) → Walked from at → next ≡ reach r v way at r.count → (next ≡ 0 → ⊥) → Walked from next
  walk_more from at next w e z a h l =
      elim (dec_lt a at) [
        | yes m ↦ w a h m
        | no m ↦ (reach_far at next e z).1 a (omega arith) l
      ]

  pub walk_miss : (from at end : ℕ) → from ≤ at → at < end → reach r v way at r.count ≡ 0 → false ≡ granted_all r v way from (end - from)
  unfolding granted_all
  walk_miss from at end h l z =
      let i : from + (at - from) ≡ at = omega arith in
      every_miss _ (end - from) (at - from) (omega arith) (rw i (reach_none at z))

  pub walk_done : (from at end : ℕ) → from ≤ end → end ≤ at → Walked from at → true ≡ granted_all r v way from (end - from)
  unfolding granted_all
  walk_done from at end h l w = sym (every_of _ (end - from) (λ i m. w (from + i) (omega arith) (omega arith)))

-- how the walk tells the reach
pub reached_far : (m n : ℕ) → n ≡ m → (n ≡ 0 → ⊥) → Some n ≡ reached m
reached_far m n e z = let f : Some m ≡ reached m = rw (ne_eqb m 0 (λ h. z (e ∙ h))) in ap Some e ∙ f

pub reached_nowhere : (m : ℕ) → 0 ≡ m → None ≡ reached m
reached_nowhere m e = rw (← e)

pub reached_is : (m n : ℕ) → reached m ≡ Some n → (n ≡ m) × (n ≡ 0 → ⊥)
reached_is m n e =
    elim (ℕ_discrete m 0) [
      | yes z ↦ (let f : ◌≡◌ {A = Option ℕ} None (Some n) = rw z at e in absurd cc)
      | no z ↦ (let f : ◌≡◌ {A = Option ℕ} (Some m) (Some n) = rw (ne_eqb m 0 z) at e in (cc, λ h. z cc))
    ]

pub reached_none : (m : ℕ) → reached m ≡ None → m ≡ 0
reached_none m e =
    elim (ℕ_discrete m 0) [
      | yes z ↦ z
      | no z ↦ (let f : ◌≡◌ {A = Option ℕ} (Some m) None = rw (ne_eqb m 0 z) at e in absurd cc)
    ]

-- H10, after the test for no bytes
pub allowed_none : (r : Regions) (v address length way : ℕ) (b : Bool) → length ≡ 0 → b ≡ true → b ≡ allowed r v address length way
unfolding allowed
allowed_none r v address length way b z e = rw (eq-eqb length 0 z) e

pub allowed_past : (r : Regions) (v address length way from n : ℕ) → from ≡ address → n ≡ length → (length ≡ 0 → ⊥) → 2 ^ 32 < from + n → false ≡ allowed r v address length way
unfolding allowed
allowed_past r v address length way from n e f z h = rw (ne_eqb length 0 z, lt-leb (address + length) (2 ^ 32) (omega arith))

pub allowed_walked : (r : Regions) (v address length way from n : ℕ) (b : Bool) → from ≡ address → n ≡ length → (length ≡ 0 → ⊥) → from + n ≤ 2 ^ 32
    → b ≡ granted_all r v way from (from + n - from) → b ≡ allowed r v address length way
unfolding allowed
allowed_walked r v address length way from n b e f z h g =
    let i : from + n - from ≡ length = omega arith in
    rw (ne_eqb length 0 z, le-leb (address + length) (2 ^ 32) (omega arith)) (rw (i, e) at g)

-- a walk down through the regions: one that grants the byte ends it, one that does not is passed by
pub reach_hit : (r : Regions) (v way a k j n y : ℕ) → reach r v way a k ≡ reach r v way a n → j + 1 ≡ k → grants r v way a j ≡ true → y ≡ last_at r j + 1 → y ≡ reach r v way a n
unfolding reach up_to
reach_hit r v way a k j n y e i g h =
    let f : k ≡ suc j = omega arith in
    h ∙ rw (← e, f, g)

pub reach_pass : (r : Regions) (v way a k j n : ℕ) → reach r v way a k ≡ reach r v way a n → j + 1 ≡ k → grants r v way a j ≡ false → reach r v way a j ≡ reach r v way a n
unfolding reach up_to
reach_pass r v way a k j n e i g =
    let f : k ≡ suc j = omega arith in
    rw (← e, f, g)

pub reach_end : (r : Regions) (v way a k n : ℕ) → reach r v way a k ≡ reach r v way a n → k ≡ 0 → 0 ≡ reach r v way a n
unfolding reach up_to
reach_end r v way a k n e z = rw (← e, z)
