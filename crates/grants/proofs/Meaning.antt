-- The access query says what the facts say: every byte of the range lies in a region that allows the way (H8 to H11).
use Prim.Native.Nat.{ℕ, ◌+◌, ◌-◌, ◌<◌, ◌^◌, ◌≤◌}
use borrow.Author.Tests.{eq-eqb, eqb-true, le-leb, leb-true}
use lib.Dec.{eqb, leb}
use mathlib.Core.Bool.{Bool, false, true}
use mathlib.Core.Logic.{inl, inr, ⊎_elim}
use mathlib.Core.Path.{refl, ◌≡◌}
use native.Mathlib.Decide.{ℕ_discrete}
use native.Mathlib.Omega.{arith}
use Rattle.basis.proofs.Laws.{both_left, both_of, both_right, either_is, either_left, either_right, every_is, every_of, some_is, some_of}
use Rattle.basis.specs.Choice.{both, either, pick}
use Rattle.basis.specs.Count.{every}
use Rattle.grants.specs.Access.{Allowed, Granted, Permits, allowed, allows, granted, granted_all, grants, permits}
use Rattle.regions.specs.Rules.{holder_at, last_at, permission_at, start_at}
use Rattle.regions.specs.declared.Regions.{Regions}

-- H8
permits_is : (way p : ℕ) → permits way p ≡ true → Permits way p
permits_is way p e = go (eqb way 1) refl (eqb way 2) refl e
  where
    go : (x : Bool) → eqb way 1 ≡ x → (y : Bool) → eqb way 2 ≡ y → pick x (either (eqb p 1) (eqb p 2)) (pick y (eqb p 2) (both (eqb way 3) (eqb p 3))) ≡ true → Permits way p
    go true i y j e = inl (eqb-true way 1 i, ⊎_elim (λ h. inl (eqb-true p 1 h)) (λ h. inr (eqb-true p 2 h)) (either_is (eqb p 1) (eqb p 2) e))
    go false i true j e = inr (inl (eqb-true way 2 j, eqb-true p 2 e))
    go false i false j e = inr (inr (eqb-true way 3 (both_left (eqb way 3) _ e), eqb-true p 3 (both_right (eqb way 3) _ e)))

permits_of : (way p : ℕ) → Permits way p → permits way p ≡ true
permits_of way p =
    ⊎_elim
    (λ h. rw h.0 (⊎_elim (λ i. either_left (eqb p 1) _ (eq-eqb p 1 i)) (λ i. either_right (eqb p 1) _ (eq-eqb p 2 i)) h.1))
    (⊎_elim (λ h. rw (h.0, h.1)) (λ h. rw (h.0, h.1)))

-- H9
granted_is : (r : Regions) (v way a : ℕ) → granted r v way a ≡ true → Granted r v way a
unfolding granted allows
granted_is r v way a e =
    let s = some_is (grants r v way a) r.count e in
    let k = s.0 in
    let f = both_right (eqb (holder_at r k) v) _ s.2 in
    let g = both_right (permits way (permission_at r k)) _ f in
    record {
      place = k;
      listed = s.1;
      held = eqb-true (holder_at r k) v (both_left (eqb (holder_at r k) v) _ s.2);
      permits = permits_is way (permission_at r k) (both_left (permits way (permission_at r k)) _ f);
      from = leb-true (start_at r k) a (both_left (leb (start_at r k) a) _ g);
      to = leb-true a (last_at r k) (both_right (leb (start_at r k) a) _ g);
    }

granted_of : (r : Regions) (v way a : ℕ) → Granted r v way a → granted r v way a ≡ true
unfolding granted allows
granted_of r v way a g =
    let k = g.place in
    some_of (grants r v way a) r.count k g.listed
    (both_of (eqb (holder_at r k) v) _ (eq-eqb (holder_at r k) v g.held)
    (both_of (permits way (permission_at r k)) _ (permits_of way (permission_at r k) g.permits)
    (both_of (leb (start_at r k) a) _ (le-leb (start_at r k) a g.from) (le-leb a (last_at r k) g.to))))

-- H9, H10
pub allowed_is : (r : Regions) (v address length way : ℕ) → allowed r v address length way ≡ true → Allowed r v address length way
unfolding allowed granted_all
allowed_is r v address length way e =
    ⊎_elim
    (λ h. inl (eqb-true length 0 h))
    (λ h. inr (leb-true (address + length) (2 ^ 32) (both_left (leb (address + length) (2 ^ 32)) _ h), each (both_right (leb (address + length) (2 ^ 32)) _ h)))
    (either_is (eqb length 0) _ e)
  where
    each : every (λ i. granted r v way (address + i)) length ≡ true → (a : ℕ) → address ≤ a → a < address + length → Granted r v way a
    each h a m l =
        let j : address + (a - address) ≡ a = omega arith in
        granted_is r v way a (rw j at (every_is (λ i. granted r v way (address + i)) length h (a - address) (omega arith)))

pub allowed_of : (r : Regions) (v address length way : ℕ) → Allowed r v address length way → allowed r v address length way ≡ true
unfolding allowed granted_all
allowed_of r v address length way =
    ⊎_elim
    (λ h. either_left (eqb length 0) _ (eq-eqb length 0 h))
    (λ h. either_right (eqb length 0) _
    (both_of (leb (address + length) (2 ^ 32)) _ (le-leb (address + length) (2 ^ 32) h.0)
    (every_of _ length (λ i l. granted_of r v way (address + i) (h.1 (address + i) (omega arith) (omega arith))))))

-- H11: where there are no regions, no byte is granted
pub none_allowed : (r : Regions) (v address length way : ℕ) → r.count ≡ 0 → allowed r v address length way ≡ true → length ≡ 0
none_allowed r v address length way z e =
    ⊎_elim (λ h. h) (λ h. go h.1) (allowed_is r v address length way e)
  where
    go : ((a : ℕ) → address ≤ a → a < address + length → Granted r v way a) → length ≡ 0
    go f =
        elim (ℕ_discrete length 0) [
          | yes h ↦ h
          | no h ↦ absurd (omega (arith, (f address (omega arith) (omega arith)).listed))
        ]
