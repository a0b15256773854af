-- The reader's test of one region beside the regions read so far is the fact about the whole list.
use Prim.Native.Nat.{suc, zero, ℕ, ◌<◌, ◌≤◌}
use borrow.Author.Tests.{eq-eqb, eqb-false, eqb-true, le-ltb, ltb-false, ne_eqb}
use lib.Dec.{eqb, ltb}
use lib.ListN.{get_or}
use mathlib.Core.Bool.{Bool, false, not, true}
use mathlib.Core.List.{List}
use mathlib.Core.Logic.{inl, inr, ◌⊎◌, ⊎_elim}
use mathlib.Core.Path.{refl, sym, ◌≡◌}
use native.Mathlib.Omega.{arith}
use Rattle.basis.proofs.Laws.{both_left, both_of, both_right, every_is, every_of}
use Rattle.basis.specs.Choice.{both, either}
use Rattle.basis.specs.Count.{how_many}
use Rattle.regions.proofs.Steps.{Next}
use Rattle.regions.specs.Beside.{agrees, agrees_all}
use Rattle.regions.specs.Rules.{held, holder_at, last_at, may_write, permission_at, start_at}
use Rattle.regions.specs.declared.Regions.{Regions}

-- counts of two lists that agree below n
pub held_same : (hs ts : List ℕ) (v n : ℕ) → ((k : ℕ) → k < n → get_or hs k 0 ≡ get_or ts k 0) → held hs v n ≡ held ts v n
unfolding held how_many
held_same hs ts v zero h = refl
held_same hs ts v (suc n) h = rw (h n (omega arith), held_same hs ts v n (λ k l. h k (omega arith)))

-- two regions, as facts
agrees_is : (p h s l p' h' s' l' : ℕ) → agrees p h s l p' h' s' l' ≡ true
    → (p' ≡ 2) ⊎ (p ≡ 2) → (h' ≡ h → ⊥) → s' ≤ l → s ≤ l' → (s' ≡ s) × (l' ≡ l)
agrees_is p h s l p' h' s' l' e w n a b =
    let f = rw (ne_eqb h h' (λ z. n (sym z)), le-ltb l' s b, le-ltb l s' a) at (rw (writes w) at e) in
    (sym (eqb-true s s' (both_left (eqb s s') (eqb l l') f)), sym (eqb-true l l' (both_right (eqb s s') (eqb l l') f)))
  where
    shut : (b : Bool) → both b false ≡ false
    shut true = refl
    shut false = refl

    writes : (p' ≡ 2) ⊎ (p ≡ 2) → both (not (may_write p)) (not (may_write p')) ≡ false
    writes = ⊎_elim (λ z. rw (eq-eqb p' 2 z) (shut (not (may_write p)))) (λ z. rw (eq-eqb p 2 z))

agrees_of : (p h s l p' h' s' l' : ℕ)
    → ((p' ≡ 2) ⊎ (p ≡ 2) → (h' ≡ h → ⊥) → s' ≤ l → s ≤ l' → (s' ≡ s) × (l' ≡ l)) → agrees p h s l p' h' s' l' ≡ true
agrees_of p h s l p' h' s' l' f = go (eqb p 2) refl (eqb p' 2) refl (eqb h h') refl (ltb l' s) refl (ltb l s') refl
  where
    same : (p' ≡ 2) ⊎ (p ≡ 2) → (h ≡ h' → ⊥) → s ≤ l' → s' ≤ l → both (eqb s s') (eqb l l') ≡ true
    same w n a b = let r = f w (λ z. n (sym z)) b a in both_of (eqb s s') (eqb l l') (eq-eqb s s' (sym r.0)) (eq-eqb l l' (sym r.1))

    go : (x : Bool) → eqb p 2 ≡ x → (y : Bool) → eqb p' 2 ≡ y → (b : Bool) → eqb h h' ≡ b → (c : Bool) → ltb l' s ≡ c → (d : Bool) → ltb l s' ≡ d
        → either (both (not x) (not y)) (either b (either (either c d) (both (eqb s s') (eqb l l')))) ≡ true
    go false i false j b k c m d n = refl
    go true i y j true k c m d n = refl
    go true i y j false k true m d n = refl
    go true i y j false k false m true n = refl
    go true i y j false k false m false n = same (inr (eqb-true p 2 i)) (eqb-false h h' k) (ltb-false l' s m) (ltb-false l s' n)
    go false i true j true k c m d n = refl
    go false i true j false k true m d n = refl
    go false i true j false k false m true n = refl
    go false i true j false k false m false n = same (inl (eqb-true p' 2 j)) (eqb-false h h' k) (ltb-false l' s m) (ltb-false l s' n)

-- r holds what t holds, as far as it goes
pub record Begins (r t : Regions) : Type 0 where
  pub holders : (k : ℕ) → k < r.count → holder_at r k ≡ holder_at t k
  pub permissions : (k : ℕ) → k < r.count → permission_at r k ≡ permission_at t k
  pub starts : (k : ℕ) → k < r.count → start_at r k ≡ start_at t k
  pub lasts : (k : ℕ) → k < r.count → last_at r k ≡ last_at t k

module _ (vms : ℕ) (r t : Regions) (b : Begins r t) where
  pub next_taken : holder_at t r.count < vms → held r.holders (holder_at t r.count) r.count < 8
      → (1 ≤ permission_at t r.count) × (permission_at t r.count ≤ 3) → start_at t r.count ≤ last_at t r.count
      → agrees_all r (holder_at t r.count) (permission_at t r.count) (start_at t r.count) (last_at t r.count) ≡ true
      → Next vms t r.count
  unfolding agrees_all
  next_taken h m p o a = record {
    named = h;
    room = rw (held_same r.holders t.holders (holder_at t r.count) r.count b.holders) at m;
    permitted = p;
    ordered = o;
    beside = λ j l. agrees_is (permission_at t r.count) (holder_at t r.count) (start_at t r.count) (last_at t r.count) (permission_at t j) (holder_at t j) (start_at t j) (last_at t j)
        (rw (b.permissions j l, b.holders j l, b.starts j l, b.lasts j l) at (every_is _ r.count a j l));
  }

  pub next_agrees : Next vms t r.count → agrees_all r (holder_at t r.count) (permission_at t r.count) (start_at t r.count) (last_at t r.count) ≡ true
  unfolding agrees_all
  next_agrees n =
      every_of _ r.count (λ j l. rw (b.permissions j l, b.holders j l, b.starts j l, b.lasts j l)
      (agrees_of (permission_at t r.count) (holder_at t r.count) (start_at t r.count) (last_at t r.count) (permission_at t j) (holder_at t j) (start_at t j) (last_at t j) (n.beside j l)))

  pub next_room : Next vms t r.count → held r.holders (holder_at t r.count) r.count < 8
  next_room n = rw (held_same r.holders t.holders (holder_at t r.count) r.count b.holders) n.room
