-- Overlapping regions (H6): a range that is clear of all others needs no look at the holders, and in a list in order all are.
use Prim.Native.Nat.{suc, zero, ℕ, ◌*◌, ◌+◌, ◌-◌, ◌/◌, ◌<◌, ◌≤◌}
use borrow.Author.Tests.{eq-eqb, eqb-true, le-leb, leb-true, lt-ltb, ltb-true}
use lib.Dec.{eqb, leb, ltb}
use lib.ListN.{get_or}
use mathlib.Core.Bool.{Bool, not, true, ◌&&◌}
use mathlib.Core.List.{List}
use mathlib.Core.Logic.{inl, inr, ◌⊎◌, ⊎_elim}
use mathlib.Core.Path.{refl, subst, sym, ◌∙◌, ◌≡◌}
use native.Mathlib.Decide.{dec_lt}
use native.Mathlib.Omega.{arith}
use Rattle.basis.proofs.Laws.{and_both, both_left, both_of, both_right, either_is, either_left, either_right, eqb_swap, every_is, every_of}
use Rattle.basis.specs.Choice.{both}
use Rattle.basis.specs.Count.{every}
use Rattle.regions.specs.Beside.{agrees_all, clear, follows}
use Rattle.regions.specs.Rules.{alike_all, all_agree, apart, holder_at, last_at, may_write, permission_at, ranges_fit, start_at}
use Rattle.regions.specs.declared.Regions.{Regions}

pub clear_agrees : (r : Regions) (h p s l : ℕ) (b : Bool) → r.count ≤ 64 → b ≡ every (λ j. clear s l (start_at r j) (last_at r j)) r.count → b ≡ true
    → true ≡ both (leb r.count 64) (agrees_all r h p s l)
unfolding agrees_all
clear_agrees r h p s l b few e t =
    sym
    (both_of (leb r.count 64) _ (le-leb r.count 64 few)
    (every_of _ r.count (λ k m. either_right (both (not (may_write p)) (not (may_write (permission_at r k)))) _ (either_right (eqb h (holder_at r k)) _ (every_is _ r.count (sym e ∙ t) k m)))))

-- regions in the order of their addresses: each range is behind every earlier one, or the same
module _ (n : ℕ) (ss ls : List ℕ) (o : every (λ k. leb (get_or ss k 0) (get_or ls k 0)) n ≡ true)
    (c : every (λ k. follows (get_or ss k 0) (get_or ls k 0) (get_or ss (k + 1) 0) (get_or ls (k + 1) 0)) (n - 1) ≡ true) where
  abbrev Behind : ℕ → ℕ → Type 0
  Behind i j = (get_or ls i 0 < get_or ss j 0) ⊎ ((get_or ss i 0 ≡ get_or ss j 0) × (get_or ls i 0 ≡ get_or ls j 0))

  next_behind : (k : ℕ) → k + 1 < n → Behind k (k + 1)
  next_behind k h =
      ⊎_elim
      (λ e. inl (ltb-true (get_or ls k 0) (get_or ss (k + 1) 0) e))
      (λ e. inr (eqb-true (get_or ss k 0) (get_or ss (k + 1) 0) (both_left (eqb (get_or ss k 0) (get_or ss (k + 1) 0)) _ e), eqb-true (get_or ls k 0) (get_or ls (k + 1) 0) (both_right (eqb (get_or ss k 0) (get_or ss (k + 1) 0)) _ e)))
      (either_is (ltb (get_or ls k 0) (get_or ss (k + 1) 0)) _ (every_is _ (n - 1) c k (omega arith)))

  behind : (i d : ℕ) → i + d < n → Behind i (i + d)
  behind i zero h = let e : i + 0 ≡ i = omega arith in rw e (inr (refl, refl))
  behind i (suc d) h =
      let e : i + suc d ≡ i + d + 1 = omega arith in
      let s : get_or ss (i + d) 0 ≤ get_or ls (i + d) 0 = leb-true (get_or ss (i + d) 0) (get_or ls (i + d) 0) (every_is _ n o (i + d) (omega arith)) in
      rw e
      (⊎_elim
      (λ a. ⊎_elim (λ b. inl (omega arith)) (λ b. inl (omega (arith, b.0))) (next_behind (i + d) (omega arith)))
      (λ a. ⊎_elim (λ b. inl (omega (arith, a.1))) (λ b. inr (a.0 ∙ b.0, a.1 ∙ b.1)) (next_behind (i + d) (omega arith)))
      (behind i d (omega arith)))

  behind_clear : (s l s' l' : ℕ) → (l < s') ⊎ ((s ≡ s') × (l ≡ l')) → clear s l s' l' ≡ true
  behind_clear s l s' l' =
      ⊎_elim
      (λ a. either_left (apart s l s' l') _ (either_right (ltb l' s) _ (lt-ltb l s' a)))
      (λ a. either_right (apart s l s' l') _ (both_of (eqb s s') _ (eq-eqb s s' a.0) (eq-eqb l l' a.1)))

  before_clear : (s l s' l' : ℕ) → (l' < s) ⊎ ((s' ≡ s) × (l' ≡ l)) → clear s l s' l' ≡ true
  before_clear s l s' l' =
      ⊎_elim
      (λ a. either_left (apart s l s' l') _ (either_left (ltb l' s) _ (lt-ltb l' s a)))
      (λ a. either_right (apart s l s' l') _ (both_of (eqb s s') _ (eq-eqb s s' (sym a.0)) (eq-eqb l l' (sym a.1))))

  order_clear : (i j : ℕ) → i < n → j < n → clear (get_or ss i 0) (get_or ls i 0) (get_or ss j 0) (get_or ls j 0) ≡ true
  order_clear i j h l =
      elim (dec_lt j i) [
        | yes m ↦ (let e : j + (i - j) ≡ i = omega arith in before_clear (get_or ss i 0) (get_or ls i 0) (get_or ss j 0) (get_or ls j 0) (subst (Behind j) e (behind j (i - j) (omega arith))))
        | no m ↦ (let e : i + (j - i) ≡ j = omega arith in behind_clear (get_or ss i 0) (get_or ls i 0) (get_or ss j 0) (get_or ls j 0) (subst (Behind i) e (behind i (j - i) (omega arith))))
      ]

-- where no two ranges clash, all agree
pairs_agree : (r : Regions) → ((i j : ℕ) → i < r.count → j < r.count → clear (start_at r i) (last_at r i) (start_at r j) (last_at r j) ≡ true) → true ≡ all_agree r
unfolding all_agree alike_all
pairs_agree r f =
    sym
    (every_of _ r.count (λ i l. either_right (not (may_write (permission_at r i))) _
    (every_of _ r.count (λ j m. either_right (eqb (holder_at r i) (holder_at r j)) _ (f i j l m)))))

pub order_agrees : (r : Regions) (a b : Bool) → a ≡ ranges_fit r
    → b ≡ every (λ k. follows (start_at r k) (last_at r k) (start_at r (k + 1)) (last_at r (k + 1))) (r.count - 1) → (a && b) ≡ true → true ≡ all_agree r
unfolding ranges_fit
order_agrees r a b e f h =
    let all = sym (and_both a b) ∙ h in
    pairs_agree r (order_clear r.count r.starts r.lasts (sym e ∙ both_left a b all) (sym f ∙ both_right a b all))

clear_swap : (s l s' l' : ℕ) → clear s l s' l' ≡ true → clear s' l' s l ≡ true
clear_swap s l s' l' e =
    ⊎_elim
    (λ h. either_left (apart s' l' s l) _ (⊎_elim (λ i. either_right (ltb l s') _ i) (λ i. either_left (ltb l s') _ i) (either_is (ltb l' s) (ltb l s') h)))
    (λ h. either_right (apart s' l' s l) _ (both_of (eqb s' s) _ (eqb_swap s' s ∙ both_left (eqb s s') _ h) (eqb_swap l' l ∙ both_right (eqb s s') _ h)))
    (either_is (apart s l s' l') _ e)

-- each held against those before it, by eight
pub clear_pairs : (r : Regions) (t : Bool)
    → t ≡ every (λ i. every (λ j. clear (start_at r i) (last_at r i) (start_at r j) (last_at r j)) ((i / 8 + 1) * 8)) r.count → t ≡ true → true ≡ all_agree r
clear_pairs r t e h =
    pairs_agree r
    (λ i j l m. elim (dec_lt i j) [
      | yes o ↦ clear_swap (start_at r j) (last_at r j) (start_at r i) (last_at r i) (below j i m (omega arith))
      | no o ↦ below i j l (omega arith)
    ])
  where
    below : (i j : ℕ) → i < r.count → j ≤ i → clear (start_at r i) (last_at r i) (start_at r j) (last_at r j) ≡ true
    below i j l o =
        every_is (λ k. clear (start_at r i) (last_at r i) (start_at r k) (last_at r k)) ((i / 8 + 1) * 8)
        (every_is (λ k. every (λ q. clear (start_at r k) (last_at r k) (start_at r q) (last_at r q)) ((k / 8 + 1) * 8)) r.count (sym e ∙ h) i l) j (omega arith)
