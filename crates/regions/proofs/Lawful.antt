-- The test `lawful` says what the record `Lawful` says: H1 to H6 as facts about every place and every pair.
use Prim.Native.Nat.{ℕ, ◌<◌, ◌≤◌}
use borrow.Author.Tests.{eq-eqb, eqb-false, eqb-true, le-leb, le-ltb, leb-true, lt-ltb, ltb-false, ltb-true, ne_eqb}
use lib.Dec.{eqb, ltb}
use mathlib.Core.Bool.{Bool, false, not, true}
use mathlib.Core.Path.{refl, ◌∙◌, ◌≡◌}
use Rattle.basis.proofs.Bounds.{rest_is, rest_of, within_is, within_of}
use Rattle.basis.proofs.Laws.{both_left, both_of, both_right, every_is, every_of}
use Rattle.basis.specs.Bounds.{empty_rest, zeros}
use Rattle.basis.specs.Choice.{both, either}
use Rattle.basis.specs.Count.{every, how_many}
use Rattle.regions.specs.Rules.{Lawful, alike, alike_all, all_agree, blank, bytes_rest, count_fits, few_each, held, holder_at, holders_fit, kept, last_at, lawful, may_write, none, permission_at, permissions_fit, ranges_fit, start_at, words_rest}
use Rattle.regions.specs.declared.Regions.{Regions}

-- two regions, the first of which may be written
alike_is : (p h s l h' s' l' : ℕ) → either (not (may_write p)) (alike h s l h' s' l') ≡ true
    → p ≡ 2 → (h ≡ h' → ⊥) → s ≤ l' → s' ≤ l → (s ≡ s') × (l ≡ l')
alike_is p h s l h' s' l' e w n a b =
    let f = rw (eq-eqb p 2 w, ne_eqb h h' n, le-ltb l' s a, le-ltb l s' b) at e in
    (eqb-true s s' (both_left (eqb s s') (eqb l l') f), eqb-true l l' (both_right (eqb s s') (eqb l l') f))

alike_of : (p h s l h' s' l' : ℕ) → (p ≡ 2 → (h ≡ h' → ⊥) → s ≤ l' → s' ≤ l → (s ≡ s') × (l ≡ l'))
    → either (not (may_write p)) (alike h s l h' s' l') ≡ true
alike_of p h s l h' s' l' f = go (eqb p 2) refl (eqb h h') refl (ltb l' s) refl (ltb l s') refl
  where
    go : (a : Bool) → eqb p 2 ≡ a → (b : Bool) → eqb h h' ≡ b → (c : Bool) → ltb l' s ≡ c → (d : Bool) → ltb l s' ≡ d
        → either (not a) (either b (either (either c d) (both (eqb s s') (eqb l l')))) ≡ true
    go false x b y c z d u = refl
    go true x true y c z d u = refl
    go true x false y true z d u = refl
    go true x false y false z true u = refl
    go true x false y false z false u =
        let r = f (eqb-true p 2 x) (eqb-false h h' y) (ltb-false l' s z) (ltb-false l s' u) in
        both_of (eqb s s') (eqb l l') (eq-eqb s s' r.0) (eq-eqb l l' r.1)

-- the rules that the test joins
record Rules (vms : ℕ) (r : Regions) : Type 0 where
  count : count_fits r ≡ true
  holders : holders_fit vms r ≡ true
  permissions : permissions_fit r ≡ true
  ranges : ranges_fit r ≡ true
  few : few_each r.count r.holders ≡ true
  agree : all_agree r ≡ true
  bytes : bytes_rest r ≡ true
  words : words_rest r ≡ true

rules_is : (vms : ℕ) (r : Regions) → lawful vms r ≡ true → Rules vms r
unfolding lawful kept
rules_is vms r e =
    let e1 = both_right (count_fits r) _ e in
    let e2 = both_right (holders_fit vms r) _ e1 in
    let e3 = both_right (permissions_fit r) _ e2 in
    let e4 = both_right (ranges_fit r) _ e3 in
    let e5 = both_right (few_each r.count r.holders) _ e4 in
    let e6 = both_right (all_agree r) _ e5 in
    record {
      count = both_left (count_fits r) _ e;
      holders = both_left (holders_fit vms r) _ e1;
      permissions = both_left (permissions_fit r) _ e2;
      ranges = both_left (ranges_fit r) _ e3;
      few = both_left (few_each r.count r.holders) _ e4;
      agree = both_left (all_agree r) _ e5;
      bytes = both_left (bytes_rest r) _ e6;
      words = both_right (bytes_rest r) _ e6;
    }

-- H1 to H6: regions that pass the test keep the rules
pub lawful_is : (vms : ℕ) (r : Regions) → lawful vms r ≡ true → Lawful vms r
unfolding holders_fit permissions_fit ranges_fit few_each all_agree alike_all bytes_rest words_rest
lawful_is vms r e =
    let a = rules_is vms r e in
    record {
      few = leb-true r.count 64 a.count;
      named = λ k h. ltb-true (holder_at r k) vms (every_is _ r.count a.holders k h);
      permitted = λ k h. within_is 1 3 (permission_at r k) (every_is _ r.count a.permissions k h);
      ordered = λ k h. leb-true (start_at r k) (last_at r k) (every_is _ r.count a.ranges k h);
      each = λ v h. leb-true (held r.holders v r.count) 8 (every_is _ 8 a.few v h);
      shared = λ i j h l w. alike_is (permission_at r i) (holder_at r i) (start_at r i) (last_at r i) (holder_at r j) (start_at r j) (last_at r j) (every_each (not (may_write (permission_at r i))) _ r.count (every_is _ r.count a.agree i h) j l) w;
      bytes_empty = λ k h l. (rest_is r.count r.holders (both_left (empty_rest r.count r.holders) _ a.bytes) k h l, rest_is r.count r.permissions (both_right (empty_rest r.count r.holders) _ a.bytes) k h l);
      words_empty = λ k h l. (rest_is r.count r.starts (both_left (empty_rest r.count r.starts) _ a.words) k h l, rest_is r.count r.lasts (both_right (empty_rest r.count r.starts) _ a.words) k h l);
    }
  where
    every_each : (b : Bool) (p : ℕ → Bool) (n : ℕ) → either b (every p n) ≡ true → (k : ℕ) → k < n → either b (p k) ≡ true
    every_each true p n e k h = refl
    every_each false p n e k h = every_is p n e k h

-- H1 to H6: and regions that keep the rules pass it
pub lawful_of : (vms : ℕ) (r : Regions) → Lawful vms r → lawful vms r ≡ true
unfolding lawful kept holders_fit permissions_fit ranges_fit few_each all_agree alike_all bytes_rest words_rest
lawful_of vms r a =
    both_of (count_fits r) _ (le-leb r.count 64 a.few)
    (both_of (holders_fit vms r) _ (every_of _ r.count (λ k h. lt-ltb (holder_at r k) vms (a.named k h)))
    (both_of (permissions_fit r) _ (every_of _ r.count (λ k h. within_of 1 3 (permission_at r k) (a.permitted k h).0 (a.permitted k h).1))
    (both_of (ranges_fit r) _ (every_of _ r.count (λ k h. le-leb (start_at r k) (last_at r k) (a.ordered k h)))
    (both_of (few_each r.count r.holders) _ (every_of _ 8 (λ v h. le-leb (held r.holders v r.count) 8 (a.each v h)))
    (both_of (all_agree r) _ (every_of _ r.count (λ i h. each_every (not (may_write (permission_at r i))) _ r.count (λ j l. alike_of (permission_at r i) (holder_at r i) (start_at r i) (last_at r i) (holder_at r j) (start_at r j) (last_at r j) (a.shared i j h l))))
    (both_of (bytes_rest r) _ (both_of (empty_rest r.count r.holders) _ (rest_of r.count r.holders (λ k h l. (a.bytes_empty k h l).0)) (rest_of r.count r.permissions (λ k h l. (a.bytes_empty k h l).1)))
    (both_of (empty_rest r.count r.starts) _ (rest_of r.count r.starts (λ k h l. (a.words_empty k h l).0)) (rest_of r.count r.lasts (λ k h l. (a.words_empty k h l).1)))))))))
  where
    each_every : (b : Bool) (p : ℕ → Bool) (n : ℕ) → ((k : ℕ) → k < n → either b (p k) ≡ true) → either b (every p n) ≡ true
    each_every true p n f = refl
    each_every false p n f = every_of p n f

-- H11: no regions are lawful, whatever the number of VMs
pub none_lawful : (vms : ℕ) → lawful vms none ≡ true
unfolding lawful kept holders_fit permissions_fit ranges_fit few_each held how_many all_agree bytes_rest words_rest every zeros
none_lawful vms = refl

-- H1: regions of which there are none are lawful where all places hold zero
pub blank_lawful : (vms : ℕ) (r : Regions) (t : Bool) → r.count ≡ 0 → t ≡ blank r → t ≡ lawful vms r
unfolding lawful kept holders_fit permissions_fit ranges_fit few_each held how_many all_agree bytes_rest words_rest every blank
blank_lawful vms r t z e = e ∙ rw z
