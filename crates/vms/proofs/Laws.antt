-- Laws of the eight records: loops over them, and tests of them.
use Prim.Native.Nat.{min, suc, zero, ℕ, ◌+◌, ◌-◌, ◌<◌, ◌≤◌}
use borrow.Author.Tests.{le-ltb, lt-ltb}
use lib.Dec.{ltb}
use lib.ListN.{get_or-eq_default, get_or, length, length-set, set}
use lib.Seq.{get_or-set_other, get_or-set_same, set_out}
use mathlib.Core.Bool.{Bool, false, not, true}
use mathlib.Core.List.{List, [], ◌∷◌}
use mathlib.Core.Logic.{◌≢◌}
use mathlib.Core.Path.{ap, refl, sym, ◌∙◌, ◌≡◌}
use native.Mathlib.Decide.{dec_lt, ℕ_discrete}
use native.Mathlib.Nat.{add-suc, add-zero}
use native.Mathlib.Omega.{arith}
use Rattle.basis.proofs.Laws.{false_true, up_to_more}
use Rattle.basis.specs.Choice.{either, pick}
use Rattle.basis.specs.Count.{up_to}
use Rattle.basis.specs.Nobody.{nobody}
use Rattle.config.specs.Sizes.{is_spare}
use Rattle.guest.specs.Record.{fresh, is_fresh, is_ready}
use Rattle.guest.specs.declared.Vm.{Vm}
use Rattle.vms.specs.Records.{each, standings_of}
use Rattle.vms.specs.Tick.{passed, runner_of, turn, turn_by}

-- W2, of record k
abbrev pub unused_fresh : ℕ → List Vm → ℕ → Bool
unused_fresh count l k = either (ltb k count) (is_fresh (get_or l k fresh))

module _ (f : ℕ → Vm → Vm) where
  pub each_none : (l : List Vm) → l ≡ each f 0 l
  unfolding each up_to
  each_none l = refl

  pub each_more : (l x y : List Vm) (k : ℕ) → x ≡ each f k l → y ≡ set x k (f k (get_or x k fresh)) → y ≡ each f (k + 1) l
  unfolding each
  each_more l x y k e g = up_to_more _ l k x y e g

  pub each_length : (l : List Vm) (n : ℕ) → length (each f n l) ≡ length l
  unfolding each up_to
  each_length l zero = refl
  each_length l (suc n) = length-set (each f n l) n _ ∙ each_length l n

  -- past the last record nothing changes
  pub each_past : (l : List Vm) (n : ℕ) → length l ≤ n → each f (suc n) l ≡ each f n l
  unfolding each up_to
  each_past l n h = set_out (each f n l) n _ (omega (arith, each_length l n))

  pub each_far : (l : List Vm) (m n : ℕ) → length l ≤ m → each f (m + n) l ≡ each f m l
  each_far l m zero h = ap (λ (k : ℕ). each f k l) (add-zero m)
  each_far l m (suc n) h = ap (λ (k : ℕ). each f k l) (add-suc m n) ∙ each_past l (m + n) (omega arith) ∙ each_far l m n h

  pub each_end : (l x : List Vm) (k n : ℕ) → length l ≡ 8 → x ≡ each f k l → k ≡ min n 8 → x ≡ each f n l
  each_end l x k n h e g =
      elim (dec_lt n 8) [
        | yes p ↦ (let i : k ≡ n = omega arith in rw (← i) e)
        | no p ↦ (let i : k ≡ 8 = omega arith in let j : n ≡ 8 + (n - 8) = omega arith in (rw i at e) ∙ sym (ap (λ (m : ℕ). each f m l) j ∙ each_far l 8 (n - 8) (omega arith)))
      ]

  each_hit : (l : List Vm) (n : ℕ) → n < length l → get_or (each f (suc n) l) n fresh ≡ f n (get_or (each f n l) n fresh)
  unfolding each up_to
  each_hit l n h = get_or-set_same (each f n l) n _ fresh (omega (arith, each_length l n))

  each_miss : (l : List Vm) (n i : ℕ) → i ≢ n → get_or (each f (suc n) l) i fresh ≡ get_or (each f n l) i fresh
  unfolding each up_to
  each_miss l n i h = get_or-set_other (each f n l) n i _ fresh h

  -- what stands there afterwards
  pub each_at : (l : List Vm) (n i : ℕ) → i < length l → get_or (each f n l) i fresh ≡ pick (ltb i n) (f i (get_or l i fresh)) (get_or l i fresh)
  each_at l zero i h = rw (le-ltb i 0 (omega arith)) (ap (λ (w : List Vm). get_or w i fresh) (sym (each_none l)))
  each_at l (suc n) i h =
      elim (ℕ_discrete i n) [
        | yes e ↦
            (let j : get_or (each f n l) n fresh ≡ get_or l n fresh = rw (e, le-ltb n n (omega arith)) at (each_at l n i h) in
            rw (e, lt-ltb n (suc n) (omega arith)) (each_hit l n (omega arith) ∙ ap (f n) j))
        | no e ↦ each_miss l n i e ∙ each_at l n i h ∙ ap (λ (b : Bool). pick b (f i (get_or l i fresh)) (get_or l i fresh)) (next e)
      ]
    where
      next : (i ≡ n → ⊥) → ltb i n ≡ ltb i (suc n)
      next e =
          elim (dec_lt i n) [
            | yes p ↦ lt-ltb i n p ∙ sym (lt-ltb i (suc n) (omega arith))
            | no p ↦ (let q : n < i = below e p in le-ltb i n (omega arith) ∙ sym (le-ltb i (suc n) (omega arith)))
          ]
        where
          below : (i ≡ n → ⊥) → (i < n → ⊥) → n < i
          below e p = elim (dec_lt n i) [ yes q ↦ q | no q ↦ absurd (e (omega arith)) ]

-- what is read past the last record
pub vm_past : (l : List Vm) (i : ℕ) (v : Vm) → length l ≡ 8 → 8 ≤ i → v ≡ fresh → v ≡ get_or l i fresh
vm_past l i v e h f = f ∙ sym (get_or-eq_default l fresh (omega arith))

-- a test that is turned round
pub test_failed : (b p : Bool) → b ≡ p → not b ≡ true → p ≡ false
test_failed true p e f = false_true f
test_failed false p e f = sym e

pub test_passed : (b p : Bool) → b ≡ p → not b ≡ false → p ≡ true
test_passed true p e f = sym e
test_passed false p e f = false_true (sym f)

-- the standings of eight records, one by one
pub eight : (l : List Vm) → length l ≡ 8
    → ((get_or l 0 fresh).standing ∷ (get_or l 1 fresh).standing ∷ (get_or l 2 fresh).standing ∷ (get_or l 3 fresh).standing
    ∷ (get_or l 4 fresh).standing ∷ (get_or l 5 fresh).standing ∷ (get_or l 6 fresh).standing ∷ (get_or l 7 fresh).standing ∷ []) ≡ standings_of l
eight [] q = absurd (omega arith)
eight (a ∷ []) q = absurd (omega arith)
eight (a ∷ b ∷ []) q = absurd (omega arith)
eight (a ∷ b ∷ c ∷ []) q = absurd (omega arith)
eight (a ∷ b ∷ c ∷ d ∷ []) q = absurd (omega arith)
eight (a ∷ b ∷ c ∷ d ∷ e ∷ []) q = absurd (omega arith)
eight (a ∷ b ∷ c ∷ d ∷ e ∷ f ∷ []) q = absurd (omega arith)
eight (a ∷ b ∷ c ∷ d ∷ e ∷ f ∷ g ∷ []) q = absurd (omega arith)
eight (a ∷ b ∷ c ∷ d ∷ e ∷ f ∷ g ∷ h ∷ []) q = refl
eight (a ∷ b ∷ c ∷ d ∷ e ∷ f ∷ g ∷ h ∷ i ∷ l) q = absurd (omega arith)

-- at a tick that is not spare it does not matter who would be served
pub turn_served : (l : List Vm) (handlers : List ℕ) (running at count owner head other left : ℕ)
    → turn running at count owner (pick (is_spare owner) head other) left handlers l ≡ turn running at count owner head left handlers l
unfolding turn runner_of
turn_served l handlers running at count owner head other left = go (is_spare owner)
  where
    go : (b : Bool) → turn_by (pick b (pick b head other) (pick (is_ready (get_or (passed running at count l) owner fresh)) owner nobody)) left handlers (passed running at count l)
        ≡ turn_by (pick b head (pick (is_ready (get_or (passed running at count l) owner fresh)) owner nobody)) left handlers (passed running at count l)
    go true = refl
    go false = refl
