-- Laws of the shared vocabulary, in the forms that proofs of code ask for.
use Prim.Native.Nat.{suc, zero, ℕ, ◌+◌, ◌<◌, ◌≤◌}
use borrow.Author.Rules.{rules}
use borrow.Author.Tests.{eq-eqb, le-leb, le-ltb, lt-leb, lt-ltb, ne_eqb}
use lib.Bits.{and_le_l, bit_or, or_add_and, or_zero_r}
use lib.Dec.{eqb}
use lib.ListN.{get_or-eq_default, get_or, length, length-map}
use mathlib.Core.Bool.{Bool, false, true, ◌&&◌, ◌||◌}
use mathlib.Core.List.{List, map}
use mathlib.Core.Logic.{inl, inr, ◌⊎◌, ⊎_elim}
use mathlib.Core.Path.{refl, sym, ◌∙◌, ◌≡◌}
use mir.Val.{bool_byte}
use native.Mathlib.Decide.{dec_lt, ℕ_discrete}
use native.Mathlib.Numerals.{add-one}
use native.Mathlib.Omega.{arith}
use Rattle.basis.specs.Choice.{both, either, pick}
use Rattle.basis.specs.Count.{every, how_many, some, up_to}

-- what turns a test of the code into the test of a definition
pub ruleset tests = (lt-ltb, le-ltb, le-leb, lt-leb, eq-eqb, ne_eqb)

pub ruleset ways = (rules, lt-ltb, le-ltb, le-leb, lt-leb, eq-eqb, ne_eqb)

pub false_true : {X : Type 0} → false ≡ true → X
false_true e = let z : ◌≡◌ {A = ℕ} 0 1 = cc in absurd (omega arith)

-- an array of structs has as many elements as its image in memory
pub length_mapped : (X Y : Type 0) (f : X → Y) (l : List X) (n : ℕ) → length (map f l) ≡ n → length l ≡ n
length_mapped X Y f l n e = sym (length-map l f) ∙ e

-- a read past the end gives the default
pub get_d_past : (l : List ℕ) (k : ℕ) → length l ≤ k → 0 ≡ get_or l k 0
get_d_past l k h = sym (get_or-eq_default l 0 h)

pub array_past : (l : List ℕ) (n k : ℕ) → length l ≡ n → n ≤ k → 0 ≡ get_or l k 0
array_past l n k e h = get_d_past l k (omega arith)

-- a choice whose test is known
pub pick_true : {A : Type 0} (b : Bool) (x y z : A) → b ≡ true → z ≡ x → z ≡ pick b x y
pick_true b x y z e f = rw e f

pub pick_false : {A : Type 0} (b : Bool) (x y z : A) → b ≡ false → z ≡ y → z ≡ pick b x y
pick_false b x y z e f = rw e f

-- what holds of both choices holds of the choice
pub pick_case : {A : Type 0} (P : A → Type 0) (b : Bool) (x y : A) → (b ≡ true → P x) → (b ≡ false → P y) → P (pick b x y)
pick_case P true x y p q = p refl
pick_case P false x y p q = q refl

pub both_left : (a b : Bool) → both a b ≡ true → a ≡ true
both_left true b e = refl
both_left false b e = false_true e

pub both_right : (a b : Bool) → both a b ≡ true → b ≡ true
both_right true b e = e
both_right false b e = false_true e

pub both_of : (a b : Bool) → a ≡ true → b ≡ true → both a b ≡ true
both_of true b x y = y
both_of false b x y = false_true x

pub both_assoc : (a b c : Bool) → both (both a b) c ≡ both a (both b c)
both_assoc true b c = refl
both_assoc false b c = refl

pub eqb_same : (n : ℕ) → eqb n n ≡ true
eqb_same n = eq-eqb n n refl

pub eqb_swap : (a b : ℕ) → eqb a b ≡ eqb b a
eqb_swap a b =
    elim (ℕ_discrete a b) [
      | yes e ↦ eq-eqb a b e ∙ sym (eq-eqb b a (sym e))
      | no e ↦ ne_eqb a b e ∙ sym (ne_eqb b a (λ z. e (sym z)))
    ]

pub both_swap : (a b : Bool) → both a b ≡ both b a
both_swap true true = refl
both_swap true false = refl
both_swap false true = refl
both_swap false false = refl

-- what the code joins by `&` and `|`
pub and_both : (a b : Bool) → (a && b) ≡ both a b
and_both true b = refl
and_both false b = refl

pub or_either : (a b : Bool) → (a || b) ≡ either a b
or_either true b = refl
or_either false b = refl

-- two tests of which each holds where the other does
pub same_test : (a b : Bool) → (a ≡ true → b ≡ true) → (b ≡ true → a ≡ true) → a ≡ b
same_test true b f g = sym (f refl)
same_test false true f g = g refl
same_test false false f g = refl

-- a second test that is known
pub both_yes : (b : Bool) → both b true ≡ b
both_yes true = refl
both_yes false = refl

pub both_no : (b : Bool) → both b false ≡ false
both_no true = refl
both_no false = refl

pub either_yes : (b : Bool) → either b true ≡ true
either_yes true = refl
either_yes false = refl

pub either_no : (b : Bool) → either b false ≡ b
either_no true = refl
either_no false = refl

pub either_is : (a b : Bool) → either a b ≡ true → (a ≡ true) ⊎ (b ≡ true)
either_is true b e = inl refl
either_is false b e = inr e

pub either_left : (a b : Bool) → a ≡ true → either a b ≡ true
either_left true b e = refl
either_left false b e = false_true e

pub either_right : (a b : Bool) → b ≡ true → either a b ≡ true
either_right true b e = refl
either_right false b e = e

module _ (p : ℕ → Bool) where
  -- a loop over the numbers below n that joins p's answers
  pub every_none : (x : Bool) → x ≡ true → x ≡ every p 0
  unfolding every
  every_none x e = e

  pub every_more : (n : ℕ) (x y : Bool) → x ≡ every p n → y ≡ both (p n) x → y ≡ every p (n + 1)
  unfolding every
  every_more n x y e f = rw add-one (rw (← e) f)

  -- the same where the loop joins by `&`; t is the turn's test
  pub every_next : (n : ℕ) (x : Bool) → x ≡ every p n → (x && p n) ≡ every p (n + 1)
  unfolding every
  every_next n x e = rw add-one (rw (← e) (and_both x (p n) ∙ both_swap x (p n)))

  pub every_turn : (n : ℕ) (x t : Bool) → x ≡ every p n → t ≡ p n → (x && t) ≡ every p (n + 1)
  every_turn n x t e f = rw f (every_next n x e)

  pub every_end : (n m : ℕ) (x : Bool) → x ≡ every p n → n ≡ m → x ≡ every p m
  every_end n m x e f = rw (← f) e

  pub some_none : (x : Bool) → x ≡ false → x ≡ some p 0
  unfolding some
  some_none x e = e

  pub some_more : (n : ℕ) (x y : Bool) → x ≡ some p n → y ≡ either (p n) x → y ≡ some p (n + 1)
  unfolding some
  some_more n x y e f = rw add-one (rw (← e) f)

  pub some_end : (n m : ℕ) (x : Bool) → x ≡ some p n → n ≡ m → x ≡ some p m
  some_end n m x e f = rw (← f) e

  -- the test is the fact about each number, or about one
  pub every_is : (n : ℕ) → every p n ≡ true → (k : ℕ) → k < n → p k ≡ true
  unfolding every
  every_is zero e k h = absurd (omega arith)
  every_is (suc n) e k h =
      elim (dec_lt k n) [
        | yes l ↦ every_is n (both_right (p n) (every p n) e) k l
        | no l ↦ (let i : k ≡ n = omega arith in rw i (both_left (p n) (every p n) e))
      ]

  pub every_of : (n : ℕ) → ((k : ℕ) → k < n → p k ≡ true) → every p n ≡ true
  unfolding every
  every_of zero h = refl
  every_of (suc n) h = both_of (p n) (every p n) (h n (omega arith)) (every_of n (λ k l. h k (omega arith)))

  pub some_is : (n : ℕ) → some p n ≡ true → (k : ℕ) × (k < n) × (p k ≡ true)
  unfolding some
  some_is zero e = false_true e
  some_is (suc n) e =
      ⊎_elim
      (λ h. (n, omega arith, h))
      (λ h. (let r = some_is n h in (r.0, omega (arith, r.1), r.2)))
      (either_is (p n) (some p n) e)

  pub some_of : (n k : ℕ) → k < n → p k ≡ true → some p n ≡ true
  unfolding some
  some_of zero k h e = absurd (omega arith)
  some_of (suc n) k h e =
      elim (dec_lt k n) [
        | yes l ↦ either_right (p n) (some p n) (some_of n k l e)
        | no l ↦ (let i : n ≡ k = omega arith in either_left (p n) (some p n) (rw i e))
      ]

  -- a search that ends early
  pub some_hit : (n k : ℕ) → k < n → p k ≡ true → true ≡ some p n
  some_hit n k h e = sym (some_of n k h e)

  pub every_miss : (n k : ℕ) → k < n → p k ≡ false → false ≡ every p n
  every_miss n k h e = go (every p n) refl
    where
      go : (b : Bool) → every p n ≡ b → false ≡ b
      go true f = false_true (sym e ∙ every_is n f k h)
      go false f = refl

-- a test as a number
byte_pick : (b : Bool) → bool_byte b ≡ pick b 1 0
byte_pick true = refl
byte_pick false = refl

pub byte_most : (b : Bool) → bool_byte b ≤ 1
byte_most true = omega arith
byte_most false = omega arith

-- a loop that counts
module _ (p : ℕ → Bool) where
  pub count_none : (x : ℕ) → x ≡ 0 → x ≡ how_many p 0
  unfolding how_many
  count_none x e = e

  pub count_more : (n x y : ℕ) → x ≡ how_many p n → y ≡ x + pick (p n) 1 0 → y ≡ how_many p (n + 1)
  unfolding how_many
  count_more n x y e f = rw (add-one, ← e) (f ∙ go (p n))
    where
      go : (b : Bool) → x + pick b 1 0 ≡ pick b (suc x) x
      go true = omega arith
      go false = omega arith

  -- the same where the loop adds `u8::from` of its test
  pub count_next : (n x b : ℕ) → x ≡ how_many p n → b ≡ bool_byte (p n) → x + b ≡ how_many p (n + 1)
  count_next n x b e f = count_more n x (x + b) e (rw (f, byte_pick (p n)))

  pub count_end : (n m x : ℕ) → x ≡ how_many p n → n ≡ m → x ≡ how_many p m
  count_end n m x e f = rw (← f) e

  pub count_most : (n : ℕ) → how_many p n ≤ n
  unfolding how_many
  count_most zero = omega arith
  count_most (suc n) = pick_case (λ x. x ≤ suc n) (p n) (suc (how_many p n)) (how_many p n) (λ e. omega (arith, count_most n)) (λ e. omega (arith, count_most n))

-- two tests that answer alike
pub every_same : (p q : ℕ → Bool) → ((k : ℕ) → p k ≡ q k) → (n : ℕ) → every p n ≡ every q n
unfolding every
every_same p q h zero = refl
every_same p q h (suc n) = rw (h n, every_same p q h n)

-- a loop that changes one value
module _ {A : Type 0} (f : ℕ → A → A) (a : A) where
  pub up_to_none : (x : A) → x ≡ a → x ≡ up_to f a 0
  unfolding up_to
  up_to_none x e = e

  pub up_to_more : (n : ℕ) (x y : A) → x ≡ up_to f a n → y ≡ f n x → y ≡ up_to f a (n + 1)
  unfolding up_to
  up_to_more n x y e g = rw add-one (rw (← e) g)

  pub up_to_end : (n m : ℕ) (x : A) → x ≡ up_to f a n → n ≡ m → x ≡ up_to f a m
  up_to_end n m x e g = rw (← g) e

-- joined bits are zero where both are
pub or_none : (a b : ℕ) → eqb (bit_or a b) 0 ≡ both (eqb b 0) (eqb a 0)
or_none a b =
    elim (dec_lt 0 b) [
      | yes h ↦ rw (ne_eqb b 0 (λ e. omega arith)) (ne_eqb (bit_or a b) 0 (λ e. omega (arith, or_add_and a b, and_le_l a b)))
      | no h ↦ (let z : b ≡ 0 = omega arith in rw (z, or_zero_r a))
    ]

-- a turn of a loop that joins faults: x is 0 where place k passes, else 1
pub fault_more : (p : ℕ → Bool) (k x bits y : ℕ) → eqb bits 0 ≡ every p k → x ≡ pick (p k) 0 1 → y ≡ bit_or bits x → eqb y 0 ≡ every p (k + 1)
fault_more p k x bits y e f g = every_more p k (eqb bits 0) (eqb y 0) e (rw (g, or_none bits x, f) (go (p k)))
  where
    go : (t : Bool) → both (eqb (pick t 0 1) 0) (eqb bits 0) ≡ both t (eqb bits 0)
    go true = refl
    go false = refl

-- two tests that agree below n
pub every_below : (p q : ℕ → Bool) (n : ℕ) → ((k : ℕ) → k < n → p k ≡ q k) → every p n ≡ every q n
unfolding every
every_below p q zero h = refl
every_below p q (suc n) h = rw (h n (omega arith), every_below p q n (λ k l. h k (omega arith)))

pub some_below : (p q : ℕ → Bool) (n : ℕ) → ((k : ℕ) → k < n → p k ≡ q k) → some p n ≡ some q n
unfolding some
some_below p q zero h = refl
some_below p q (suc n) h = rw (h n (omega arith), some_below p q n (λ k l. h k (omega arith)))

pub ruleset picks = (ways, pick_true, pick_false)

pub ruleset turns = (ways, every_none, every_more, some_none, some_more, count_none, count_more, up_to_none, up_to_more)
