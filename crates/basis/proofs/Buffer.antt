-- Laws of bytes put into a buffer, and of records put one behind the other.
use Prim.Native.Nat.{suc, zero, ℕ, ◌*◌, ◌+◌, ◌-◌, ◌≤◌}
use borrow.Rule.Slice.PartMut.{Post-is, put_mid}
use lib.ListN.{drop, length, length-append, set, take}
use lib.Seq.{length-sets, set_out, sets, sets-eq}
use mathlib.Core.List.{List, [], ◌++◌, ◌∷◌}
use mathlib.Core.Path.{ap, refl, sym, ◌∙◌, ◌≡◌}
use native.Mathlib.Nat.{suc-mul, zero-mul}
use native.Mathlib.Numerals.{add-one}
use native.Mathlib.Omega.{arith}
use Rattle.std.proofs.Common.{append_assoc}
use Rattle.basis.specs.Buffer.{put_all}
use Rattle.basis.specs.Count.{joined}

pub put_all_is : (l : List ℕ) (i : ℕ) (vs : List ℕ) → put_all l i vs ≡ sets l i vs
unfolding put_all
put_all_is l i [] = refl
put_all_is l i (v ∷ vs) = rw (add-one i) (put_all_is (set l i v) (suc i) vs)

pub put_all_length : (l : List ℕ) (i : ℕ) (vs : List ℕ) → length (put_all l i vs) ≡ length l
put_all_length l i vs = ap length (put_all_is l i vs) ∙ length-sets l i vs

-- past the end nothing is put
pub put_past : (l : List ℕ) (i v : ℕ) → length l ≤ i → l ≡ set l i v
put_past l i v h = sym (set_out l i v h)

-- what is put at the front of a buffer that has room, followed by the rest of the buffer
pub put_all_front : (l vs : List ℕ) → length vs ≤ length l → put_all l 0 vs ≡ vs ++ drop (length vs) l
put_all_front l vs h =
    let e : 0 + length vs ≡ length vs = omega arith in
    put_all_is l 0 vs ∙ sets-eq vs l 0 (omega arith) ∙ ap (λ (k : ℕ). vs ++ drop k l) e

-- what is copied over a part of the buffer is put there
pub put_all_part : (l vs ys : List ℕ) (a e : ℕ) → e ≡ a + length vs → e ≤ length l → ys ≡ vs → put_mid a (e - a) l ys ≡ put_all l a vs
put_all_part l vs ys a e h k g =
    rw (Post-is a e l (omega arith), g, ← append_assoc (take a l) vs (drop e l), h)
    (sym (put_all_is l a vs ∙ sets-eq vs l a (omega arith)))

-- one run behind the other is one run
pub put_all_join : (xs ys l : List ℕ) (i n : ℕ) → length xs ≡ n → put_all (put_all l i xs) (i + n) ys ≡ put_all l i (xs ++ ys)
unfolding put_all
put_all_join [] ys l i n e = let j : i + n ≡ i = omega arith in ap (λ (k : ℕ). put_all l k ys) j
put_all_join (x ∷ xs) ys l i n e =
    let j : i + n ≡ i + 1 + length xs = omega arith in
    ap (λ (k : ℕ). put_all (put_all (set l i x) (i + 1) xs) k ys) j ∙ put_all_join xs ys (set l i x) (i + 1) (length xs) refl

-- records of one width w, one behind the other
module _ (f : ℕ → List ℕ) (w : ℕ) (wide : (k : ℕ) → length (f k) ≡ w) where
  pub joined_length : (n : ℕ) → length (joined f n) ≡ n * w
  unfolding joined
  joined_length zero = sym (zero-mul w)
  joined_length (suc n) = length-append (joined f n) (f n) ∙ ap (λ (k : ℕ). k + length (f n)) (joined_length n) ∙ ap (λ (k : ℕ). n * w + k) (wide n) ∙ sym (suc-mul n w)

  -- a loop that puts record k behind the first k records
  pub records_none : (b : List ℕ) (i : ℕ) → b ≡ put_all b i (joined f 0)
  unfolding joined put_all
  records_none b i = refl

  pub records_more : (b₀ b b' : List ℕ) (i at k : ℕ) → b ≡ put_all b₀ i (joined f k) → at ≡ i + k * w → b' ≡ put_all b at (f k) → b' ≡ put_all b₀ i (joined f (k + 1))
  unfolding joined
  records_more b₀ b b' i at k e a h =
      h ∙ rw (e, a, put_all_join (joined f k) (f k) b₀ i (k * w) (joined_length k)) (ap (λ (m : ℕ). put_all b₀ i (joined f m)) (sym (add-one k)))

pub records_end : (f : ℕ → List ℕ) (b₀ b : List ℕ) (i n m : ℕ) → b ≡ put_all b₀ i (joined f n) → n ≡ m → b ≡ put_all b₀ i (joined f m)
records_end f b₀ b i n m e h = rw (← h) e
