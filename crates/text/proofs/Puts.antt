-- Laws of text put into a buffer.
use Prim.Native.Nat.{suc, ℕ, ◌+◌, ◌-◌, ◌≤◌}
use lib.ListN.{drop, length, length-append, set, take}
use lib.Seq.{length-take-le, set_comm, sets-eq, take_at}
use mathlib.Core.List.{List, append_assoc, [], ◌++◌, ◌∷◌}
use mathlib.Core.Path.{ap, refl, sym, ◌∙◌, ◌≡◌}
use native.Mathlib.Omega.{arith}
use borrow.Rule.Slice.PartMut.{Post-is, put_mid}
use Rattle.basis.proofs.Buffer.{put_all_is, put_all_join, put_all_length}
use Rattle.basis.specs.Buffer.{put_all}
use Rattle.text.specs.Puts.{Puts}

-- one text behind the other is one text
pub puts_then : {xs ys l m n : List ℕ} {i j k : ℕ} → Puts xs l i m j → Puts ys m j n k → Puts (xs ++ ys) l i n k
puts_then {xs} {ys} {l} {m} {n} {i} {j} {k} p q = record {
  bytes = q.bytes ∙ rw (p.bytes, p.next) (put_all_join xs ys l i (length xs) refl);
  next = omega (arith, q.next, p.next, length-append xs ys);
}

-- what stands in a buffer that has room, up to the place behind the text
pub take_put_all : (l : List ℕ) (i : ℕ) (vs : List ℕ) → i + length vs ≤ length l → take (i + length vs) (put_all l i vs) ≡ take i l ++ vs
take_put_all l i vs h =
    let n = i + length vs in
    let e : length (take i l ++ vs) ≡ n = length-append (take i l) vs ∙ ap (λ (k : ℕ). k + length vs) (length-take-le i l (omega arith)) in
    ap (take n) (put_all_is l i vs ∙ sets-eq vs l i h) ∙ take_at (take i l ++ vs) (drop n l) n e

-- the same for what a function put
pub puts_take : {vs l m : List ℕ} {i j : ℕ} → Puts vs l i m j → i + length vs ≤ length l → take j m ≡ take i l ++ vs
puts_take {vs} {l} {m} {i} {j} p h = rw (p.bytes, p.next) (take_put_all l i vs h)

-- no second buffer and no second place meet what is said
pub puts_one : {vs l m m' : List ℕ} {i j j' : ℕ} → Puts vs l i m j → Puts vs l i m' j' → (m ≡ m') × (j ≡ j')
puts_one p q = (p.bytes ∙ sym q.bytes, p.next ∙ sym q.next)

-- the buffer keeps its length
pub puts_length : {vs l m : List ℕ} {i j : ℕ} → Puts vs l i m j → length m ≡ length l
puts_length {vs} {l} {m} {i} {j} p = ap length p.bytes ∙ put_all_length l i vs

-- a byte behind the text may be stored before the text is
pub last_first : (l : List ℕ) (i : ℕ) (vs : List ℕ) (v : ℕ) → put_all (set l (i + length vs) v) i vs ≡ put_all l i (vs ++ (v ∷ []))
unfolding put_all
last_first l i [] v = let e : i + 0 ≡ i = omega arith in ap (λ (k : ℕ). set l k v) e
last_first l i (x ∷ vs) v =
    let e : i + suc (length vs) ≡ i + 1 + length vs = omega arith in
    ap (λ (m : List ℕ). put_all m (i + 1) vs) (set_comm l (i + suc (length vs)) i v x (λ f. absurd (omega arith))
    ∙ ap (λ (k : ℕ). set (set l i x) k v) e) ∙ last_first (set l i x) (i + 1) vs v

-- one byte stored is a text put
pub byte_put : (l : List ℕ) (at x : ℕ) → Puts (x ∷ []) l at (set l at x) (at + 1)
unfolding put_all
byte_put l at x = record { bytes = refl; next = refl }

-- a slice copied is a text put
pub word_put : (l s w : List ℕ) (at : ℕ) → at + length s ≤ length l → w ≡ s → Puts s l at (put_mid at (at + length s - at) l w) (at + length s)
word_put l s w at h e = record { bytes = rw (e, Post-is at (at + length s) l (omega arith)) (sym (put_all_is l at s ∙ sets-eq s l at h ∙ append_assoc (take at l) s (drop (at + length s) l))); next = refl }
