-- How many entries of the queue are one VM's (A8), after each thing that is done to the queue, and that the queue counts follow (T10).
use Rattle.std.proofs.Common.{◌≡◌, ℕ, suc, ◌+◌, ◌-◌, ◌%◌, ◌^◌, ◌<◌, ◌≤◌, Bool, true, false, eqb, nat_eq, List, [], ◌∷◌, ◌++◌, length, get_or, take, set, replicate, sym, refl, ap, ◌∙◌, mod-eq_of_lt, add-one, arith, length-set, length-take, get_or-set_other, take-suc, get_or-set_same, ext_get_or, eq-eqb, ne_eqb, eqb-true}
use borrow.Author.Tests.{eqb-false}
use Rattle.std.specs.Cmp.Lexicographic.{other_text, pointwise, same_text}
use Rattle.basis.proofs.Laws.{eqb_same, every_is, every_of}
use Rattle.basis.specs.Choice.{pick}
use Rattle.basis.specs.Nobody.{nobody}
use Rattle.queue.proofs.Lists.{set_past, zeros_at}
use Rattle.queue.proofs.Meaning.{others_count}
use Rattle.queue.specs.Entries.{All, Counted, cleared, counted_of, entries, entries_of, front_of, lowered, others, raised, rest}
use Rattle.queue.specs.declared.Queue.{Queue}

-- a front that is a VM leaves the rest behind it
pub front_rest : (v : ℕ) (q : List ℕ) → v < nobody → front_of q ≡ v → q ≡ v ∷ rest q
unfolding front_of rest
front_rest v [] h e = absurd (omega arith)
front_rest v (x ∷ q) h e = rw e

pub entries_rest : (v : ℕ) (q : List ℕ) → v < nobody → entries_of v q ≡ pick (eqb (front_of q) v) 1 0 + entries_of v (rest q)
unfolding entries_of front_of rest
entries_rest v [] h = rw (ne_eqb nobody v (λ e. omega arith))
entries_rest v (x ∷ q) h = go (eqb x v)
  where
    go : (b : Bool) → pick b (suc (entries_of v q)) (entries_of v q) ≡ pick b 1 0 + entries_of v q
    go true = omega arith
    go false = omega arith

-- D20
pub entries_add : (v w : ℕ) (q : List ℕ) → entries_of v (q ++ (w ∷ [])) ≡ entries_of v q + pick (eqb w v) 1 0
unfolding entries_of
entries_add v w [] = go (eqb w v)
  where
    go : (b : Bool) → pick b 1 0 ≡ 0 + pick b 1 0
    go true = refl
    go false = refl
entries_add v w (x ∷ q) = go (eqb x v) (entries_add v w q)
  where
    go : (b : Bool) → entries_of v (q ++ (w ∷ [])) ≡ entries_of v q + pick (eqb w v) 1 0
        → pick b (suc (entries_of v (q ++ (w ∷ [])))) (entries_of v (q ++ (w ∷ []))) ≡ pick b (suc (entries_of v q)) (entries_of v q) + pick (eqb w v) 1 0
    go true h = omega arith
    go false h = h

-- D14, D18, A8: where the entries of w leave, v has none left if it is w, and else keeps all
pub entries_gone : (v : ℕ) (q : List ℕ) → entries_of v (others v q) ≡ 0
unfolding entries_of others
entries_gone v [] = refl
entries_gone v (x ∷ q) = go (eqb x v) (entries_gone v q) refl
  where
    go : (b : Bool) → entries_of v (others v q) ≡ 0 → eqb x v ≡ b → entries_of v (pick b (others v q) (x ∷ others v q)) ≡ 0
    go true h e = h
    go false h e = rw e h

pub entries_stay : (v w : ℕ) (q : List ℕ) → eqb w v ≡ false → entries_of v (others w q) ≡ entries_of v q
unfolding entries_of others
entries_stay v w [] n = refl
entries_stay v w (x ∷ q) n = go (eqb x w) (eqb x v) (entries_stay v w q n) refl refl
  where
    go : (a b : Bool) → entries_of v (others w q) ≡ entries_of v q → eqb x w ≡ a → eqb x v ≡ b
        → entries_of v (pick a (others w q) (x ∷ others w q)) ≡ pick b (suc (entries_of v q)) (entries_of v q)
    go true true h d e = absurd (eqb-false w v n (sym (eqb-true x w d) ∙ eqb-true x v e))
    go true false h d e = h
    go false true h d e = rw e (omega arith)
    go false false h d e = rw e h

-- no VM has more entries than there are
pub entries_few : (v : ℕ) (l : List ℕ) → entries_of v l ≤ length l
entries_few v l = omega (arith, others_count v l)

-- and none where every entry is below v
pub entries_none : (v : ℕ) (l : List ℕ) → All (λ x. x < v) l → entries_of v l ≡ 0
unfolding entries_of
entries_none v [] a = refl
entries_none v (x ∷ l) a = rw (ne_eqb x v (λ e. omega (arith, a.0))) (entries_none v l a.1)

-- ---- the queue counts (T10): each change keeps them those of the entries

-- one count becomes that of the new entries, and no other VM's entries are more or fewer
module _ (counts l m : List ℕ) (v x : ℕ) (eight : length counts ≡ 8) (h : Counted counts l) where
  counted_set : (v < 8 → x ≡ entries_of v m) → ((w : ℕ) → w < 8 → eqb v w ≡ false → entries_of w l ≡ entries_of w m) → Counted (set counts v x) m
  counted_set here others_same w i = go (eqb v w) refl
    where
      go : (b : Bool) → eqb v w ≡ b → get_or (set counts v x) w 0 ≡ entries_of w m
      go true e = rw (← eqb-true v w e) (get_or-set_same counts v x 0 (omega (arith, eqb-true v w e)) ∙ here (omega (arith, eqb-true v w e)))
      go false e = get_or-set_other counts v w x 0 (λ f. eqb-false v w e (sym f)) ∙ h w i ∙ others_same w i e

module _ (counts l : List ℕ) (eight : length counts ≡ 8) (h : Counted counts l) where
  -- D20, D29
  pub counted_raised : (v : ℕ) → length l < 16 → Counted (raised v counts) (l ++ (v ∷ []))
  counted_raised v few =
      counted_set counts l (l ++ (v ∷ [])) v ((get_or counts v 0 + 1) % 2 ^ 8) eight h
      (λ i. mod-eq_of_lt (omega (arith, h v i, entries_few v l)) ∙ omega (arith, h v i, joins v (eqb_same v)))
      (λ w i e. omega (arith, joins w e))
    where
      joins : (w : ℕ) {b : Bool} → eqb v w ≡ b → entries_of w (l ++ (v ∷ [])) ≡ entries_of w l + pick b 1 0
      joins w e = rw e at (entries_add w v l)

  -- D7
  pub counted_lowered : Counted (lowered (front_of l) counts) (rest l)
  counted_lowered =
      counted_set counts l (rest l) (front_of l) (get_or counts (front_of l) 0 - 1) eight h
      (λ i. omega (arith, h (front_of l) i, leaves (front_of l) (omega arith) (eqb_same (front_of l))))
      (λ w i e. omega (arith, leaves w (omega arith) e))
    where
      leaves : (w : ℕ) {b : Bool} → w < nobody → eqb (front_of l) w ≡ b → entries_of w l ≡ pick b 1 0 + entries_of w (rest l)
      leaves w i e = rw e at (entries_rest w l i)

  -- D14, D18
  pub counted_cleared : (v : ℕ) → Counted (cleared v counts) (others v l)
  counted_cleared v = counted_set counts l (others v l) v 0 eight h (λ i. sym (entries_gone v l)) (λ w i e. sym (entries_stay w v l e))

-- there is one list of counts for each list of entries
pub counted_one : (a b l : List ℕ) → length a ≡ 8 → length b ≡ 8 → Counted a l → Counted b l → a ≡ b
counted_one a b l m n h k = ext_get_or 0 a b (m ∙ sym n) (λ v i. (let j : v < 8 = omega arith in h v j ∙ sym (k v j)))

-- the loop that counts: none yet; one entry more, of a VM or of a number past the last
pub counts_none : Counted (replicate 8 0) []
unfolding entries_of
counts_none v i = zeros_at 8 v

module _ (l out : List ℕ) (k : ℕ) (few : length l ≤ 16) (in-them : k < length l) (eight : length out ≡ 8) (h : Counted out (take k l)) where
  pub counts_more : (y : ℕ) (m : List ℕ) → y ≡ (get_or out (get_or l k 0) 0 + 1) % 2 ^ 8 → m ≡ set out (get_or l k 0) y → (length m ≡ 8) × Counted m (take (k + 1) l)
  counts_more y m e f = (
    ap length f ∙ length-set out (get_or l k 0) y ∙ eight,
    rw (f, e, add-one k, take-suc l k 0 in-them) (counted_raised out (take k l) eight h (get_or l k 0) (omega (arith, length-take k l))),
  )

  pub counts_past : (m : List ℕ) → 8 ≤ get_or l k 0 → m ≡ out → (length m ≡ 8) × Counted m (take (k + 1) l)
  counts_past m g e = counts_more ((get_or out (get_or l k 0) 0 + 1) % 2 ^ 8) m refl (e ∙ set_past out 8 (get_or l k 0) _ eight g)

-- W13: the test is the fact
pub counted_is : (q : Queue) → counted_of q ≡ true → Counted q.counts (entries q)
unfolding counted_of
counted_is q e v i = eqb-true _ _ (every_is (λ w. eqb (get_or q.counts w 0) (entries_of w (entries q))) 8 e v i)

pub counted_of_lem : (q : Queue) → Counted q.counts (entries q) → counted_of q ≡ true
unfolding counted_of
counted_of_lem q h = every_of (λ w. eqb (get_or q.counts w 0) (entries_of w (entries q))) 8 (λ v i. eq-eqb _ _ (h v i))

-- and the test of the code: the counts are equal to those that the entries have
pub counted_test : (q : Queue) (found : List ℕ) (r : Bool) → length q.counts ≡ 8 → length found ≡ 8 → Counted found (entries q) → r ≡ pointwise nat_eq q.counts found → r ≡ counted_of q
counted_test q found true eight m h e = sym (counted_of_lem q (λ v i. ap (λ (l : List ℕ). get_or l v 0) (same_text q.counts found e) ∙ h v i))
counted_test q found false eight m h e = go (counted_of q) refl
  where
    go : (b : Bool) → counted_of q ≡ b → false ≡ counted_of q
    go true w = absurd (other_text q.counts found e (counted_one q.counts found (entries q) eight m (counted_is q w) h))
    go false w = sym w
