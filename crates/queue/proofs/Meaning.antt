-- The queue means the list of its entries: what each result's entries are, and laws of the lists.
use Rattle.std.proofs.Common.{◌≡◌, ℕ, zero, suc, ◌+◌, ◌-◌, ◌<◌, ◌≤◌, Bool, true, false, eqb, ltb, List, [], ◌∷◌, ◌++◌, length, get_or, replicate, sym, refl, ◌∙◌, ⊎_elim, add-one, arith, length-append, length-set, length-take, length-take-le, ext_get_or, ltb-true, le-ltb, lt-ltb, eq-eqb, eqb-true}
use lib.Seq.{take-append_seam}
use native.Mathlib.Decide.{dec_lt}
use Rattle.basis.proofs.Laws.{either_is, either_left, either_right, every_is, every_of}
use Rattle.basis.specs.Choice.{either, pick}
use Rattle.basis.specs.Nobody.{nobody}
use Rattle.queue.proofs.Lists.{length_pad, pad, pad_at, past_at, take_at_in, take_at_past}
use Rattle.queue.specs.Entries.{All, Places, cleared, entries, entries_of, front_of, holding, lowered, others, padded_of, popped, pushed, raised, removal, rest}
use Rattle.queue.specs.declared.Queue.{Queue}

-- what stands first, or nobody; what is left without it
pub front_at : (l : List ℕ) (r : ℕ) → r ≡ get_or l 0 nobody → r ≡ front_of l
unfolding front_of
front_at [] r e = e
front_at (x ∷ l) r e = e

pub rest_cons : (x : ℕ) (l : List ℕ) → rest (x ∷ l) ≡ l
unfolding rest
rest_cons x l = refl

pub rest_nil : rest [] ≡ []
unfolding rest
rest_nil = refl

pub rest_at : (l : List ℕ) (k : ℕ) → get_or (rest l) k 0 ≡ get_or l (k + 1) 0
unfolding rest
rest_at [] k = refl
rest_at (x ∷ l) k = rw add-one

pub rest_length : (l : List ℕ) → length (rest l) ≡ length l - 1
unfolding rest
rest_length [] = refl
rest_length (x ∷ l) = omega arith

-- others
-- A8: the entries are those that stay and those of v
pub others_count : (v : ℕ) (l : List ℕ) → length l ≡ length (others v l) + entries_of v l
unfolding others entries_of
others_count v [] = refl
others_count v (x ∷ l) = go (eqb x v) (others_count v l)
  where
    go : (b : Bool) → length l ≡ length (others v l) + entries_of v l
        → suc (length l) ≡ length (pick b (others v l) (x ∷ others v l)) + pick b (suc (entries_of v l)) (entries_of v l)
    go true h = omega arith
    go false h = omega arith

pub others_length : (v : ℕ) (l : List ℕ) → length (others v l) ≤ length l
others_length v l = omega (arith, others_count v l)

pub others_append : (v : ℕ) (l m : List ℕ) → others v (l ++ m) ≡ others v l ++ others v m
unfolding others
others_append v [] m = refl
others_append v (x ∷ l) m = go (eqb x v) (others_append v l m)
  where
    go : (b : Bool) → others v (l ++ m) ≡ others v l ++ others v m → pick b (others v (l ++ m)) (x ∷ others v (l ++ m)) ≡ pick b (others v l) (x ∷ others v l) ++ others v m
    go true e = e
    go false e = rw e

pub others_drops : (v x : ℕ) → eqb x v ≡ true → others v (x ∷ []) ≡ []
unfolding others
others_drops v x e = rw e

pub others_keeps : (v x : ℕ) → eqb x v ≡ false → others v (x ∷ []) ≡ x ∷ []
unfolding others
others_keeps v x e = rw e

-- the entries of a queue, and the queue of a list
pub entries_of_lem : (l counts : List ℕ) → entries (holding l counts) ≡ l
entries_of_lem l counts = take-append_seam l (replicate (16 - length l) 0)

pub places_of : (l counts : List ℕ) → length l ≤ 16 → length counts ≡ 8 → Places (holding l counts)
places_of l counts h e = record { items = length_pad l h; counts = e }

pub entries_length : (q : Queue) → length q.items ≡ 16 → q.len ≤ 16 → length (entries q) ≡ q.len
entries_length q s h = length-take-le q.len q.items (omega arith)

pub entries_most : (q : Queue) → length q.items ≡ 16 → length (entries q) ≤ 16
entries_most q s = simp length-take (omega arith)

-- W5
pub padded_of_lem : (l counts : List ℕ) → length l ≤ 16 → padded_of (holding l counts) ≡ true
unfolding padded_of
padded_of_lem l counts h =
    every_of (λ k. either (ltb k (length l)) (eqb (get_or (pad l) k 0) 0)) 16
    (λ k i. elim (dec_lt k (length l)) [
      | yes g ↦ either_left (ltb k (length l)) _ (lt-ltb k (length l) g)
      | no g ↦ (let j : length l ≤ k = omega arith in either_right (ltb k (length l)) _ (eq-eqb _ 0 (pad_at l (16 - length l) k ∙ past_at l k j)))
    ])

-- a queue's three fields decide it
pub queue_is : (l items : List ℕ) (len : ℕ) (counts n : List ℕ) → items ≡ pad l → len ≡ length l → counts ≡ n → ◌≡◌ {A = Queue} (record { items = items; len = len; counts = counts }) (holding l n)
queue_is l items len counts n e f g = rw (e, f, g)

-- T5, W5: a padded queue is the queue of its entries and its counts
pub of_entries : (q : Queue) → length q.items ≡ 16 → q.len ≤ 16 → padded_of q ≡ true → q ≡ holding (entries q) q.counts
unfolding padded_of
of_entries q s h e =
    queue_is (entries q) q.items q.len q.counts q.counts
    (ext_get_or 0 q.items (pad (entries q)) (s ∙ sym (length_pad (entries q) (entries_most q s))) at_place)
    (sym (entries_length q s h))
    refl
  where
    zero_past : (k : ℕ) → k < 16 → q.len ≤ k → get_or q.items k 0 ≡ 0
    zero_past k i g =
        ⊎_elim
        (λ t. absurd (omega (arith, ltb-true k q.len t)))
        (λ t. eqb-true (get_or q.items k 0) 0 t)
        (either_is (ltb k q.len) _ (every_is (λ j. either (ltb j q.len) (eqb (get_or q.items j 0) 0)) 16 e k i))

    at_place : (k : ℕ) → k < length q.items → get_or q.items k 0 ≡ get_or (pad (entries q)) k 0
    at_place k i =
        elim (dec_lt k q.len) [
          | yes g ↦ sym (pad_at (entries q) (16 - length (entries q)) k ∙ take_at_in q.len q.items k g)
          | no g ↦ (let j : q.len ≤ k = omega arith in
              zero_past k (omega arith) j ∙ sym (pad_at (entries q) (16 - length (entries q)) k ∙ take_at_past q.len q.items k j))
        ]

-- D20: the entries of each result
pub entries_pushed : (v : ℕ) (q : Queue) → q.len < 16 → entries (pushed v q) ≡ entries q ++ (v ∷ [])
unfolding pushed
entries_pushed v q h = rw (lt-ltb q.len 16 h) (entries_of_lem (entries q ++ (v ∷ [])) (raised v q.counts))

-- D7
pub entries_popped : (q : Queue) → entries (popped q) ≡ rest (entries q)
unfolding popped
entries_popped q = entries_of_lem (rest (entries q)) (lowered (front_of (entries q)) q.counts)

-- D14, D18
pub entries_without : (v : ℕ) (q : Queue) → entries (removal v q).queue ≡ others v (entries q)
entries_without v q = entries_of_lem (others v (entries q)) (cleared v q.counts)

-- each result has sixteen places and zeros past its entries, and is no longer than it may be
pub pushed_done : (v : ℕ) (q : Queue) → q.len < 16 → pushed v q ≡ holding (entries q ++ (v ∷ [])) (raised v q.counts)
unfolding pushed
pushed_done v q h = rw (lt-ltb q.len 16 h)

pub snoc_most : (v : ℕ) (q : Queue) → q.len < 16 → length (entries q ++ (v ∷ [])) ≤ 16
snoc_most v q h = simp (length-append, length-take) (omega arith)

pub pushed_full : (v : ℕ) (q : Queue) → 16 ≤ q.len → pushed v q ≡ q
unfolding pushed
pushed_full v q h = rw (le-ltb q.len 16 h)

pub places_pushed : (v : ℕ) (q : Queue) → Places q → Places (pushed v q)
places_pushed v q s =
    elim (dec_lt q.len 16) [
      | yes h ↦ rw (pushed_done v q h) (places_of (entries q ++ (v ∷ [])) (raised v q.counts) (snoc_most v q h) (length-set q.counts v _ ∙ s.counts))
      | no h ↦ rw (pushed_full v q (omega arith)) s
    ]

pub len_pushed : (v : ℕ) (q : Queue) → length q.items ≡ 16 → q.len < 16 → (pushed v q).len ≡ q.len + 1
len_pushed v q s h = rw (pushed_done v q h) (simp (length-append, length-take) (omega arith))

pub padded_pushed : (v : ℕ) (q : Queue) → q.len < 16 → padded_of (pushed v q) ≡ true
padded_pushed v q h = rw (pushed_done v q h) (padded_of_lem (entries q ++ (v ∷ [])) (raised v q.counts) (snoc_most v q h))

pub rest_most : (q : Queue) → length q.items ≡ 16 → length (rest (entries q)) ≤ 16
rest_most q s = simp (rest_length, length-take) (omega arith)

pub others_most : (v : ℕ) (q : Queue) → length q.items ≡ 16 → length (others v (entries q)) ≤ 16
others_most v q s = let h = others_length v (entries q) in let g = entries_most q s in omega arith

pub places_popped : (q : Queue) → Places q → Places (popped q)
unfolding popped
places_popped q s = places_of (rest (entries q)) (lowered (front_of (entries q)) q.counts) (rest_most q s.items) (length-set q.counts (front_of (entries q)) _ ∙ s.counts)

pub places_without : (v : ℕ) (q : Queue) → Places q → Places (removal v q).queue
places_without v q s = places_of (others v (entries q)) (cleared v q.counts) (others_most v q s.items) (length-set q.counts v 0 ∙ s.counts)

-- a fact about each entry
module _ (p : ℕ → Type 0) where
  pub all_rest : (l : List ℕ) → All p l → All p (rest l)
  unfolding rest
  all_rest [] a = a
  all_rest (x ∷ l) a = a.1

  pub all_others : (v : ℕ) (l : List ℕ) → All p l → All p (others v l)
  unfolding others
  all_others v [] a = a
  all_others v (x ∷ l) a = go (eqb x v) a.0 (all_others v l a.1)
    where
      go : (b : Bool) → p x → All p (others v l) → All p (pick b (others v l) (x ∷ others v l))
      go true h i = i
      go false h i = (h, i)

  pub all_append : (l : List ℕ) (x : ℕ) → All p l → p x → All p (l ++ (x ∷ []))
  all_append [] x a h = (h, tt)
  all_append (y ∷ l) x a h = (a.0, all_append l x a.1 h)

  pub all_front : (l : List ℕ) → 0 < length l → All p l → p (front_of l)
  unfolding front_of
  all_front [] h a = absurd (omega arith)
  all_front (x ∷ l) h a = a.0

  pub all_at : (l : List ℕ) → All p l → (k : ℕ) → k < length l → p (get_or l k 0)
  all_at [] a k h = absurd (omega arith)
  all_at (x ∷ l) a zero h = a.0
  all_at (x ∷ l) a (suc k) h = all_at l a.1 k (omega arith)

  pub all_of : (l : List ℕ) → ((k : ℕ) → k < length l → p (get_or l k 0)) → All p l
  all_of [] f = tt
  all_of (x ∷ l) f = (f 0 (omega arith), all_of l (λ k h. f (suc k) (omega arith)))

  -- a weaker fact about each entry
  pub all_map : (r : ℕ → Type 0) → ((x : ℕ) → p x → r x) → (l : List ℕ) → All p l → All r l
  all_map r f [] a = tt
  all_map r f (x ∷ l) a = (f x a.0, all_map r f l a.1)

-- D14, D18: none of v is left
pub all_others_not : (v : ℕ) (l : List ℕ) → All (λ x. eqb x v ≡ false) (others v l)
unfolding others
all_others_not v [] = tt
all_others_not v (x ∷ l) = go (eqb x v) refl (all_others_not v l)
  where
    go : (b : Bool) → eqb x v ≡ b → All (λ y. eqb y v ≡ false) (others v l) → All (λ y. eqb y v ≡ false) (pick b (others v l) (x ∷ others v l))
    go true e i = i
    go false e i = (e, i)
