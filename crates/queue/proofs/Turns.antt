-- What the code makes, and the turns of its loops.
use Rattle.std.proofs.Common.{◌≡◌, ℕ, suc, ◌+◌, ◌-◌, ◌<◌, ◌≤◌, min, Bool, true, eqb, ltb, List, [], ◌∷◌, ◌++◌, ◌&&◌, length, get_or, take, drop, set, sym, refl, ap, ◌∙◌, append-nil, add-one, arith, length-append, length-take, take_all, take-suc, get_or-take, le-ltb, lt-ltb, eq-eqb, ne_eqb}
use Rattle.std.proofs.lemmas.List.{get_or-drop}
use borrow.Rule.Slice.PartMut.{mid_of}
use Rattle.basis.proofs.Laws.{every_of, every_turn}
use Rattle.basis.specs.Choice.{either}
use Rattle.basis.specs.Count.{every}
use Rattle.queue.proofs.Lists.{pad, pad_snoc, set_past}
use Rattle.queue.proofs.Meaning.{entries_length, others_append, others_count, others_drops, others_keeps, others_length, queue_is}
use Rattle.queue.specs.Entries.{cleared, entries, entries_of, front_of, holding, others, padded_of, popped, removal, rest}
use Rattle.queue.specs.declared.Queue.{Queue}
use Rattle.queue.specs.declared.Removal.{Removal}

-- D7: no entry, so none leaves and no count falls
pub popped_empty : (q r : Queue) (l : List ℕ) → length q.counts ≡ 8 → l ≡ entries q → length l < 1 → r ≡ holding [] q.counts → r ≡ popped q
unfolding popped rest front_of
popped_empty q r [] eight e h f = rw (f, ← e) (ap (holding []) (set_past q.counts 8 255 _ eight (omega arith)))
popped_empty q r (x ∷ l) eight e h f = absurd (omega arith)

-- D7: the first leaves, and its count falls
pub popped_some : (q r : Queue) (l d : List ℕ) (n : ℕ) → l ≡ entries q → 1 ≤ length l → n ≡ get_or q.counts (get_or l 0 0) 0 - 1 → d ≡ set q.counts (get_or l 0 0) n
    → r ≡ holding (take (length l - 1) (drop 1 l)) d → r ≡ popped q
unfolding popped rest front_of
popped_some q r [] d n e h f g i = absurd (omega arith)
popped_some q r (x ∷ l) d n e h f g i = let all : take (suc (length l) - 1) l ≡ l = take_all (suc (length l) - 1) l (omega arith) in rw (i, ← e, g, f, all)

-- D20: v joins at the first place past the entries
pub pushed_is : (v : ℕ) (q r : Queue) (d : List ℕ) → length q.items ≡ 16 → q.len < 16 → r ≡ holding (entries q) d
    → ◌≡◌ {A = Queue} (record { items = set r.items q.len v; counts = r.counts; len = r.len + 1 }) (holding (entries q ++ (v ∷ [])) d)
pushed_is v q r d s h e =
    let n : length (entries q) ≡ q.len = entries_length q s (omega arith) in
    rw e (queue_is (entries q ++ (v ∷ [])) _ _ d d (ap (λ (k : ℕ). set (pad (entries q)) k v) (sym n) ∙ pad_snoc (entries q) v (omega (arith, n))) (simp length-append (omega arith)) refl)

-- the entries among the first k that are not v
abbrev pub kept : ℕ → List ℕ → ℕ → List ℕ
kept v l k = others v (take k l)

kept_in : (v : ℕ) (l : List ℕ) (k : ℕ) → k < length l → kept v l (k + 1) ≡ kept v l k ++ others v (get_or l k 0 ∷ [])
kept_in v l k h = ap (others v) (rw add-one (take-suc l k 0 h)) ∙ others_append v (take k l) (get_or l k 0 ∷ [])

pub kept_short : (v : ℕ) (l : List ℕ) (k : ℕ) → length (kept v l k) ≤ k
kept_short v l k = let h = others_length v (take k l) in let e = length-take k l in omega arith

-- a turn at an entry that stays
pub kept_more : (v : ℕ) (l out : List ℕ) (k m : ℕ) → length l ≤ 16 → k < length l → (get_or l k 0 ≡ v → ⊥)
    → m ≡ length (kept v l k) → out ≡ pad (kept v l k)
    → (m + 1 ≡ length (kept v l (k + 1))) × (set out m (get_or l k 0) ≡ pad (kept v l (k + 1)))
kept_more v l out k m s h n f g =
    let r : List ℕ = kept v l k in
    let x : ℕ = get_or l k 0 in
    let q : kept v l (k + 1) ≡ r ++ (x ∷ []) = kept_in v l k h ∙ ap (λ (y : List ℕ). r ++ y) (others_keeps v x (ne_eqb x v n)) in
    (rw q (simp length-append (omega arith)), rw (q, g, f) (pad_snoc r x (omega (arith, kept_short v l k))))

-- a turn at an entry that leaves
pub kept_same : (v : ℕ) (l : List ℕ) (k : ℕ) → k < length l → get_or l k 0 ≡ v → kept v l (k + 1) ≡ kept v l k
kept_same v l k h e =
    kept_in v l k h ∙ ap (λ (y : List ℕ). kept v l k ++ y) (others_drops v (get_or l k 0) (eq-eqb (get_or l k 0) v e)) ∙ append-nil (kept v l k)

-- the loop has kept all entries that are not v
pub without_is : (v : ℕ) (l m out : List ℕ) (k n : ℕ) (counts d : List ℕ) → l ≡ m → length l ≤ k → n ≡ length (kept v l k) → out ≡ pad (kept v l k) → counts ≡ d
    → ◌≡◌ {A = Queue} (record { items = out; len = n; counts = counts }) (holding (others v m) d)
without_is v l m out k n counts d e s f g same =
    let w : kept v l k ≡ others v m = ap (others v) (take_all k l s ∙ e) in queue_is (others v m) out n counts d (rw w at g) (rw w at f) same

-- a queue that the entries of v have left is no longer than it was, and shorter by as many as left
module _ (v : ℕ) (q r : Queue) (before : ℕ) (e : before ≡ length (entries q)) (f : r ≡ holding (others v (entries q)) (cleared v q.counts)) where
  long : before ≡ r.len + entries_of v (entries q)
  long = omega (arith, e, others_count v (entries q), ap (λ (x : Queue). x.len) f)

  pub removed_few : r.len ≤ before
  removed_few = omega (arith, long)

  pub removal_is : (count : ℕ) → count ≡ before - r.len → ◌≡◌ {A = Removal} (record { queue = r; count = count }) (removal v q)
  removal_is count g = let h : count ≡ entries_of v (entries q) = omega (arith, g, long) in rw (f, h)

-- W5, at one place
abbrev pub pads : Queue → ℕ → Bool
pads q j = either (ltb j q.len) (eqb (get_or q.items j 0) 0)

-- n is how many entries there are
module _ (q : Queue) (n : ℕ) (s : length q.items ≡ 16) (e : n ≡ length (entries q)) where
  few : n ≡ min q.len 16
  few = omega (arith, e, length-take q.len q.items, s)

  -- the entries' places are no fault
  pub pads_none : true ≡ every (pads q) (length (entries q) + 0)
  pads_none = sym (every_of (pads q) (length (entries q) + 0) (λ j l. rw (lt-ltb j q.len (omega (arith, few, e)))))

  -- one place past them
  pub pads_more : (k : ℕ) (b : Bool) → k < 16 - n → b ≡ every (pads q) (length (entries q) + k)
      → (b && eqb (get_or (mid_of n (16 - n) q.items) k 0) 0) ≡ every (pads q) (length (entries q) + (k + 1))
  pads_more k b l f =
      let at : ℕ = length (entries q) + k in
      let past : q.len ≤ at = omega (arith, few, e) in
      let same : n + k ≡ at = omega (arith, e) in
      let next : at + 1 ≡ length (entries q) + (k + 1) = omega arith in
      let place : get_or (mid_of n (16 - n) q.items) k 0 ≡ get_or q.items at 0 = get_or-take (16 - n) (drop n q.items) k 0 l ∙ get_or-drop n q.items k 0 ∙ ap (λ (j : ℕ). get_or q.items j 0) same in
      every_turn (pads q) at b _ f (rw (le-ltb at q.len past) (ap (λ (x : ℕ). eqb x 0) place)) ∙ ap (every (pads q)) next

  pub pads_all : (k : ℕ) (b : Bool) → k ≡ 16 - n → b ≡ every (pads q) (length (entries q) + k) → b ≡ padded_of q
  unfolding padded_of
  pads_all k b l f = let all : length (entries q) + k ≡ 16 = omega (arith, few, e) in f ∙ ap (every (pads q)) all
