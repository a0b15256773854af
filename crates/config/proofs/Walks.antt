-- Laws of the walks over all places, which join faults with no exit, and of the owners' numbers joined as bits.
use Rattle.std.proofs.Common.{◌≡◌, ℕ, zero, suc, ◌+◌, ◌-◌, ◌*◌, ◌%◌, ◌^◌, ◌<◌, ◌≤◌, Bool, true, false, not, eqb, ltb, leb, List, get_or, sym, refl, ap, ◌∙◌, ⊎_elim, mod-lt, mod-eq_of_lt, arith, shl_exact, ltb-true, le-ltb, lt-ltb, eq-eqb, ne_eqb, eqb-true, le-leb}
use borrow.Author.Tests.{lt-leb}
use lib.Bits.{and_mask, bit_and, bit_or}
use native.Mathlib.Decide.{dec_lt}
use Rattle.basis.proofs.Bits.{bit_or_lem, bit_zero, low_full, power_bit}
use Rattle.basis.proofs.Laws.{both_left, both_no, both_of, both_right, both_yes, either_is, either_no, every_below, every_is, every_of, every_same, false_true, fault_more, same_test, some_below, some_is, some_more, some_of}
use Rattle.basis.specs.Bits.{bit}
use Rattle.basis.specs.Bounds.{empty_past}
use Rattle.basis.specs.Choice.{both, either, pick}
use Rattle.basis.specs.Count.{every, some}
use Rattle.basis.specs.Nobody.{nobody}
use Rattle.config.specs.Places.{NamedBy, NamedFrom, owner_fits, place_numbers, places_fit, ticks_fit}
use Rattle.config.specs.Sizes.{is_spare, lasts, names, slot_fits}

leb_zero : (n : ℕ) → leb n 0 ≡ eqb n 0
leb_zero n =
    elim (dec_lt 0 n) [
      | yes l ↦ rw (lt-leb n 0 l, ne_eqb n 0 (λ z. omega arith))
      | no l ↦ rw (le-leb n 0 (omega arith), eq-eqb n 0 (omega arith))
    ]

-- the lent constant holds the places' own numbers
pub place_at : (l : List ℕ) (k : ℕ) → l ≡ place_numbers → k < 64 → get_or l k 0 ≡ k
unfolding place_numbers every
place_at l k e h = rw e (eqb-true (get_or place_numbers k 0) k (every_is (λ j. eqb (get_or place_numbers j 0) j) 64 refl k h))

pub owner_law : (used : Bool) (most owner m far r : ℕ) (b : Bool) → m ≡ pick used most 0 → far ≡ pick (leb owner m) 0 1
    → b ≡ both used (eqb owner nobody) → r ≡ pick b 0 far → r ≡ pick (pick used (either (is_spare owner) (leb owner most)) (eqb owner 0)) 0 1
owner_law true most owner m far r b hm hf hb hr = rw (hr, hb, hf, hm) (go (eqb owner nobody))
  where
    go : (t : Bool) → ◌≡◌ {A = ℕ} (pick t 0 (pick (leb owner most) 0 1)) (pick (either t (leb owner most)) 0 1)
    go true = refl
    go false = refl
owner_law false most owner m far r b hm hf hb hr = rw (hr, hb, hf, hm) (ap (λ (t : Bool). pick {A = ℕ} t 0 1) (leb_zero owner))

-- below the count is up to the last
pub last_law : (count slots k owner most : ℕ) → 1 ≤ count → most ≡ count - 1
    → pick (ltb k slots) (either (is_spare owner) (leb owner most)) (eqb owner 0) ≡ owner_fits count slots k owner
last_law count slots k owner most h e = ap (λ (t : Bool). pick (ltb k slots) (either (is_spare owner) t) (eqb owner 0)) go
  where
    go : leb owner most ≡ ltb owner count
    go =
        elim (dec_lt owner count) [
          | yes l ↦ le-leb owner most (omega arith) ∙ sym (lt-ltb owner count l)
          | no l ↦ lt-leb owner most (omega arith) ∙ sym (le-ltb owner count (omega arith))
        ]

-- one less, modulo 2 ^ 16, is at most 999 where it was 1 to 1,000
one_less : (t m : ℕ) → (m + 1) % 65536 ≡ t → m < 65536 → leb m 999 ≡ both (leb 1 t) (leb t 1000)
one_less t m e h =
    elim (dec_lt 999 m) [
      | no l ↦ rw (le-leb m 999 (omega arith), le-leb 1 t (omega arith), le-leb t 1000 (omega arith))
      | yes l ↦
          rw (lt-leb m 999 l)
          (elim (dec_lt t 1) [
            | yes z ↦ rw (lt-leb 1 t z)
            | no z ↦ rw (le-leb 1 t (omega arith), lt-leb t 1000 (omega arith))
          ])
    ]

one_alone : (t m : ℕ) → (m + 1) % 65536 ≡ t → m < 65536 → leb m 0 ≡ eqb t 1
one_alone t m e h =
    elim (dec_lt 0 m) [
      | yes l ↦ rw (lt-leb m 0 l, ne_eqb t 1 (λ z. omega arith))
      | no l ↦ rw (le-leb m 0 (omega arith), eq-eqb t 1 (omega arith))
    ]

pub ticks_law : (used : Bool) (owner ticks least more most r : ℕ) (b : Bool) → least ≡ pick used 1 0 → (more + least) % 65536 ≡ ticks → more < 65536
    → b ≡ both used (not (eqb owner nobody)) → most ≡ pick b 999 0 → r ≡ pick (leb more most) 0 1
    → r ≡ pick (pick used (lasts owner ticks) (eqb ticks 0)) 0 1
ticks_law true owner ticks least more most r b hl hs hb hm ho hr = rw (hr, ho, hm) (go (eqb owner nobody))
  where
    s : (more + 1) % 65536 ≡ ticks
    s = rw hl at hs

    go : (t : Bool) → ◌≡◌ {A = ℕ} (pick (leb more (pick (not t) 999 0)) 0 1) (pick (pick t (eqb ticks 1) (both (leb 1 ticks) (leb ticks 1000))) 0 1)
    go true = ap (λ (x : Bool). pick {A = ℕ} x 0 1) (one_alone ticks more s hb)
    go false = ap (λ (x : Bool). pick {A = ℕ} x 0 1) (one_less ticks more s hb)
ticks_law false owner ticks least more most r b hl hs hb hm ho hr =
    let e : more ≡ ticks = omega arith in
    rw (hr, ho, hm, e) (ap (λ (x : Bool). pick {A = ℕ} x 0 1) (leb_zero ticks))

-- a turn of the two walks
module _ (places : List ℕ) (slots k owner x bits y : ℕ) (p : ℕ → Bool) (l : places ≡ place_numbers) (h : k < 64) (e : eqb bits 0 ≡ every p k) (f : y ≡ bit_or bits x) where
  pub owner_turn : (count most : ℕ) → 1 ≤ count → most ≡ count - 1 → p k ≡ owner_fits count slots k owner
      → x ≡ pick (pick (ltb (get_or places k 0) slots) (either (is_spare owner) (leb owner most)) (eqb owner 0)) 0 1 → eqb y 0 ≡ every p (k + 1)
  owner_turn count most m d o g = fault_more p k x bits y e (rw (place_at places k l h, last_law count slots k owner most m d, ← o) at g) f

  pub ticks_turn : (ticks : ℕ) → p k ≡ ticks_fit slots k owner ticks
      → x ≡ pick (pick (ltb (get_or places k 0) slots) (lasts owner ticks) (eqb ticks 0)) 0 1 → eqb y 0 ≡ every p (k + 1)
  ticks_turn ticks o g = fault_more p k x bits y e (rw (place_at places k l h, ← o) at g) f

pub power_is : (n : ℕ) → 1 * 2 ^ (n % 64) % 18446744073709551616 ≡ 2 ^ (n % 64)
power_is n =
    let h : n % 64 < 64 = mod-lt n (omega arith) in
    shl_exact {a = 1} 1 (n % 64) 64 (omega arith) (omega arith) ∙ omega arith

-- ---- the numbers seen

either_swap : (a b : Bool) → either a b ≡ either b a
either_swap true true = refl
either_swap true false = refl
either_swap false true = refl
either_swap false false = refl

module _ (q : ℕ → ℕ) (v : ℕ) where
  pub seen_none : bit v 0 ≡ some (λ j. eqb (q j) v) 0
  unfolding some
  seen_none = bit_zero v

  pub seen_more : (k seen b y : ℕ) → bit v seen ≡ some (λ j. eqb (q j) v) k → b ≡ 2 ^ q k → y ≡ bit_or seen b → bit v y ≡ some (λ j. eqb (q j) v) (k + 1)
  seen_more k seen b y e f g =
      some_more (λ j. eqb (q j) v) k (bit v seen) (bit v y) e (rw (g, bit_or_lem v seen b, f, power_bit (q k) v) (either_swap (bit v seen) (eqb (q k) v)))

-- the lowest n bits
pub all_law : (seen all p n : ℕ) → p ≡ 2 ^ (n % 64) → all ≡ p - 1 → n ≤ 8 → eqb (bit_and seen all) all ≡ every (λ v. bit v seen) n
all_law seen all p n f g l =
    let c : n % 64 ≡ n = mod-eq_of_lt (omega arith) in
    let m : all ≡ 2 ^ n - 1 = rw (g, f, c) in
    rw (m, and_mask seen n) (low_full seen n)

pub short_law : (q : ℕ → ℕ) (seen k slots count : ℕ) (r : Bool) → ((v : ℕ) → bit v seen ≡ some (λ j. eqb (q j) v) k) → k ≡ slots → r ≡ every (λ v. bit v seen) count
    → r ≡ every (λ v. some (λ j. eqb (q j) v) slots) count
short_law q seen k slots count r h e f = f ∙ every_same _ _ (λ v. rw (← e) (h v)) count

-- ---- four VMs at a time

-- a number where the test holds, else none
picked : (v x : ℕ) (t : Bool) → bit v (pick t x 0) ≡ both t (bit v x)
picked v x true = refl
picked v x false = bit_zero v

joined_four : (v a b c d : ℕ) → bit v (bit_or (bit_or (bit_or a b) c) d) ≡ either (either (either (bit v a) (bit v b)) (bit v c)) (bit v d)
joined_four v a b c d = rw (bit_or_lem v (bit_or (bit_or a b) c) d, bit_or_lem v (bit_or a b) c, bit_or_lem v a b)

-- of four bits, each where its test holds, bit v is the v-th test
four : (p : ℕ → Bool) (v : ℕ) → v < 4 → either (either (either (both (p 0) (bit v 1)) (both (p 1) (bit v 2))) (both (p 2) (bit v 4))) (both (p 3) (bit v 8)) ≡ p v
four p zero l = simp (both_no, both_yes, either_no)
four p (suc zero) l = simp (both_no, both_yes, either_no)
four p (suc (suc zero)) l = simp (both_no, both_yes, either_no)
four p (suc (suc (suc zero))) l = simp (both_no, both_yes, either_no)
four p (suc (suc (suc (suc v)))) l = absurd (omega arith)

pub named_law : (used : Bool) (owner first named a b c d r v : ℕ) → first ≤ 4 → named ≡ pick used owner nobody
    → a ≡ pick (eqb named first) 1 0 → b ≡ pick (eqb named (first + 1)) 2 0 → c ≡ pick (eqb named (first + 2)) 4 0 → d ≡ pick (eqb named (first + 3)) 8 0
    → r ≡ bit_or (bit_or (bit_or a b) c) d → v < 4 → bit v r ≡ both used (eqb owner (first + v))
named_law used owner first named a b c d r v h hn ha hb hc hd hr l =
    let z : first + 0 ≡ first = omega arith in
    rw (hr, joined_four v a b c d, ha, hb, hc, hd, picked v 1 (eqb named first), picked v 2 (eqb named (first + 1)), picked v 4 (eqb named (first + 2)), picked v 8 (eqb named (first + 3)))
    (rw z at (four (λ n. eqb named (first + n)) v l) ∙ rw hn (go used))
  where
    go : (t : Bool) → eqb (pick t owner nobody) (first + v) ≡ both t (eqb owner (first + v))
    go true = refl
    go false = ne_eqb nobody (first + v) (λ e. omega arith)

-- the walk: what is named below k, of the slots in use
pub named_begins : (first slots : ℕ) (owners : List ℕ) (v : ℕ) → v < 4 → bit v 0 ≡ some (λ k. both (ltb k slots) (eqb (get_or owners k 0) (first + v))) 0
unfolding some
named_begins first slots owners v l = bit_zero v

pub named_more : (places owners : List ℕ) (first slots k seen x y : ℕ) → places ≡ place_numbers → k < 64
    → ((v : ℕ) → v < 4 → bit v seen ≡ some (λ j. both (ltb j slots) (eqb (get_or owners j 0) (first + v))) k)
    → NamedBy (ltb (get_or places k 0) slots) (get_or owners k 0) first x → y ≡ bit_or seen x
    → (v : ℕ) → v < 4 → bit v y ≡ some (λ j. both (ltb j slots) (eqb (get_or owners j 0) (first + v))) (k + 1)
named_more places owners first slots k seen x y e h f g i v l =
    some_more (λ j. both (ltb j slots) (eqb (get_or owners j 0) (first + v))) k (bit v seen) (bit v y) (f v l)
    (rw (i, bit_or_lem v seen x, g v l, place_at places k e h) (either_swap (bit v seen) (both (ltb k slots) (eqb (get_or owners k 0) (first + v)))))

-- of all places, those in use
used_only : (p : ℕ → Bool) (slots n : ℕ) → slots ≤ n → some (λ k. both (ltb k slots) (p k)) n ≡ some p slots
used_only p slots n h = same_test _ _ to of
  where
    to : some (λ k. both (ltb k slots) (p k)) n ≡ true → some p slots ≡ true
    to e = (let x = some_is (λ k. both (ltb k slots) (p k)) n e in some_of p slots x.0 (ltb-true x.0 slots (both_left (ltb x.0 slots) (p x.0) x.2)) (both_right (ltb x.0 slots) (p x.0) x.2))

    of : some p slots ≡ true → some (λ k. both (ltb k slots) (p k)) n ≡ true
    of e = (let x = some_is p slots e in some_of (λ k. both (ltb k slots) (p k)) n x.0 (omega (arith, x.1)) (both_of (ltb x.0 slots) (p x.0) (lt-ltb x.0 slots x.1) x.2))

pub named_end : (first slots k seen : ℕ) (owners : List ℕ) → ((v : ℕ) → v < 4 → bit v seen ≡ some (λ j. both (ltb j slots) (eqb (get_or owners j 0) (first + v))) k)
    → k ≡ 64 → slots ≤ 64 → NamedFrom first slots owners seen
named_end first slots k seen owners f e h v l = f v l ∙ rw e (used_only (λ j. eqb (get_or owners j 0) (first + v)) slots 64 h)

-- up to four VMs
pub few_law : (slots count low : ℕ) (owners : List ℕ) (r : Bool) → NamedFrom 0 slots owners low → count ≤ 4 → r ≡ every (λ v. bit v low) count
    → r ≡ every (λ v. some (λ k. eqb (get_or owners k 0) v) slots) count
few_law slots count low owners r f h e =
    e ∙ every_below _ _ count (λ v l. f v (omega arith) ∙ (let z : 0 + v ≡ v = omega arith in ap (λ (w : ℕ). some (λ k. eqb (get_or owners k 0) w) slots) z))

-- the first n numbers, then m more
every_split : (p : ℕ → Bool) (n m : ℕ) → every p (n + m) ≡ both (every p n) (every (λ v. p (n + v)) m)
every_split p n m = same_test _ _ to of
  where
    to : every p (n + m) ≡ true → both (every p n) (every (λ v. p (n + v)) m) ≡ true
    to e = both_of _ _ (every_of p n (λ k l. every_is p (n + m) e k (omega arith))) (every_of (λ v. p (n + v)) m (λ k l. every_is p (n + m) e (n + k) (omega arith)))

    of : both (every p n) (every (λ v. p (n + v)) m) ≡ true → every p (n + m) ≡ true
    of e =
        every_of p (n + m)
        (λ k l. elim (dec_lt k n) [
          | yes h ↦ every_is p n (both_left _ _ e) k h
          | no h ↦ (let z : n + (k - n) ≡ k = omega arith in rw z at (every_is (λ v. p (n + v)) m (both_right (every p n) _ e) (k - n) (omega arith)))
        ])

pub many_law : (slots count low high rest : ℕ) (owners : List ℕ) (a b r : Bool) → NamedFrom 0 slots owners low → NamedFrom 4 slots owners high → 4 < count → count ≤ 8
    → rest ≡ count - 4 → a ≡ every (λ v. bit v low) 4 → b ≡ every (λ v. bit v high) rest → r ≡ both a b
    → r ≡ every (λ v. some (λ k. eqb (get_or owners k 0) v) slots) count
many_law slots count low high rest owners a b r f g h m s ha hb hr =
    let z : 4 + rest ≡ count = omega arith in
    hr
    ∙ rw (few_law slots 4 low owners a f (omega arith) ha, hb ∙ every_below _ _ rest (λ v l. g v (omega arith)))
    (sym (every_split (λ v. some (λ k. eqb (get_or owners k 0) v) slots) 4 rest) ∙ ap (λ (n : ℕ). every (λ v. some (λ k. eqb (get_or owners k 0) v) slots) n) z)

-- ---- S4 to S7 together

used_fits : (count slots k owner ticks : ℕ) → k < slots → owner_fits count slots k owner ≡ true → ticks_fit slots k owner ticks ≡ true → slot_fits count owner ticks ≡ true
used_fits count slots k owner ticks h e f = both_of (lasts owner ticks) (names count owner) (rw (lt-ltb k slots h) at f) (rw (lt-ltb k slots h) at e)

past_fits : (count slots k owner ticks : ℕ) → owner_fits count slots k owner ≡ true → ticks_fit slots k owner ticks ≡ true → empty_past slots k owner ticks ≡ true
past_fits count slots k owner ticks e f = go (ltb k slots) e f
  where
    go : (t : Bool) → pick t (names count owner) (eqb owner 0) ≡ true → pick t (lasts owner ticks) (eqb ticks 0) ≡ true → either t (both (eqb owner 0) (eqb ticks 0)) ≡ true
    go true e f = refl
    go false e f = both_of (eqb owner 0) (eqb ticks 0) e f

owner_of : (count slots k owner ticks : ℕ) → (k < slots → slot_fits count owner ticks ≡ true) → empty_past slots k owner ticks ≡ true → owner_fits count slots k owner ≡ true
owner_of count slots k owner ticks f e = go (ltb k slots) refl e
  where
    go : (t : Bool) → ltb k slots ≡ t → either t (both (eqb owner 0) (eqb ticks 0)) ≡ true → pick t (names count owner) (eqb owner 0) ≡ true
    go true h e = both_right (lasts owner ticks) (names count owner) (f (ltb-true k slots h))
    go false h e = both_left (eqb owner 0) (eqb ticks 0) e

ticks_of : (count slots k owner ticks : ℕ) → (k < slots → slot_fits count owner ticks ≡ true) → empty_past slots k owner ticks ≡ true → ticks_fit slots k owner ticks ≡ true
ticks_of count slots k owner ticks f e = go (ltb k slots) refl e
  where
    go : (t : Bool) → ltb k slots ≡ t → either t (both (eqb owner 0) (eqb ticks 0)) ≡ true → pick t (lasts owner ticks) (eqb ticks 0) ≡ true
    go true h e = both_left (lasts owner ticks) (names count owner) (f (ltb-true k slots h))
    go false h e = both_right (eqb owner 0) (eqb ticks 0) e

-- a number that a slot may hold is v where it is v modulo 64
mod_names : (count o v : ℕ) → count ≤ 8 → v < count → names count o ≡ true → eqb (o % 64) v ≡ eqb o v
mod_names count o v h l e =
    ⊎_elim
    (λ i. (let s : o ≡ nobody = eqb-true o nobody i in ne_eqb (o % 64) v (λ j. omega arith) ∙ sym (ne_eqb o v (λ j. omega arith))))
    (λ i. (let s : o < count = ltb-true o count i in ap (λ x. eqb x v) (mod-eq_of_lt (omega arith))))
    (either_is (is_spare o) (ltb o count) e)

-- the walks over the slots are the rules of the slots in use and of those past them
module _ (count slots : ℕ) (owners durations : List ℕ) where
  abbrev fits : ℕ → Bool
  fits k = slot_fits count (get_or owners k 0) (get_or durations k 0)

  abbrev owns : ℕ → Bool
  owns k = owner_fits count slots k (get_or owners k 0)

  abbrev ticks : ℕ → Bool
  ticks k = ticks_fit slots k (get_or owners k 0) (get_or durations k 0)

  abbrev past : ℕ → Bool
  past k = empty_past slots k (get_or owners k 0) (get_or durations k 0)

  walks_to : slots ≤ 64 → both (every owns 64) (every ticks 64) ≡ true → (every fits slots ≡ true) × (every past 64 ≡ true)
  walks_to h e =
      let o = every_is owns 64 (both_left (every owns 64) _ e) in
      let t = every_is ticks 64 (both_right (every owns 64) _ e) in (
        every_of fits slots (λ k l. used_fits count slots k (get_or owners k 0) (get_or durations k 0) l (o k (omega arith)) (t k (omega arith))),
        every_of past 64 (λ k l. past_fits count slots k (get_or owners k 0) (get_or durations k 0) (o k l) (t k l)),
      )

  walks_of : every fits slots ≡ true → every past 64 ≡ true → both (every owns 64) (every ticks 64) ≡ true
  walks_of f e =
      let g = every_is fits slots f in
      let p = every_is past 64 e in
      both_of (every owns 64) _
      (every_of owns 64 (λ k l. owner_of count slots k (get_or owners k 0) (get_or durations k 0) (g k) (p k l)))
      (every_of ticks 64 (λ k l. ticks_of count slots k (get_or owners k 0) (get_or durations k 0) (g k) (p k l)))

  -- S5 where the walks found no fault
  pub owned_law : (fit : Bool) → slots ≤ 64 → fit ≡ both (every owns 64) (every ticks 64) → fit ≡ true → every (λ k. names count (get_or owners k 0)) slots ≡ true
  owned_law fit h e t =
      every_of _ slots (λ k l. both_right (lasts (get_or owners k 0) (get_or durations k 0)) _ (every_is fits slots (walks_to h (sym e ∙ t)).0 k l))

  pub fit_law : (entries handlers : List ℕ) (fit served vms r : Bool) → slots ≤ 64 → fit ≡ both (every owns 64) (every ticks 64) → fit ≡ true
      → served ≡ every (λ v. some (λ k. eqb (get_or owners k 0) v) slots) count
      → vms ≡ every (λ k. empty_past count k (get_or entries k 0) (get_or handlers k 0)) 8 → r ≡ both served vms
      → r ≡ places_fit count slots entries handlers owners durations
  unfolding places_fit
  fit_law entries handlers fit served vms r h e t hs hv hr =
      let w = walks_to h (sym e ∙ t) in
      rw (hr, hs, hv, w.0, w.1, both_yes (every (λ k. empty_past count k (get_or entries k 0) (get_or handlers k 0)) 8))

  pub unfit_law : (entries handlers : List ℕ) (fit : Bool) → fit ≡ both (every owns 64) (every ticks 64) → fit ≡ false → false ≡ places_fit count slots entries handlers owners durations
  unfolding places_fit
  unfit_law entries handlers fit e t = same_test _ _ (λ i. false_true i) (λ i. sym t ∙ e ∙ holds i)
    where
      holds : both (every fits slots) (both (every (λ v. some (λ k. eqb (get_or owners k 0) v) slots) count) (both (every (λ k. empty_past count k (get_or entries k 0) (get_or handlers k 0)) 8) (every past 64))) ≡ true
          → both (every owns 64) (every ticks 64) ≡ true
      holds i = walks_of (both_left _ _ i) (both_right (every (λ k. empty_past count k (get_or entries k 0) (get_or handlers k 0)) 8) _ (both_right (every (λ v. some (λ k. eqb (get_or owners k 0) v) slots) count) _ (both_right (every fits slots) _ i)))

-- where S5 holds, a short table's numbers are the VMs
pub exact_law : (count slots : ℕ) (owners : List ℕ) (r : Bool) → count ≤ 8 → every (λ k. names count (get_or owners k 0)) slots ≡ true
    → r ≡ every (λ v. some (λ k. eqb (get_or owners k 0 % 64) v) slots) count → r ≡ every (λ v. some (λ k. eqb (get_or owners k 0) v) slots) count
exact_law count slots owners r h e f =
    f ∙ every_below _ _ count (λ v l. some_below _ _ slots (λ k i. mod_names count (get_or owners k 0) v h l (every_is (λ j. names count (get_or owners j 0)) slots e k i)))
