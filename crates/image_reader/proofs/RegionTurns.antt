-- What one turn of the reader's loop over region records does, and what the loop keeps (I15).
use Prim.Native.Nat.{suc, ℕ, ◌+◌, ◌-◌, ◌<◌, ◌≤◌}
use borrow.Author.Tests.{eq-eqb, le-ltb, leb-true, ltb-false, ltb-true, ne_eqb}
use lib.Dec.{leb, ltb}
use lib.ListN.{drop, get_or, length, length-drop}
use lib.Seq.{drop-drop}
use mathlib.Core.Bool.{Bool, false, true}
use mathlib.Core.List.{List}
use mathlib.Core.Path.{ap, refl, sym, ◌∙◌, ◌≡◌}
use native.Mathlib.Omega.{arith}
use Rattle.basis.proofs.Bounds.{within_is}
use Rattle.basis.proofs.Laws.{both_left, both_right}
use Rattle.basis.specs.Choice.{both, pick, unless}
use Rattle.basis.specs.Numbers.{word}
use Rattle.config.specs.declared.Config.{Config}
use Rattle.image_reader.proofs.Turns.{part, part_is}
use Rattle.image_reader.specs.Reader.{read_regions, read_slots, refused, with_regions}
use Rattle.image_reader.specs.Records.{place_fault, region_fault, short}
use Rattle.image_reader.specs.Reading.{Reading}
use Rattle.regions.specs.Beside.{agrees_all, with_region}
use Rattle.regions.specs.Rules.{held, known, none}
use Rattle.regions.specs.declared.Regions.{Regions}

-- while regions are read: what is still to be read gives what the whole gives
pub record Read (s : List ℕ) (from : ℕ) (c : Config) (r : Regions) (at n : ℕ) : Type 0 where
  pub few : n ≤ 65
  pub counted : r.count ≡ n
  pub inside : at ≤ length s
  pub same : read_regions (65 - n) (drop at s) at c r ≡ read_regions 65 (drop from s) from c none

pub regions_begin : (s : List ℕ) (from : ℕ) (c : Config) → from ≤ length s → Read s from c none from 0
regions_begin s from c h = record { few = omega arith; counted = refl; inside = h; same = refl }

-- what a region record says, behind its kind
pub region_says : (vms : ℕ) (r : Regions) (bs : List ℕ) (f : ℕ) → 11 ≤ length bs → f ≡ place_fault vms r (get_or bs 1 0) (get_or bs 2 0) (word bs 3) (word bs 7) → f ≡ region_fault vms r bs
unfolding region_fault
region_says vms r bs f h e = rw (le-ltb (length bs) 11 h) e

-- the tests that a region record passed
place_way : (b1 b2 b3 b4 b5 : Bool) → ◌≡◌ {A = ℕ} (unless b1 32 (unless b2 35 (unless b3 33 (unless b4 34 (unless b5 36 0))))) 0
    → (b1 ≡ true) × (b2 ≡ true) × (b3 ≡ true) × (b4 ≡ true) × (b5 ≡ true)
place_way false b2 b3 b4 b5 e = absurd (omega arith)
place_way true false b3 b4 b5 e = absurd (omega arith)
place_way true true false b4 b5 e = absurd (omega arith)
place_way true true true false b5 e = absurd (omega arith)
place_way true true true true false e = absurd (omega arith)
place_way true true true true true e = (refl, refl, refl, refl, refl)

pub record Passed (vms : ℕ) (r : Regions) (h p s l : ℕ) : Type 0 where
  pub named : h < vms
  pub room : r.count < 64
  pub few : held r.holders h r.count < 8
  pub permitted : (1 ≤ p) × (p ≤ 3)
  pub ordered : s ≤ l
  pub agrees : agrees_all r h p s l ≡ true

pub place_passed : (vms : ℕ) (r : Regions) (h p s l : ℕ) → place_fault vms r h p s l ≡ 0 → Passed vms r h p s l
unfolding place_fault
place_passed vms r h p s l e =
    let w = place_way (ltb h vms) (both (ltb r.count 64) (ltb (held r.holders h r.count) 8)) (known p) (leb s l) (both (leb r.count 64) (agrees_all r h p s l)) e in
    record {
      named = ltb-true h vms w.0;
      room = ltb-true r.count 64 (both_left (ltb r.count 64) _ w.1);
      few = ltb-true (held r.holders h r.count) 8 (both_right (ltb r.count 64) _ w.1);
      permitted = within_is 1 3 p w.2;
      ordered = leb-true s l w.3;
      agrees = both_right (leb r.count 64) _ w.4;
    }

pub region_passed : (vms : ℕ) (r : Regions) (bs : List ℕ) → region_fault vms r bs ≡ 0 → (11 ≤ length bs) × Passed vms r (get_or bs 1 0) (get_or bs 2 0) (word bs 3) (word bs 7)
unfolding region_fault
region_passed vms r bs e = go (short 11 bs) refl e
  where
    go : (b : Bool) → short 11 bs ≡ b → pick b 20 (place_fault vms r (get_or bs 1 0) (get_or bs 2 0) (word bs 3) (word bs 7)) ≡ 0
        → (11 ≤ length bs) × Passed vms r (get_or bs 1 0) (get_or bs 2 0) (word bs 3) (word bs 7)
    go true f e = absurd (omega arith)
    go false f e = (ltb-false (length bs) 11 f, place_passed vms r (get_or bs 1 0) (get_or bs 2 0) (word bs 3) (word bs 7) e)

-- one record of the definition
module _ (m : ℕ) (bs : List ℕ) (at : ℕ) (c : Config) (r : Regions) where
  pub regions_past : (get_or bs 0 0 ≡ 5 → ⊥) → read_regions (suc m) bs at c r ≡ read_slots 65 bs at (with_regions c r)
  unfolding read_regions
  regions_past g = rw (ne_eqb (get_or bs 0 0) 5 g)

  pub regions_bad : (f : ℕ) → get_or bs 0 0 ≡ 5 → f ≡ region_fault c.count r bs → (f ≡ 0 → ⊥) → read_regions (suc m) bs at c r ≡ refused f at
  unfolding read_regions
  regions_bad f g e h = rw (eq-eqb (get_or bs 0 0) 5 g, ← e, ne_eqb f 0 h)

  pub regions_goes : get_or bs 0 0 ≡ 5 → region_fault c.count r bs ≡ 0
      → read_regions (suc m) bs at c r ≡ read_regions m (drop 11 bs) (at + 11) c (with_region r (get_or bs 1 0) (get_or bs 2 0) (word bs 3) (word bs 7))
  unfolding read_regions
  regions_goes g e = rw (eq-eqb (get_or bs 0 0) 5 g, e)

-- one turn of the loop
module _ {s : List ℕ} {from : ℕ} {c : Config} {r : Regions} {at n : ℕ} (i : Read s from c r at n) (l : n < 65) where
  opened : read_regions (suc (64 - n)) (drop at s) at c r ≡ read_regions 65 (drop from s) from c none
  opened = let e : suc (64 - n) ≡ 65 - n = omega arith in ap (λ (m : ℕ). read_regions m (drop at s) at c r) e ∙ i.same

  pub region_past : {b : ℕ} {x : Reading} {d : Config} → b ≡ get_or (part s at) 0 0 → (b ≡ 5 → ⊥) → d ≡ with_regions c r → x ≡ read_slots 65 (drop at s) at d
      → x ≡ read_regions 65 (drop from s) from c none
  region_past e g k h = rw k at h ∙ sym (regions_past (64 - n) (drop at s) at c r (λ x. g (rw (part_is s at) at e ∙ x))) ∙ opened

  pub region_bad : {b f : ℕ} {x : Reading} → b ≡ get_or (part s at) 0 0 → b ≡ 5 → f ≡ region_fault c.count r (part s at) → (f ≡ 0 → ⊥) → x ≡ refused f at
      → x ≡ read_regions 65 (drop from s) from c none
  region_bad {b} {f} e g h k z = z ∙ sym (regions_bad (64 - n) (drop at s) at c r f (sym (rw (part_is s at) at e) ∙ g) (rw (part_is s at) at h) k) ∙ opened

  pub region_in : {f : ℕ} → f ≡ region_fault c.count r (part s at) → f ≡ 0 → (at + 11 ≤ length s) × (n < 64)
  region_in h k =
      let w = region_passed c.count r (drop at s) (sym (rw (part_is s at) at h) ∙ k) in
      (omega (arith, w.0, length-drop at s, i.inside), omega (arith, w.1.room, i.counted))

  pub region_more : {b f h p a z : ℕ} {d : Regions} → b ≡ get_or (part s at) 0 0 → b ≡ 5 → f ≡ region_fault c.count r (part s at) → f ≡ 0
      → h ≡ get_or (part s at) 1 0 → p ≡ get_or (part s at) 2 0 → a ≡ word (part s at) 3 → z ≡ word (part s at) 7 → d ≡ with_region r h p a z → Read s from c d (at + 11) (n + 1)
  region_more {b} {f} e g h k u v w y q =
      let one = regions_goes (64 - n) (drop at s) at c r (sym (rw (part_is s at) at e) ∙ g) (sym (rw (part_is s at) at h) ∙ k) in
      record {
        few = omega arith;
        counted = ap (λ (x : Regions). x.count) q ∙ ap (λ (x : ℕ). x + 1) i.counted;
        inside = (region_in h k).0;
        same = (let j : 65 - (n + 1) ≡ 64 - n = omega arith in rw (q, rw (part_is s at) at u, rw (part_is s at) at v, rw (part_is s at) at w, rw (part_is s at) at y, j, ← drop-drop 11 at s) (sym one ∙ opened));
      }

pub regions_none : {s : List ℕ} {from : ℕ} {c : Config} {r : Regions} {at n : ℕ} {x : Reading} → Read s from c r at n → 65 ≤ n → x ≡ refused 35 at → x ≡ read_regions 65 (drop from s) from c none
unfolding read_regions
regions_none {s} {from} {c} {r} {at} {n} i l e = let j : n ≡ 65 = omega (arith, i.few) in e ∙ rw j at i.same
