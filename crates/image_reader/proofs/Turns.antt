-- What one turn of the reader's loops does, and what the loops keep.
use Prim.Native.Nat.{suc, ℕ, ◌+◌, ◌-◌, ◌<◌, ◌≤◌}
use borrow.Author.Tests.{eq-eqb, eqb-true, le-leb, leb-true, ltb-false, ltb-true, ne_eqb}
use lib.Dec.{leb, ltb}
use lib.ListN.{drop, get_or, length, length-drop, length-take, take}
use lib.Seq.{drop-drop, take_all}
use mathlib.Core.Bool.{Bool, false, true}
use mathlib.Core.List.{List, [], ◌∷◌}
use mathlib.Core.Path.{ap, refl, sym, ◌∙◌, ◌≡◌}
use native.Mathlib.Omega.{arith}
use Rattle.basis.proofs.Bounds.{within_is}
use Rattle.basis.proofs.Laws.{both_left, both_right}
use Rattle.basis.specs.Bounds.{within}
use Rattle.basis.specs.Choice.{both, pick}
use Rattle.basis.specs.Numbers.{half, word}
use Rattle.config.specs.Sizes.{vms_served}
use Rattle.config.specs.declared.Config.{Config}
use Rattle.image_reader.specs.Reader.{accepted, begun, read_end, read_image, read_regions, read_slots, read_vms, refused, with_slot, with_vm}
use Rattle.image_reader.specs.Records.{core_fault, kind_is, owner_fault, short, slot_fault, vm_fault}
use Rattle.image_reader.specs.Reading.{Reading}
use Rattle.regions.specs.Rules.{none}

-- the part of a slice from a place to its end
abbrev pub part : List ℕ → ℕ → List ℕ
part s at = take (length s - at) (drop at s)

pub part_is : (s : List ℕ) (at : ℕ) → part s at ≡ drop at s
part_is s at = take_all (length s - at) (drop at s) (simp length-drop (omega arith))

-- while slots are read: what is still to be read gives what the whole gives
pub record Slots (s : List ℕ) (from : ℕ) (vms c : Config) (at n : ℕ) : Type 0 where
  pub few : n ≤ 65
  pub counted : c.slots ≡ n
  pub inside : at ≤ length s
  pub same : read_slots (65 - n) (drop at s) at c ≡ read_slots 65 (drop from s) from vms

-- while VMs are read
pub record Vms (s : List ℕ) (core c : Config) (at k : ℕ) : Type 0 where
  pub few : k ≤ core.count
  pub counted : (c.count ≡ core.count) × (c.slots ≡ 0)
  pub inside : at ≤ length s
  pub same : read_vms (core.count - k) (drop at s) at c ≡ read_vms core.count (drop 3 s) 3 core

-- the tests that a record passed
slot_way : (b1 b2 b3 b4 : Bool) (f : ℕ) → pick b1 20 (pick b2 (pick b3 20 (pick b4 f 26)) 21) ≡ 0
    → (b1 ≡ false) × (b2 ≡ true) × (b3 ≡ false) × (b4 ≡ true) × (f ≡ 0)
slot_way true b2 b3 b4 f e = absurd (omega arith)
slot_way false false b3 b4 f e = absurd (omega arith)
slot_way false true true b4 f e = absurd (omega arith)
slot_way false true false false f e = absurd (omega arith)
slot_way false true false true f e = (refl, refl, refl, refl, e)

pub slot_passed : (count n : ℕ) (bs : List ℕ) → slot_fault count n bs ≡ 0
    → (get_or bs 0 0 ≡ 3) × (4 ≤ length bs) × (n < 64) × (owner_fault count (get_or bs 1 0) (half bs 2) ≡ 0)
unfolding slot_fault
slot_passed count n bs e =
    let w = slot_way (short 1 bs) (kind_is 3 bs) (short 4 bs) (ltb n 64) (owner_fault count (get_or bs 1 0) (half bs 2)) e in
    (eqb-true (get_or bs 0 0) 3 w.1, ltb-false (length bs) 4 w.2, ltb-true n 64 w.3, w.4)

vm_way : (b1 b2 b3 : Bool) → ◌≡◌ {A = ℕ} (pick b1 20 (pick b2 (pick b3 20 0) 21)) 0 → (b1 ≡ false) × (b2 ≡ true) × (b3 ≡ false)
vm_way true b2 b3 e = absurd (omega arith)
vm_way false false b3 e = absurd (omega arith)
vm_way false true true e = absurd (omega arith)
vm_way false true false e = (refl, refl, refl)

pub vm_passed : (bs : List ℕ) → vm_fault bs ≡ 0 → (get_or bs 0 0 ≡ 2) × (9 ≤ length bs)
unfolding vm_fault
vm_passed bs e =
    let w = vm_way (short 1 bs) (kind_is 2 bs) (short 9 bs) e in
    (eqb-true (get_or bs 0 0) 2 w.1, ltb-false (length bs) 9 w.2)

core_way : (b1 b2 b3 b4 : Bool) → ◌≡◌ {A = ℕ} (pick b1 20 (pick b2 (pick b3 20 (pick b4 0 22)) 21)) 0
    → (b1 ≡ false) × (b2 ≡ true) × (b3 ≡ false) × (b4 ≡ true)
core_way true b2 b3 b4 e = absurd (omega arith)
core_way false false b3 b4 e = absurd (omega arith)
core_way false true true b4 e = absurd (omega arith)
core_way false true false false e = absurd (omega arith)
core_way false true false true e = (refl, refl, refl, refl)

pub core_passed : (bs : List ℕ) → core_fault bs ≡ 0
    → (get_or bs 0 0 ≡ 1) × (3 ≤ length bs) × (1 ≤ get_or bs 1 0) × (get_or bs 1 0 ≤ 8) × (get_or bs 2 0 ≤ 16)
unfolding core_fault
core_passed bs e =
    let w = core_way (short 1 bs) (kind_is 1 bs) (short 3 bs) (both (within 1 8 (get_or bs 1 0)) (leb (get_or bs 2 0) 16)) e in
    let i = within_is 1 8 (get_or bs 1 0) (both_left (within 1 8 (get_or bs 1 0)) _ w.3) in
    (eqb-true (get_or bs 0 0) 1 w.1, ltb-false (length bs) 3 w.2, i.0, i.1, leb-true (get_or bs 2 0) 16 (both_right (within 1 8 (get_or bs 1 0)) _ w.3))

-- one record of the definition
module _ (m : ℕ) (bs : List ℕ) (at : ℕ) (c : Config) where
  pub slots_ends : get_or bs 0 0 ≡ 4 → read_slots (suc m) bs at c ≡ read_end bs at c
  unfolding read_slots
  slots_ends h = rw (eq-eqb (get_or bs 0 0) 4 h)

  pub slots_bad : (f : ℕ) → (get_or bs 0 0 ≡ 4 → ⊥) → f ≡ slot_fault c.count c.slots bs → (f ≡ 0 → ⊥) → read_slots (suc m) bs at c ≡ refused f at
  unfolding read_slots
  slots_bad f h e g = rw (ne_eqb (get_or bs 0 0) 4 h, ← e, ne_eqb f 0 g)

  pub slots_goes : (get_or bs 0 0 ≡ 4 → ⊥) → slot_fault c.count c.slots bs ≡ 0
      → read_slots (suc m) bs at c ≡ read_slots m (drop 4 bs) (at + 4) (with_slot c (get_or bs 1 0) (half bs 2))
  unfolding read_slots
  slots_goes h e = rw (ne_eqb (get_or bs 0 0) 4 h, e)

  pub vms_bad : (f : ℕ) → f ≡ vm_fault bs → (f ≡ 0 → ⊥) → read_vms (suc m) bs at c ≡ refused f at
  unfolding read_vms
  vms_bad f e g = rw (← e, ne_eqb f 0 g)

  pub vms_goes : vm_fault bs ≡ 0 → read_vms (suc m) bs at c ≡ read_vms m (drop 9 bs) (at + 9) (with_vm c (c.count - suc m) (word bs 1) (word bs 5))
  unfolding read_vms
  vms_goes e = rw e

some_byte : (bs : List ℕ) → get_or bs 0 0 ≡ 4 → 1 ≤ length bs
some_byte [] e = absurd (omega arith)
some_byte (x ∷ bs) e = omega arith

-- one turn of the loop over slots
module _ {s : List ℕ} {from : ℕ} {vms c : Config} {at n : ℕ} (i : Slots s from vms c at n) (l : n < 65) where
  opened : read_slots (suc (64 - n)) (drop at s) at c ≡ read_slots 65 (drop from s) from vms
  opened = let e : suc (64 - n) ≡ 65 - n = omega arith in ap (λ (m : ℕ). read_slots m (drop at s) at c) e ∙ i.same

  pub turn_end : {b : ℕ} {r : Reading} → b ≡ get_or (part s at) 0 0 → b ≡ 4 → r ≡ read_end (part s at) at c → r ≡ read_slots 65 (drop from s) from vms
  turn_end e f h = (rw (part_is s at) at h) ∙ sym (slots_ends (64 - n) (drop at s) at c (sym (rw (part_is s at) at e) ∙ f)) ∙ opened

  pub turn_end_in : {b : ℕ} → b ≡ get_or (part s at) 0 0 → b ≡ 4 → (at + length (part s at) ≤ length s) × (1 ≤ length (part s at)) × (c.slots ≤ 64)
  turn_end_in e f = (
    omega (arith, length-take (length s - at) (drop at s), length-drop at s, i.inside),
    some_byte (part s at) (sym e ∙ f),
    omega (arith, i.counted),
  )

  pub turn_bad : {b f : ℕ} {r : Reading} → b ≡ get_or (part s at) 0 0 → (b ≡ 4 → ⊥) → f ≡ slot_fault c.count c.slots (part s at) → (f ≡ 0 → ⊥) → r ≡ refused f at
      → r ≡ read_slots 65 (drop from s) from vms
  turn_bad {b} {f} e g h k z =
      z ∙ sym (slots_bad (64 - n) (drop at s) at c f (λ x. g (rw (part_is s at) at e ∙ x)) (rw (part_is s at) at h) k) ∙ opened

  pub turn_in : {f : ℕ} → f ≡ slot_fault c.count c.slots (part s at) → f ≡ 0 → (at + 4 ≤ length s) × (n < 64)
  turn_in h k =
      let w = slot_passed c.count c.slots (drop at s) (sym (rw (part_is s at) at h) ∙ k) in
      (omega (arith, w.1, length-drop at s, i.inside), omega (arith, w.2, i.counted))

  pub turn_room : {f : ℕ} → f ≡ slot_fault c.count c.slots (part s at) → f ≡ 0 → n < 64
  turn_room h k = (turn_in h k).1

  pub turn_more : {b f o t : ℕ} {d : Config} → b ≡ get_or (part s at) 0 0 → (b ≡ 4 → ⊥) → f ≡ slot_fault c.count c.slots (part s at) → f ≡ 0
      → o ≡ get_or (part s at) 1 0 → t ≡ half (part s at) 2 → d ≡ with_slot c o t → Slots s from vms d (at + 4) (n + 1)
  turn_more {b} {f} {o} {t} {d} e g h k y z w =
      let q = turn_in h k in
      let one = slots_goes (64 - n) (drop at s) at c (λ x. g (rw (part_is s at) at e ∙ x)) (sym (rw (part_is s at) at h) ∙ k) in
      record {
        few = omega arith;
        counted = ap (λ (x : Config). x.slots) w ∙ ap (λ (x : ℕ). x + 1) i.counted;
        inside = q.0;
        same = (let j : 65 - (n + 1) ≡ 64 - n = omega arith in rw (w, rw (part_is s at) at y, rw (part_is s at) at z, j, ← drop-drop 4 at s) (sym one ∙ opened));
      }

pub slots_none : {s : List ℕ} {from : ℕ} {vms c : Config} {at n : ℕ} {r : Reading} → Slots s from vms c at n → 65 ≤ n → r ≡ refused 26 at → r ≡ read_slots 65 (drop from s) from vms
unfolding read_slots
slots_none {s} {from} {vms} {c} {at} {n} i l e = let j : n ≡ 65 = omega (arith, i.few) in e ∙ rw j at i.same

-- the end record
served_by : {n : ℕ} {b x : Bool} → b ≡ both (leb n 64) x → n ≤ 64 → b ≡ x
served_by {n} e h = rw (le-leb n 64 h) at e

pub end_whole : (bs : List ℕ) (at : ℕ) (c : Config) (b : Bool) → c.slots ≤ 64 → b ≡ both (leb c.slots 64) (vms_served c) → b ≡ true → length bs ≡ 1 → accepted c ≡ read_end bs at c
unfolding read_end
end_whole bs at c b h e f l = rw (sym (served_by e h) ∙ f, l)

pub end_follows : (bs : List ℕ) (at : ℕ) (c : Config) (b : Bool) (r : Reading) → c.slots ≤ 64 → b ≡ both (leb c.slots 64) (vms_served c) → b ≡ true → (length bs ≡ 1 → ⊥)
    → r ≡ refused 28 (at + 1) → r ≡ read_end bs at c
unfolding read_end
end_follows bs at c b r h e f l z = rw (sym (served_by e h) ∙ f, ne_eqb (length bs) 1 l) z

pub end_unserved : (bs : List ℕ) (at : ℕ) (c : Config) (b : Bool) (r : Reading) → c.slots ≤ 64 → b ≡ both (leb c.slots 64) (vms_served c) → b ≡ false → r ≡ refused 27 at → r ≡ read_end bs at c
unfolding read_end
end_unserved bs at c b r h e f z = rw (sym (served_by e h) ∙ f) z

pub vms_begin : (s : List ℕ) (core : Config) → 3 ≤ length s → core.slots ≡ 0 → Vms s core core 3 0
vms_begin s core h e = record {
  few = omega arith;
  counted = (refl, e);
  inside = h;
  same = (let j : core.count - 0 ≡ core.count = omega arith in ap (λ (m : ℕ). read_vms m (drop 3 s) 3 core) j);
}

-- one turn of the loop over VMs
module _ {s : List ℕ} {core c : Config} {at k : ℕ} (i : Vms s core c at k) (l : k < core.count) where
  vms_opened : read_vms (suc (core.count - (k + 1))) (drop at s) at c ≡ read_vms core.count (drop 3 s) 3 core
  vms_opened = let e : suc (core.count - (k + 1)) ≡ core.count - k = omega arith in ap (λ (m : ℕ). read_vms m (drop at s) at c) e ∙ i.same

  pub vm_bad : {f : ℕ} {r : Reading} → f ≡ vm_fault (part s at) → (f ≡ 0 → ⊥) → r ≡ refused f at → r ≡ read_vms core.count (drop 3 s) 3 core
  vm_bad {f} h g z = z ∙ sym (vms_bad (core.count - (k + 1)) (drop at s) at c f (rw (part_is s at) at h) g) ∙ vms_opened

  pub vm_in : {f : ℕ} → f ≡ vm_fault (part s at) → f ≡ 0 → at + 9 ≤ length s
  vm_in h g = let w = vm_passed (drop at s) (sym (rw (part_is s at) at h) ∙ g) in omega (arith, w.1, length-drop at s, i.inside)

  pub vm_more : {f e h : ℕ} {d : Config} → f ≡ vm_fault (part s at) → f ≡ 0 → e ≡ word (part s at) 1 → h ≡ word (part s at) 5 → d ≡ with_vm c k e h → Vms s core d (at + 9) (k + 1)
  vm_more {f} {e} {h} {d} x g y z w =
      let one = vms_goes (core.count - (k + 1)) (drop at s) at c (sym (rw (part_is s at) at x) ∙ g) in
      let place : c.count - suc (core.count - (k + 1)) ≡ k = omega (arith, i.counted.0) in
      record {
        few = omega arith;
        counted = (ap (λ (x : Config). x.count) w ∙ i.counted.0, ap (λ (x : Config). x.slots) w ∙ i.counted.1);
        inside = vm_in x g;
        same = rw (w, rw (part_is s at) at y, rw (part_is s at) at z, ← drop-drop 9 at s) (sym (rw place at one) ∙ vms_opened);
      }

pub vms_none : {s : List ℕ} {core c : Config} {at k : ℕ} {r : Reading} → Vms s core c at k → core.count ≤ k → r ≡ read_regions 65 (drop at s) at c none
    → r ≡ read_vms core.count (drop 3 s) 3 core
unfolding read_vms
vms_none {s} {core} {c} {at} {k} i l e = let j : core.count - k ≡ 0 = omega arith in e ∙ rw j at i.same

-- the whole image
pub image_bad : (bs : List ℕ) (f : ℕ) (r : Reading) → f ≡ core_fault bs → (f ≡ 0 → ⊥) → r ≡ refused f 0 → r ≡ read_image bs
unfolding read_image
image_bad bs f r e g z = rw (← e, ne_eqb f 0 g) z

pub image_in : (bs : List ℕ) {f n m : ℕ} {d : Config} → f ≡ core_fault bs → f ≡ 0 → n ≡ get_or bs 1 0 → d ≡ begun n m → (3 ≤ length bs) × (d.count ≤ 8) × (d.slots ≡ 0)
image_in bs e g h z =
    let w = core_passed bs (sym e ∙ g) in
    (w.1, rw (z, h) w.3, rw z)

pub image_goes : (bs : List ℕ) {f n m : ℕ} {d : Config} {r : Reading} → f ≡ core_fault bs → f ≡ 0 → n ≡ get_or bs 1 0 → m ≡ get_or bs 2 0 → d ≡ begun n m
    → r ≡ read_vms d.count (drop 3 bs) 3 d → r ≡ read_image bs
unfolding read_image
image_goes bs {f} {n} {m} {d} {r} e g h k z w = rw (sym e ∙ g, ← h, ← k) (rw z at w)
