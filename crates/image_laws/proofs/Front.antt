-- No answer depends on more than the first 1,039 bytes (I14).
use Prim.Native.Nat.{suc, zero, ℕ, ◌*◌, ◌+◌, ◌-◌, ◌<◌, ◌≤◌}
use borrow.Author.Tests.{eq-eqb, le-ltb, lt-ltb, ne_eqb}
use lib.Dec.{eqb}
use lib.ListN.{drop, get_or, length, length-drop, length-take, take}
use lib.Seq.{ext_get_or, get_or-drop, get_or-take}
use mathlib.Core.Bool.{Bool}
use mathlib.Core.List.{List}
use mathlib.Core.Path.{ap, refl, sym, ◌∙◌, ◌≡◌}
use native.Mathlib.Decide.{dec_lt, ℕ_discrete}
use native.Mathlib.Omega.{arith}
use Rattle.basis.specs.Choice.{pick}
use Rattle.basis.specs.Numbers.{half, word}
use Rattle.config.specs.declared.Config.{Config}
use Rattle.image_reader.proofs.Turns.{core_passed}
use Rattle.image_reader.specs.Reader.{begun, onward, read_end, read_image, read_regions, read_slots, read_vms, with_regions, with_slot, with_vm}
use Rattle.image_reader.specs.Records.{core_fault, kind_is, region_fault, short, slot_fault, vm_fault}
use Rattle.image_reader.specs.Reading.{Reading}
use Rattle.regions.specs.Beside.{with_region}
use Rattle.regions.specs.Rules.{none}
use Rattle.regions.specs.declared.Regions.{Regions}

drop_take : (i n : ℕ) (l : List ℕ) → drop i (take (i + n) l) ≡ take n (drop i l)
drop_take i n l =
    ext_get_or 0 (drop i (take (i + n) l)) (take n (drop i l))
    (simp (length-drop, length-take) (omega arith))
    (λ k h. (
    let b : k < n = omega (arith, length-drop i (take (i + n) l), length-take (i + n) l) in
    get_or-drop i (take (i + n) l) k 0 ∙ get_or-take (i + n) l (i + k) 0 (omega arith) ∙ sym (get_or-drop i l k 0) ∙ sym (get_or-take n (drop i l) k 0 b)
    ))

-- a test of a length, or for a length, that stands within the part
short_front : (k n : ℕ) (bs : List ℕ) → k ≤ n → short k (take n bs) ≡ short k bs
short_front k n bs h =
    elim (dec_lt (length bs) k) [
      | yes l ↦ lt-ltb (length (take n bs)) k (omega (arith, length-take n bs)) ∙ sym (lt-ltb (length bs) k l)
      | no l ↦ le-ltb (length (take n bs)) k (omega (arith, length-take n bs)) ∙ sym (le-ltb (length bs) k (omega arith))
    ]

one_front : (n : ℕ) (bs : List ℕ) → 2 ≤ n → eqb (length (take n bs)) 1 ≡ eqb (length bs) 1
one_front n bs h =
    elim (ℕ_discrete (length bs) 1) [
      | yes l ↦ eq-eqb (length (take n bs)) 1 (omega (arith, length-take n bs)) ∙ sym (eq-eqb (length bs) 1 l)
      | no l ↦ ne_eqb (length (take n bs)) 1 (λ z. l (omega (arith, length-take n bs))) ∙ sym (ne_eqb (length bs) 1 l)
    ]

module _ (n : ℕ) (bs : List ℕ) where
  core_front : 3 ≤ n → core_fault (take n bs) ≡ core_fault bs
  unfolding core_fault
  core_front h =
      rw (short_front 1 n bs (omega arith), short_front 3 n bs h, get_or-take n bs 0 0 (omega arith), get_or-take n bs 1 0 (omega arith), get_or-take n bs 2 0 (omega arith))

  vm_front : 9 ≤ n → vm_fault (take n bs) ≡ vm_fault bs
  unfolding vm_fault
  vm_front h = rw (short_front 1 n bs (omega arith), short_front 9 n bs h, get_or-take n bs 0 0 (omega arith))

  region_front : (vms : ℕ) (r : Regions) → 11 ≤ n → region_fault vms r (take n bs) ≡ region_fault vms r bs
  unfolding region_fault
  region_front vms r h =
      rw (
        short_front 11 n bs h,
        get_or-take n bs 1 0 (omega arith),
        get_or-take n bs 2 0 (omega arith),
        get_or-take n bs 3 0 (omega arith),
        get_or-take n bs 4 0 (omega arith),
        get_or-take n bs 5 0 (omega arith),
        get_or-take n bs 6 0 (omega arith),
        get_or-take n bs 7 0 (omega arith),
        get_or-take n bs 8 0 (omega arith),
        get_or-take n bs 9 0 (omega arith),
        get_or-take n bs 10 0 (omega arith),
      )

  slot_front : (count k : ℕ) → 4 ≤ n → slot_fault count k (take n bs) ≡ slot_fault count k bs
  unfolding slot_fault
  slot_front count k h =
      rw (
        short_front 1 n bs (omega arith),
        short_front 4 n bs h,
        get_or-take n bs 0 0 (omega arith),
        get_or-take n bs 1 0 (omega arith),
        get_or-take n bs 2 0 (omega arith),
        get_or-take n bs 3 0 (omega arith),
      )

  end_front : (at : ℕ) (c : Config) → 2 ≤ n → read_end (take n bs) at c ≡ read_end bs at c
  unfolding read_end
  end_front at c h = rw (one_front n bs h)

  half_front : 4 ≤ n → half (take n bs) 2 ≡ half bs 2
  half_front h = rw (get_or-take n bs 2 0 (omega arith), get_or-take n bs 3 0 (omega arith))

  word_front : (i : ℕ) → i + 4 ≤ n → word (take n bs) i ≡ word bs i
  word_front i h = rw (get_or-take n bs i 0 (omega arith), get_or-take n bs (i + 1) 0 (omega arith), get_or-take n bs (i + 2) 0 (omega arith), get_or-take n bs (i + 3) 0 (omega arith))

slots_front : (m n : ℕ) (bs : List ℕ) (at : ℕ) (c : Config) → m * 4 ≤ n → read_slots m (take n bs) at c ≡ read_slots m bs at c
unfolding read_slots
slots_front zero n bs at c h = refl
slots_front (suc m) n bs at c h =
    let j : n ≡ 4 + (n - 4) = omega arith in
    let d : drop 4 (take n bs) ≡ take (n - 4) (drop 4 bs) = ap (λ (k : ℕ). drop 4 (take k bs)) j ∙ drop_take 4 (n - 4) bs in
    let g = slots_front m (n - 4) (drop 4 bs) (at + 4) (with_slot c (get_or bs 1 0) (half bs 2)) (omega arith) in
    rw (
      get_or-take n bs 0 0 (omega arith),
      end_front n bs at c (omega arith),
      slot_front n bs c.count c.slots (omega arith),
      get_or-take n bs 1 0 (omega arith),
      half_front n bs (omega arith),
      d,
      g,
    )

-- a region record, and what follows it
region_one : (m : ℕ) (bs : List ℕ) (at : ℕ) (c : Config) (r : Regions)
    → read_regions (suc m) bs at c r
    ≡ pick (kind_is 5 bs) (onward (region_fault c.count r bs) at (read_regions m (drop 11 bs) (at + 11) c (with_region r (get_or bs 1 0) (get_or bs 2 0) (word bs 3) (word bs 7)))) (read_slots 65 bs at (with_regions c r))
unfolding read_regions
region_one m bs at c r = refl

same_region : (at : ℕ) (b d : Bool) (f g : ℕ) (x y v w : Reading) → b ≡ d → f ≡ g → x ≡ y → v ≡ w → pick b (onward f at x) v ≡ pick d (onward g at y) w
same_region at b d f g x y v w i j k l = rw (i, j, k, l)

same_read : (m : ℕ) (at : ℕ) (c : Config) (r : Regions) (x y : List ℕ) (a b d e f g u v : ℕ) → x ≡ y → a ≡ b → d ≡ e → f ≡ g → u ≡ v
    → read_regions m x at c (with_region r a d f u) ≡ read_regions m y at c (with_region r b e g v)
same_read m at c r x y a b d e f g u v h i j k l = rw (h, i, j, k, l)

module _ (n : ℕ) (bs : List ℕ) (at : ℕ) (c : Config) (r : Regions) (h : 260 ≤ n) where
  region_turn : (m : ℕ) (p : (q : Regions) → read_regions m (take (n - 11) (drop 11 bs)) (at + 11) c q ≡ read_regions m (drop 11 bs) (at + 11) c q)
      → read_regions (suc m) (take n bs) at c r ≡ read_regions (suc m) bs at c r
  region_turn m p =
      let j : n ≡ 11 + (n - 11) = omega arith in
      let d : drop 11 (take n bs) ≡ take (n - 11) (drop 11 bs) = ap (λ (k : ℕ). drop 11 (take k bs)) j ∙ drop_take 11 (n - 11) bs in
      region_one m (take n bs) at c r
      ∙ same_region at _ _ _ _ _ _ _ _ (ap (λ (x : ℕ). eqb x 5) (get_or-take n bs 0 0 (omega arith))) (region_front n bs c.count r (omega arith))
      (same_read m (at + 11) c r _ _ _ _ _ _ _ _ _ _ d (get_or-take n bs 1 0 (omega arith)) (get_or-take n bs 2 0 (omega arith)) (word_front n bs 3 (omega arith)) (word_front n bs 7 (omega arith)) ∙ p _)
      (slots_front 65 n bs at (with_regions c r) (omega arith))
      ∙ sym (region_one m bs at c r)

regions_front : (m n : ℕ) (bs : List ℕ) (at : ℕ) (c : Config) (r : Regions) → m * 11 + 260 ≤ n → read_regions (suc m) (take n bs) at c r ≡ read_regions (suc m) bs at c r
unfolding read_regions
regions_front zero n bs at c r h = region_turn n bs at c r (omega arith) zero (λ q. refl)
regions_front (suc m) n bs at c r h = region_turn n bs at c r (omega arith) (suc m) (λ q. regions_front m (n - 11) (drop 11 bs) (at + 11) c q (omega arith))

vms_one : (m : ℕ) (bs : List ℕ) (at : ℕ) (c : Config) → read_vms (suc m) bs at c ≡ onward (vm_fault bs) at (read_vms m (drop 9 bs) (at + 9) (with_vm c (c.count - suc m) (word bs 1) (word bs 5)))
unfolding read_vms
vms_one m bs at c = refl

vms_none_left : (bs : List ℕ) (at : ℕ) (c : Config) → read_vms 0 bs at c ≡ read_regions 65 bs at c none
unfolding read_vms
vms_none_left bs at c = refl

same_turn : (m : ℕ) (at : ℕ) (c : Config) (f g v w x y : ℕ) (r s : List ℕ) → f ≡ g → v ≡ w → x ≡ y → r ≡ s
    → onward f at (read_vms m r (at + 9) (with_vm c (c.count - suc m) v x)) ≡ onward g at (read_vms m s (at + 9) (with_vm c (c.count - suc m) w y))
same_turn m at c f g v w x y r s d e h k = rw (d, e, h, k)

vms_front : (m n : ℕ) (bs : List ℕ) (at : ℕ) (c : Config) → m * 9 + 964 ≤ n → read_vms m (take n bs) at c ≡ read_vms m bs at c
vms_front zero n bs at c h = vms_none_left (take n bs) at c ∙ regions_front 64 n bs at c none (omega arith) ∙ sym (vms_none_left bs at c)
vms_front (suc m) n bs at c h =
    let j : n ≡ 9 + (n - 9) = omega arith in
    let d : drop 9 (take n bs) ≡ take (n - 9) (drop 9 bs) = ap (λ (k : ℕ). drop 9 (take k bs)) j ∙ drop_take 9 (n - 9) bs in
    vms_one m (take n bs) at c
    ∙ same_turn m at c _ _ _ _ _ _ _ _ (vm_front n bs (omega arith)) (word_front n bs 1 (omega arith)) (word_front n bs 5 (omega arith)) d
    ∙ ap (onward (vm_fault bs) at) (vms_front m (n - 9) (drop 9 bs) (at + 9) (with_vm c (c.count - suc m) (word bs 1) (word bs 5)) (omega arith))
    ∙ sym (vms_one m bs at c)

pub image_front : (n : ℕ) (bs : List ℕ) → 1039 ≤ n → read_image (take n bs) ≡ read_image bs
unfolding read_image
image_front n bs h =
    let j : n ≡ 3 + (n - 3) = omega arith in
    let d : drop 3 (take n bs) ≡ take (n - 3) (drop 3 bs) = ap (λ (k : ℕ). drop 3 (take k bs)) j ∙ drop_take 3 (n - 3) bs in
    rw (core_front n bs (omega arith), get_or-take n bs 1 0 (omega arith), get_or-take n bs 2 0 (omega arith), d)
    (elim (ℕ_discrete (core_fault bs) 0) [
      | yes z ↦ (
          let w = core_passed bs z in
          rw (vms_front (get_or bs 1 0) (n - 3) (drop 3 bs) 3 (begun (get_or bs 1 0) (get_or bs 2 0)) (omega (arith, w.3)))
          )
      | no z ↦ rw (ne_eqb (core_fault bs) 0 z)
    ])
