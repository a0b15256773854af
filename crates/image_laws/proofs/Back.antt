-- Writing what was read: an accepted image is the image of its configuration, which is legal.
use Prim.Native.Nat.{suc, zero, ℕ, ◌+◌, ◌-◌, ◌<◌, ◌^◌, ◌≤◌}
use borrow.Author.Tests.{eq-eqb, eqb-true, ltb-true, ne_eqb}
use lib.Dec.{eqb, ltb}
use lib.ListN.{drop, get_or, length, length-set}
use mathlib.Core.Bool.{Bool, false, true}
use mathlib.Core.List.{List, append_assoc, [], ◌++◌, ◌∷◌}
use mathlib.Core.Logic.{inl, inr, ◌⊎◌, ⊎_elim}
use mathlib.Core.Path.{ap, refl, subst, sym, ◌∙◌, ◌≡◌}
use native.Mathlib.Decide.{ℕ_discrete}
use native.Mathlib.Omega.{arith}
use Rattle.basis.proofs.Bounds.{within_is}
use Rattle.basis.proofs.Digits.{bytes_drop, half_below, word_below}
use Rattle.basis.proofs.Laws.{either_is, every_is, some_is}
use Rattle.basis.specs.Bounds.{within}
use Rattle.basis.specs.Choice.{pick, unless}
use Rattle.basis.specs.Nobody.{nobody}
use Rattle.basis.specs.Numbers.{Bytes, half, word}
use Rattle.config.proofs.Legality.{legal_of}
use Rattle.config.specs.Ranges.{Typed}
use Rattle.config.specs.Sizes.{Legal, duration_at, entry_at, handler_at, has_slot, legal, names, owner_at, vms_served}
use Rattle.config.specs.declared.Config.{Config}
use Rattle.image_laws.proofs.Fill.{Filled, fill_at, fill_less, fill_self, runs, zeros_at, zeros_set}
use Rattle.image_laws.proofs.Text.{front_one, front_three, region_text, slot_text, vm_text}
use Rattle.image_laws.proofs.Trip.{image_form, region_of, slot_of, slots_form, vm_of}
use Rattle.image_reader.proofs.RegionTurns.{Passed, region_passed, regions_bad, regions_goes, regions_past}
use Rattle.image_reader.proofs.Turns.{core_passed, image_bad, image_goes, slot_passed, slots_bad, slots_ends, slots_goes, vm_passed, vms_bad, vms_goes}
use Rattle.image_reader.specs.Reader.{accepted, begun, read_end, read_image, read_regions, read_slots, read_vms, refused, with_regions, with_slot, with_vm}
use Rattle.image_reader.specs.Records.{core_fault, owner_fault, region_fault, slot_fault, vm_fault}
use Rattle.image_reader.specs.Reading.{Reading}
use Rattle.image_writer.specs.Writer.{image, region_bytes, slot_bytes, vm_bytes}
use Rattle.regions.proofs.Steps.{Next, next_all}
use Rattle.regions.proofs.Taken.{next_taken}
use Rattle.regions.specs.Beside.{with_region}
use Rattle.regions.specs.Ranges.{RegionsSized, RegionsTyped}
use Rattle.regions.specs.Rules.{Lawful, holder_at, last_at, none, permission_at, start_at}
use Rattle.regions.specs.declared.Regions.{Regions}

fault_none : (f at : ℕ) (c : Config) → refused f at ≡ accepted c → f ≡ 0
fault_none f at c e = ap (λ (r : Reading). r.fault) e

-- a slot without fault keeps S4 and S5
unless_is : (b : Bool) (n m : ℕ) → (n ≡ 0 → ⊥) → unless b n m ≡ 0 → (b ≡ true) × (m ≡ 0)
unless_is true n m h e = (refl, e)
unless_is false n m h e = absurd (h e)

owner_names : (count o t : ℕ) → owner_fault count o t ≡ 0 → (o ≡ nobody) ⊎ (o < count)
unfolding owner_fault
owner_names count o t e =
    let w = unless_is (names count o) 23 _ (λ z. omega arith) e in
    ⊎_elim (λ h. inl (eqb-true o nobody h)) (λ h. inr (ltb-true o count h)) (either_is (eqb o nobody) (ltb o count) w.0)

owner_spare : (count o t : ℕ) → owner_fault count o t ≡ 0 → o ≡ nobody → t ≡ 1
unfolding owner_fault
owner_spare count o t e h = eqb-true t 1 (unless_is (eqb t 1) 24 0 (λ z. omega arith) (rw (eq-eqb o nobody h) at e)).0

owner_named : (count o t : ℕ) → owner_fault count o t ≡ 0 → (o ≡ nobody → ⊥) → (1 ≤ t) × (t ≤ 1000)
unfolding owner_fault
owner_named count o t e h =
    let w = unless_is (names count o) 23 _ (λ z. omega arith) e in
    within_is 1 1000 t (unless_is (within 1 1000 t) 25 0 (λ z. omega arith) (rw (ne_eqb o nobody h) at w.1)).0

-- d has zeros in the places of the slots that it does not have
record Clear (d : Config) : Type 0 where
  owners : length d.owners ≡ 64
  durations : length d.durations ≡ 64
  owned : (k : ℕ) → d.slots ≤ k → owner_at d k ≡ 0
  lasting : (k : ℕ) → d.slots ≤ k → duration_at d k ≡ 0

clear_more : (d : Config) (o t : ℕ) → Clear d → Clear (with_slot d o t)
clear_more d o t u = record {
  owners = length-set d.owners d.slots o ∙ u.owners;
  durations = length-set d.durations d.slots t ∙ u.durations;
  owned = zeros_set d.owners d.slots o u.owned;
  lasting = zeros_set d.durations d.slots t u.lasting;
}

-- what is known of c when the bytes bs, read on top of d, gave it
record SlotsBack (bs : List ℕ) (d c : Config) : Type 0 where
  count : c.count ≡ d.count
  room : c.room ≡ d.room
  entries : c.entries ≡ d.entries
  handlers : c.handlers ≡ d.handlers
  regions : c.regions ≡ d.regions
  few : (d.slots ≤ c.slots) × (c.slots ≤ 64)
  owners : Filled d.owners c.owners d.slots
  durations : Filled d.durations c.durations d.slots
  fits : (k : ℕ) → d.slots ≤ k → k < c.slots → owner_fault c.count (owner_at c k) (duration_at c k) ≡ 0
  small : (k : ℕ) → d.slots ≤ k → (owner_at c k < 256) × (duration_at c k < 65536)
  past : (k : ℕ) → c.slots ≤ k → (owner_at c k ≡ 0) × (duration_at c k ≡ 0)
  served : vms_served c ≡ true
  text : bs ≡ runs (slot_of c) d.slots (c.slots - d.slots) ++ (4 ∷ [])

end_way : (b1 b2 : Bool) (at : ℕ) (d c : Config) → pick b1 (pick b2 (accepted d) (refused 28 (at + 1))) (refused 27 at) ≡ accepted c
    → (b1 ≡ true) × (b2 ≡ true) × (d ≡ c)
end_way true true at d c e = (refl, refl, ap (λ (r : Reading). r.config) e)
end_way true false at d c e = absurd (omega (arith, fault_none 28 (at + 1) c e))
end_way false b2 at d c e = absurd (omega (arith, fault_none 27 at c e))

end_same : (bs : List ℕ) (d : Config) → Clear d → d.slots ≤ 64 → bs ≡ 4 ∷ [] → vms_served d ≡ true → SlotsBack bs d d
unfolding runs
end_same bs d u h e v = record {
  count = refl;
  room = refl;
  entries = refl;
  handlers = refl;
  regions = refl;
  few = (omega arith, h);
  owners = fill_self d.owners d.slots u.owned;
  durations = fill_self d.durations d.slots u.lasting;
  fits = λ k a b. absurd (omega arith);
  small = λ k a. (omega (arith, u.owned k a), omega (arith, u.lasting k a));
  past = λ k a. (u.owned k a, u.lasting k a);
  served = v;
  text = (let j : 0 ≡ d.slots - d.slots = omega arith in e ∙ ap (λ (n : ℕ). runs (slot_of d) d.slots n ++ (4 ∷ [])) j);
}

end_back : (bs : List ℕ) (at : ℕ) (d c : Config) → Clear d → d.slots ≤ 64 → get_or bs 0 0 ≡ 4 → read_end bs at d ≡ accepted c → SlotsBack bs d c
unfolding read_end
end_back bs at d c u h k e =
    let w = end_way (vms_served d) (eqb (length bs) 1) at d c e in
    let one = front_one bs (eqb-true (length bs) 1 w.1) ∙ ap (λ (x : ℕ). x ∷ []) k in
    subst (λ (x : Config). SlotsBack bs d x) w.2 (end_same bs d u h one w.0)

-- one slot before
module _ (bs : List ℕ) (d c : Config) (y : Bytes bs) (u : Clear d) (s : slot_fault d.count d.slots bs ≡ 0) (r : SlotsBack (drop 4 bs) (with_slot d (get_or bs 1 0) (half bs 2)) c) where
  owner_here : owner_at c d.slots ≡ get_or bs 1 0
  owner_here = fill_at d.owners d.slots (get_or bs 1 0) r.owners (omega (arith, u.owners, (slot_passed d.count d.slots bs s).2))

  duration_here : duration_at c d.slots ≡ half bs 2
  duration_here = fill_at d.durations d.slots (half bs 2) r.durations (omega (arith, u.durations, (slot_passed d.count d.slots bs s).2))

  fits_here : owner_fault c.count (owner_at c d.slots) (duration_at c d.slots) ≡ 0
  fits_here = rw (r.count, owner_here, duration_here) (slot_passed d.count d.slots bs s).3

  slot_here : slot_of c d.slots ≡ slot_bytes (get_or bs 1 0) (half bs 2)
  slot_here = ap (λ (o : ℕ). slot_bytes o (duration_at c d.slots)) owner_here ∙ ap (slot_bytes (get_or bs 1 0)) duration_here

  slot_back : SlotsBack bs d c
  unfolding runs
  slot_back =
      let w = slot_passed d.count d.slots bs s in
      let n = d.slots in
      record {
        count = r.count;
        room = r.room;
        entries = r.entries;
        handlers = r.handlers;
        regions = r.regions;
        few = (omega (arith, r.few.0), r.few.1);
        owners = fill_less d.owners n (get_or bs 1 0) r.owners u.owned;
        durations = fill_less d.durations n (half bs 2) r.durations u.lasting;
        fits = λ k a b.
            elim (ℕ_discrete k n) [
              | yes j ↦ rw j fits_here
              | no j ↦ r.fits k (omega arith) b
            ];
        small = λ k a.
            elim (ℕ_discrete k n) [
              | yes j ↦ rw (j, owner_here, duration_here) (y 1, half_below (get_or bs 2 0) (get_or bs 3 0) (y 2) (y 3))
              | no j ↦ r.small k (omega arith)
            ];
        past = r.past;
        served = r.served;
        text = (
            let j : suc (c.slots - (n + 1)) ≡ c.slots - n = omega (arith, r.few.0) in
            slot_text bs y w.0 w.1
            ∙ ap (λ (x : List ℕ). slot_bytes (get_or bs 1 0) (half bs 2) ++ x) r.text
            ∙ ap (λ (x : List ℕ). x ++ (runs (slot_of c) (n + 1) (c.slots - (n + 1)) ++ (4 ∷ []))) (sym slot_here)
            ∙ ap (λ (m : ℕ). runs (slot_of c) n m ++ (4 ∷ [])) j
            );
      }

slots_back : (m : ℕ) (bs : List ℕ) (at : ℕ) (d c : Config) → Bytes bs → d.slots + m ≡ 65 → Clear d → read_slots m bs at d ≡ accepted c → SlotsBack bs d c
unfolding read_slots
slots_back zero bs at d c y h u e = absurd (omega (arith, fault_none 26 at c e))
slots_back (suc m) bs at d c y h u e =
    elim (ℕ_discrete (get_or bs 0 0) 4) [
      | yes k ↦ end_back bs at d c u (omega arith) k (sym (slots_ends m bs at d k) ∙ e)
      | no k ↦
          elim (ℕ_discrete (slot_fault d.count d.slots bs) 0) [
            | yes z ↦
                slot_back bs d c y u z
                (slots_back m (drop 4 bs) (at + 4) (with_slot d (get_or bs 1 0) (half bs 2)) c (bytes_drop 4 bs y) (omega arith) (clear_more d _ _ u) (sym (slots_goes m bs at d k z) ∙ e))
            | no z ↦ absurd (z (fault_none _ at c (sym (slots_bad m bs at d _ k refl z) ∙ e)))
          ]
    ]

-- r has zeros in the places of the regions that it does not have
record Unheld (r : Regions) : Type 0 where
  sized : RegionsSized r
  holders : (k : ℕ) → r.count ≤ k → holder_at r k ≡ 0
  permissions : (k : ℕ) → r.count ≤ k → permission_at r k ≡ 0
  starts : (k : ℕ) → r.count ≤ k → start_at r k ≡ 0
  lasts : (k : ℕ) → r.count ≤ k → last_at r k ≡ 0

unheld_more : (r : Regions) (h p s l : ℕ) → Unheld r → Unheld (with_region r h p s l)
unheld_more r h p s l u = record {
  sized = record {
    holders = length-set r.holders r.count h ∙ u.sized.holders;
    permissions = length-set r.permissions r.count p ∙ u.sized.permissions;
    starts = length-set r.starts r.count s ∙ u.sized.starts;
    lasts = length-set r.lasts r.count l ∙ u.sized.lasts;
  };
  holders = zeros_set r.holders r.count h u.holders;
  permissions = zeros_set r.permissions r.count p u.permissions;
  starts = zeros_set r.starts r.count s u.starts;
  lasts = zeros_set r.lasts r.count l u.lasts;
}

-- what is known of c when the bytes bs, read on top of d and the regions r, gave it; `held` are the regions in the end
record RegionsBack (bs : List ℕ) (d c : Config) (r : Regions) : Type 0 where
  held : Regions
  rest : List ℕ
  is : c.regions ≡ held
  tail : SlotsBack rest (with_regions d held) c
  few : (r.count ≤ held.count) × (held.count ≤ 64)
  holders : Filled r.holders held.holders r.count
  permissions : Filled r.permissions held.permissions r.count
  starts : Filled r.starts held.starts r.count
  lasts : Filled r.lasts held.lasts r.count
  follows : (k : ℕ) → r.count ≤ k → k < held.count → Next d.count held k
  bytes : (k : ℕ) → r.count ≤ k → (holder_at held k < 256) × (permission_at held k < 256)
  words : (k : ℕ) → r.count ≤ k → (start_at held k < 2 ^ 32) × (last_at held k < 2 ^ 32)
  past : Unheld held
  text : bs ≡ runs (region_of held) r.count (held.count - r.count) ++ rest

regions_end : (bs : List ℕ) (d c : Config) (r : Regions) → Unheld r → r.count ≤ 64 → SlotsBack bs (with_regions d r) c → RegionsBack bs d c r
unfolding runs
regions_end bs d c r u h t = record {
  held = r;
  rest = bs;
  is = t.regions;
  tail = t;
  few = (omega arith, h);
  holders = fill_self r.holders r.count u.holders;
  permissions = fill_self r.permissions r.count u.permissions;
  starts = fill_self r.starts r.count u.starts;
  lasts = fill_self r.lasts r.count u.lasts;
  follows = λ k a b. absurd (omega arith);
  bytes = λ k a. (omega (arith, u.holders k a), omega (arith, u.permissions k a));
  words = λ k a. (omega (arith, u.starts k a), omega (arith, u.lasts k a));
  past = u;
  text = (let j : 0 ≡ r.count - r.count = omega arith in ap (λ (n : ℕ). runs (region_of r) r.count n ++ bs) j);
}

-- one region before
module _ (bs : List ℕ) (d c : Config) (r : Regions) (y : Bytes bs) (u : Unheld r) (z : get_or bs 0 0 ≡ 5) (f : region_fault d.count r bs ≡ 0)
    (b : RegionsBack (drop 11 bs) d c (with_region r (get_or bs 1 0) (get_or bs 2 0) (word bs 3) (word bs 7))) where
  passed : Passed d.count r (get_or bs 1 0) (get_or bs 2 0) (word bs 3) (word bs 7)
  passed = (region_passed d.count r bs f).1

  holder_here : holder_at b.held r.count ≡ get_or bs 1 0
  holder_here = fill_at r.holders r.count (get_or bs 1 0) b.holders (omega (arith, u.sized.holders, passed.room))

  permission_here : permission_at b.held r.count ≡ get_or bs 2 0
  permission_here = fill_at r.permissions r.count (get_or bs 2 0) b.permissions (omega (arith, u.sized.permissions, passed.room))

  start_here : start_at b.held r.count ≡ word bs 3
  start_here = fill_at r.starts r.count (word bs 3) b.starts (omega (arith, u.sized.starts, passed.room))

  last_here : last_at b.held r.count ≡ word bs 7
  last_here = fill_at r.lasts r.count (word bs 7) b.lasts (omega (arith, u.sized.lasts, passed.room))

  holders_before : Filled r.holders b.held.holders r.count
  holders_before = fill_less r.holders r.count (get_or bs 1 0) b.holders u.holders

  permissions_before : Filled r.permissions b.held.permissions r.count
  permissions_before = fill_less r.permissions r.count (get_or bs 2 0) b.permissions u.permissions

  starts_before : Filled r.starts b.held.starts r.count
  starts_before = fill_less r.starts r.count (word bs 3) b.starts u.starts

  lasts_before : Filled r.lasts b.held.lasts r.count
  lasts_before = fill_less r.lasts r.count (word bs 7) b.lasts u.lasts

  next_here : Next d.count b.held r.count
  next_here =
      next_taken d.count r b.held (record { holders = holders_before.below; permissions = permissions_before.below; starts = starts_before.below; lasts = lasts_before.below })
      (rw holder_here passed.named)
      (rw holder_here passed.few)
      (rw permission_here passed.permitted)
      (rw (start_here, last_here) passed.ordered)
      (rw (holder_here, permission_here, start_here, last_here) passed.agrees)

  region_here : region_of b.held r.count ≡ region_bytes (get_or bs 1 0) (get_or bs 2 0) (word bs 3) (word bs 7)
  region_here =
      ap (λ (x : ℕ). region_bytes x (permission_at b.held r.count) (start_at b.held r.count) (last_at b.held r.count)) holder_here
      ∙ ap (λ (x : ℕ). region_bytes (get_or bs 1 0) x (start_at b.held r.count) (last_at b.held r.count)) permission_here
      ∙ ap (λ (x : ℕ). region_bytes (get_or bs 1 0) (get_or bs 2 0) x (last_at b.held r.count)) start_here
      ∙ ap (λ (x : ℕ). region_bytes (get_or bs 1 0) (get_or bs 2 0) (word bs 3) x) last_here

  region_back : RegionsBack bs d c r
  unfolding runs
  region_back =
      let n = r.count in
      record {
        held = b.held;
        rest = b.rest;
        is = b.is;
        tail = b.tail;
        few = (omega (arith, b.few.0), b.few.1);
        holders = holders_before;
        permissions = permissions_before;
        starts = starts_before;
        lasts = lasts_before;
        follows = λ k a m.
            elim (ℕ_discrete k n) [
              | yes j ↦ rw j next_here
              | no j ↦ b.follows k (omega arith) m
            ];
        bytes = λ k a.
            elim (ℕ_discrete k n) [
              | yes j ↦ rw (j, holder_here, permission_here) (y 1, y 2)
              | no j ↦ b.bytes k (omega arith)
            ];
        words = λ k a.
            elim (ℕ_discrete k n) [
              | yes j ↦ rw (j, start_here, last_here) (
                word_below (get_or bs 3 0) (get_or bs 4 0) (get_or bs 5 0) (get_or bs 6 0) (y 3) (y 4) (y 5) (y 6),
                word_below (get_or bs 7 0) (get_or bs 8 0) (get_or bs 9 0) (get_or bs 10 0) (y 7) (y 8) (y 9) (y 10),
              )
              | no j ↦ b.words k (omega arith)
            ];
        past = b.past;
        text = (
            let j : suc (b.held.count - (n + 1)) ≡ b.held.count - n = omega (arith, b.few.0) in
            region_text bs y z (region_passed d.count r bs f).0
            ∙ ap (λ (x : List ℕ). region_bytes (get_or bs 1 0) (get_or bs 2 0) (word bs 3) (word bs 7) ++ x) b.text
            ∙ ap (λ (x : List ℕ). x ++ (runs (region_of b.held) (n + 1) (b.held.count - (n + 1)) ++ b.rest)) (sym region_here)
            ∙ sym (append_assoc (region_of b.held n) (runs (region_of b.held) (n + 1) (b.held.count - (n + 1))) b.rest)
            ∙ ap (λ (m : ℕ). runs (region_of b.held) n m ++ b.rest) j
            );
      }

regions_back : (m : ℕ) (bs : List ℕ) (at : ℕ) (d c : Config) (r : Regions) → Bytes bs → r.count + m ≡ 65 → d.slots ≡ 0 → Clear d → Unheld r → read_regions m bs at d r ≡ accepted c → RegionsBack bs d c r
unfolding read_regions
regions_back zero bs at d c r y h s u v e = absurd (omega (arith, fault_none 35 at c e))
regions_back (suc m) bs at d c r y h s u v e =
    elim (ℕ_discrete (get_or bs 0 0) 5) [
      | no k ↦ regions_end bs d c r v (omega arith) (slots_back 65 bs at (with_regions d r) c y (omega arith) (record { owners = u.owners; durations = u.durations; owned = u.owned; lasting = u.lasting }) (sym (regions_past m bs at d r k) ∙ e))
      | yes k ↦
          elim (ℕ_discrete (region_fault d.count r bs) 0) [
            | yes z ↦
                region_back bs d c r y v k z
                (regions_back m (drop 11 bs) (at + 11) d c (with_region r (get_or bs 1 0) (get_or bs 2 0) (word bs 3) (word bs 7)) (bytes_drop 11 bs y) (omega arith) s u (unheld_more r _ _ _ _ v) (sym (regions_goes m bs at d r k z) ∙ e))
            | no z ↦ absurd (z (fault_none _ at c (sym (regions_bad m bs at d r _ k refl z) ∙ e)))
          ]
    ]

unheld_none : Unheld none
unheld_none = record {
  sized = record { holders = refl; permissions = refl; starts = refl; lasts = refl };
  holders = λ k a. zeros_at 64 k;
  permissions = λ k a. zeros_at 64 k;
  starts = λ k a. zeros_at 64 k;
  lasts = λ k a. zeros_at 64 k;
}

-- d has zeros in the places from VM i on, and no slot
record Open (d : Config) (i : ℕ) : Type 0 where
  none : d.slots ≡ 0
  clear : Clear d
  entries : length d.entries ≡ 8
  handlers : length d.handlers ≡ 8
  entry : (k : ℕ) → i ≤ k → entry_at d k ≡ 0
  handler : (k : ℕ) → i ≤ k → handler_at d k ≡ 0

open_more : (d : Config) (i a b : ℕ) → Open d i → Open (with_vm d i a b) (i + 1)
open_more d i a b u = record {
  none = u.none;
  clear = record { owners = u.clear.owners; durations = u.clear.durations; owned = u.clear.owned; lasting = u.clear.lasting };
  entries = length-set d.entries i a ∙ u.entries;
  handlers = length-set d.handlers i b ∙ u.handlers;
  entry = zeros_set d.entries i a u.entry;
  handler = zeros_set d.handlers i b u.handler;
}

record VmsBack (bs : List ℕ) (d c : Config) (i : ℕ) : Type 0 where
  rest : List ℕ
  base : Config
  same : (base.count ≡ d.count) × (base.room ≡ d.room) × (base.slots ≡ 0)
  cleared : Clear base
  tail : RegionsBack rest base c none
  entries : Filled d.entries c.entries i
  handlers : Filled d.handlers c.handlers i
  small : (k : ℕ) → i ≤ k → (entry_at c k < 2 ^ 32) × (handler_at c k < 2 ^ 32)
  past : (k : ℕ) → c.count ≤ k → (entry_at c k ≡ 0) × (handler_at c k ≡ 0)
  text : bs ≡ runs (vm_of c) i (c.count - i) ++ rest

vms_end : (bs : List ℕ) (d c : Config) (i : ℕ) → i ≡ d.count → Open d i → RegionsBack bs d c none → VmsBack bs d c i
unfolding runs
vms_end bs d c i h u r =
    let entry : (k : ℕ) → i ≤ k → entry_at c k ≡ 0 = λ k a. ap (λ (x : List ℕ). get_or x k 0) r.tail.entries ∙ u.entry k a in
    let handler : (k : ℕ) → i ≤ k → handler_at c k ≡ 0 = λ k a. ap (λ (x : List ℕ). get_or x k 0) r.tail.handlers ∙ u.handler k a in
    record {
      rest = bs;
      base = d;
      same = (refl, refl, u.none);
      cleared = u.clear;
      tail = r;
      entries = subst (λ (x : List ℕ). Filled d.entries x i) (sym r.tail.entries) (fill_self d.entries i u.entry);
      handlers = subst (λ (x : List ℕ). Filled d.handlers x i) (sym r.tail.handlers) (fill_self d.handlers i u.handler);
      small = λ k a. (omega (arith, entry k a), omega (arith, handler k a));
      past = λ k a. (entry k (omega (arith, r.tail.count)), handler k (omega (arith, r.tail.count)));
      text = (let j : 0 ≡ c.count - i = omega (arith, r.tail.count) in ap (λ (n : ℕ). runs (vm_of c) i n ++ bs) j);
    }

-- one VM before
module _ (bs : List ℕ) (d c : Config) (i : ℕ) (y : Bytes bs) (u : Open d i) (s : vm_fault bs ≡ 0) (l : i < d.count) (m : i < 8) (r : VmsBack (drop 9 bs) (with_vm d i (word bs 1) (word bs 5)) c (i + 1)) where
  entry_here : entry_at c i ≡ word bs 1
  entry_here = fill_at d.entries i (word bs 1) r.entries (omega (arith, u.entries))

  handler_here : handler_at c i ≡ word bs 5
  handler_here = fill_at d.handlers i (word bs 5) r.handlers (omega (arith, u.handlers))

  vm_here : vm_of c i ≡ vm_bytes (word bs 1) (word bs 5)
  vm_here = ap (λ (x : ℕ). vm_bytes x (handler_at c i)) entry_here ∙ ap (vm_bytes (word bs 1)) handler_here

  vm_back : VmsBack bs d c i
  unfolding runs
  vm_back =
      let w = vm_passed bs s in
      record {
        rest = r.rest;
        base = r.base;
        same = r.same;
        cleared = r.cleared;
        tail = r.tail;
        entries = fill_less d.entries i (word bs 1) r.entries u.entry;
        handlers = fill_less d.handlers i (word bs 5) r.handlers u.handler;
        small = λ k a.
            elim (ℕ_discrete k i) [
              | yes j ↦ rw (j, entry_here, handler_here) (
                word_below (get_or bs 1 0) (get_or bs 2 0) (get_or bs 3 0) (get_or bs 4 0) (y 1) (y 2) (y 3) (y 4),
                word_below (get_or bs 5 0) (get_or bs 6 0) (get_or bs 7 0) (get_or bs 8 0) (y 5) (y 6) (y 7) (y 8),
              )
              | no j ↦ r.small k (omega arith)
            ];
        past = r.past;
        text = (
            let j : suc (c.count - (i + 1)) ≡ c.count - i = omega (arith, r.tail.tail.count, r.same.0) in
            vm_text bs y w.0 w.1
            ∙ ap (λ (x : List ℕ). vm_bytes (word bs 1) (word bs 5) ++ x) r.text
            ∙ ap (λ (x : List ℕ). x ++ (runs (vm_of c) (i + 1) (c.count - (i + 1)) ++ r.rest)) (sym vm_here)
            ∙ ap (λ (n : ℕ). runs (vm_of c) i n ++ r.rest) j
            );
      }

vms_back : (m i : ℕ) (bs : List ℕ) (at : ℕ) (d c : Config) → Bytes bs → i + m ≡ d.count → d.count ≤ 8 → Open d i → read_vms m bs at d ≡ accepted c → VmsBack bs d c i
unfolding read_vms
vms_back zero i bs at d c y h l u e = vms_end bs d c i (omega arith) u (regions_back 65 bs at d c none y (omega arith) u.none u.clear unheld_none e)
vms_back (suc m) i bs at d c y h l u e =
    elim (ℕ_discrete (vm_fault bs) 0) [
      | yes z ↦ (
          let j : d.count - suc m ≡ i = omega arith in
          let f = ap (λ (k : ℕ). read_vms m (drop 9 bs) (at + 9) (with_vm d k (word bs 1) (word bs 5))) (sym j) in
          vm_back bs d c i y u z (omega arith) (omega arith)
          (vms_back m (i + 1) (drop 9 bs) (at + 9) (with_vm d i (word bs 1) (word bs 5)) c (bytes_drop 9 bs y) (omega arith) l (open_more d i _ _ u) (f ∙ sym (vms_goes m bs at d z) ∙ e))
          )
      | no z ↦ absurd (z (fault_none _ at c (sym (vms_bad m bs at d _ refl z) ∙ e)))
    ]

open_first : (n r : ℕ) → Open (begun n r) 0
open_first n r = record {
  none = refl;
  clear = record { owners = refl; durations = refl; owned = λ k a. zeros_at 64 k; lasting = λ k a. zeros_at 64 k };
  entries = refl;
  handlers = refl;
  entry = λ k a. zeros_at 8 k;
  handler = λ k a. zeros_at 8 k;
}

core_none : (bs : List ℕ) (c : Config) → read_image bs ≡ accepted c → core_fault bs ≡ 0
core_none bs c e =
    elim (ℕ_discrete (core_fault bs) 0) [
      | yes z ↦ z
      | no z ↦ absurd (z (fault_none _ 0 c (image_bad bs _ _ refl z refl ∙ e)))
    ]

-- what is known of an accepted image
module _ (bs : List ℕ) (c : Config) (y : Bytes bs) (e : read_image bs ≡ accepted c) where
  all_back : VmsBack (drop 3 bs) (begun (get_or bs 1 0) (get_or bs 2 0)) c 0
  all_back =
      let z = core_none bs c e in
      vms_back (get_or bs 1 0) 0 (drop 3 bs) 3 (begun (get_or bs 1 0) (get_or bs 2 0)) c (bytes_drop 3 bs y) (omega arith) (core_passed bs z).3 (open_first _ _) (image_goes bs refl z refl refl refl refl ∙ e)

  -- writing what was accepted gives the same bytes
  pub back_bytes : image c ≡ bs
  back_bytes =
      let w = core_passed bs (core_none bs c e) in
      let r = all_back in
      let n : c.count ≡ get_or bs 1 0 = r.tail.tail.count ∙ r.same.0 in
      let q : c.room ≡ get_or bs 2 0 = r.tail.tail.room ∙ r.same.1 in
      let i : c.count - 0 ≡ c.count = omega arith in
      let j : c.slots - 0 ≡ c.slots = omega arith in
      let g = r.tail.held in
      let h : g.count - 0 ≡ g.count = omega arith in
      let slots : r.tail.rest ≡ slots_form c =
      r.tail.tail.text
      ∙ ap (λ (k : ℕ). runs (slot_of c) k (c.slots - k) ++ (4 ∷ [])) r.same.2
      ∙ ap (λ (k : ℕ). runs (slot_of c) 0 k ++ (4 ∷ [])) j
      in
      let x : r.rest ≡ runs (region_of c.regions) 0 c.regions.count ++ slots_form c =
      r.tail.text
      ∙ ap (λ (k : ℕ). runs (region_of g) 0 k ++ r.tail.rest) h
      ∙ ap (λ (l : List ℕ). runs (region_of g) 0 g.count ++ l) slots
      ∙ ap (λ (q : Regions). runs (region_of q) 0 q.count ++ slots_form c) (sym r.tail.is)
      in
      image_form c
      ∙ sym (
      front_three bs w.1
      ∙ ap (λ (k : ℕ). k ∷ get_or bs 1 0 ∷ get_or bs 2 0 ∷ drop 3 bs) w.0
      ∙ ap (λ (k : ℕ). 1 ∷ k ∷ get_or bs 2 0 ∷ drop 3 bs) (sym n)
      ∙ ap (λ (k : ℕ). 1 ∷ c.count ∷ k ∷ drop 3 bs) (sym q)
      ∙ ap (λ (l : List ℕ). 1 ∷ c.count ∷ c.room ∷ l) (
      r.text
      ∙ ap (λ (k : ℕ). runs (vm_of c) 0 k ++ r.rest) i
      ∙ ap (λ (l : List ℕ). runs (vm_of c) 0 c.count ++ l) x
      )
      )

  back_regions : RegionsTyped c.regions
  back_regions =
      let r = all_back.tail in
      subst RegionsTyped (sym r.is)
      (record {
        sized = r.past.sized;
        count = omega (arith, r.few.1);
        holder = λ k. (r.bytes k (omega arith)).0;
        permission = λ k. (r.bytes k (omega arith)).1;
        start = λ k. (r.words k (omega arith)).0;
        last = λ k. (r.words k (omega arith)).1;
      })

  -- H1 to H6: its regions are lawful
  back_lawful : Lawful c.count c.regions
  back_lawful =
      let r = all_back.tail in
      let n : c.count ≡ all_back.base.count = r.tail.count in
      subst (λ (q : Regions). Lawful c.count q) (sym r.is)
      (next_all c.count r.held r.few.1
      (λ k h. subst (λ (v : ℕ). Next v r.held k) (sym n) (r.follows k (omega arith) h))
      (λ k h l. (r.past.holders k h, r.past.permissions k h))
      (λ k h l. (r.past.starts k h, r.past.lasts k h)))

  -- what is accepted is a value of the struct
  pub back_typed : Typed c
  back_typed =
      let w = core_passed bs (core_none bs c e) in
      let r = all_back in
      let n : c.count ≡ get_or bs 1 0 = r.tail.tail.count ∙ r.same.0 in
      let q : c.room ≡ get_or bs 2 0 = r.tail.tail.room ∙ r.same.1 in
      record {
        sized = record {
          entries = sym r.entries.long;
          handlers = sym r.handlers.long;
          owners = sym r.tail.tail.owners.long ∙ r.cleared.owners;
          durations = sym r.tail.tail.durations.long ∙ r.cleared.durations;
          regions = back_regions.sized;
        };
        counts = (omega (arith, n, w.3), omega (arith, q, w.4), omega (arith, r.tail.tail.few.1));
        entry = λ k. (r.small k (omega arith)).0;
        handler = λ k. (r.small k (omega arith)).1;
        owner = λ k. (r.tail.tail.small k (omega (arith, r.same.2))).0;
        duration = λ k. (r.tail.tail.small k (omega (arith, r.same.2))).1;
        regions = back_regions;
      }

  -- and keeps S1 to S7 and H1 to H6
  back_facts : Legal c
  unfolding vms_served has_slot
  back_facts =
      let w = core_passed bs (core_none bs c e) in
      let r = all_back in
      let n : c.count ≡ get_or bs 1 0 = r.tail.tail.count ∙ r.same.0 in
      let q : c.room ≡ get_or bs 2 0 = r.tail.tail.room ∙ r.same.1 in
      let fits : (k : ℕ) → k < c.slots → owner_fault c.count (owner_at c k) (duration_at c k) ≡ 0 = λ k h. r.tail.tail.fits k (omega (arith, r.same.2)) h in
      let has : (v : ℕ) → v < c.count → (k : ℕ) × (k < c.slots) × (owner_at c k ≡ v) = λ v h.
      (let s = some_is _ c.slots (every_is _ c.count r.tail.tail.served v h) in (s.0, s.1, eqb-true (owner_at c s.0) v s.2))
      in
      record {
        vms = (omega (arith, n, w.2), omega (arith, n, w.3));
        queue = omega (arith, q, w.4);
        table = ((let s = has 0 (omega (arith, n, w.2)) in omega (arith, s.1)), r.tail.tail.few.1);
        spares = λ k h. owner_spare c.count (owner_at c k) (duration_at c k) (fits k h);
        named = λ k h. owner_named c.count (owner_at c k) (duration_at c k) (fits k h);
        owned = λ k h. owner_names c.count (owner_at c k) (duration_at c k) (fits k h);
        regions = back_lawful;
        served = has;
        vms_empty = λ k h l. r.past k h;
        slots_empty = λ k h l. r.tail.tail.past k h;
      }

  pub back_legal : legal c ≡ true
  back_legal = legal_of c back_facts
