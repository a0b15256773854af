-- Reading what was written: the image of a legal configuration is read as that configuration.
use Prim.Native.Nat.{suc, zero, ℕ, ◌+◌, ◌-◌, ◌<◌, ◌^◌, ◌≤◌}
use borrow.Author.Tests.{eq-eqb, le-leb, le-ltb, lt-ltb, ne_eqb}
use lib.ListN.{get_or, length}
use mathlib.Core.Bool.{true}
use mathlib.Core.List.{List, append_assoc, [], ◌++◌, ◌∷◌}
use mathlib.Core.Logic.{◌⊎◌, ⊎_elim}
use mathlib.Core.Path.{ap, refl, subst, sym, ◌∙◌, ◌≡◌}
use native.Mathlib.Decide.{ℕ_discrete}
use native.Mathlib.Omega.{arith}
use Rattle.basis.proofs.Digits.{half_whole, word_whole}
use Rattle.basis.proofs.Laws.{every_of, some_of}
use Rattle.basis.specs.Nobody.{nobody}
use Rattle.basis.specs.Numbers.{half, word}
use Rattle.config.proofs.Legality.{legal_is}
use Rattle.config.specs.Ranges.{Typed}
use Rattle.config.specs.Sizes.{Legal, duration_at, entry_at, handler_at, has_slot, legal, owner_at, vms_served}
use Rattle.config.specs.declared.Config.{Config}
use Rattle.image_laws.proofs.Fill.{Filled, fill_end, fill_more, fill_none, joined_runs, runs}
use Rattle.image_reader.proofs.RegionTurns.{regions_goes, regions_past}
use Rattle.image_reader.proofs.Turns.{slots_ends, slots_goes, vms_goes}
use Rattle.image_reader.specs.Reader.{accepted, begun, read_end, read_image, read_regions, read_slots, read_vms, with_regions, with_slot, with_vm}
use Rattle.image_reader.specs.Records.{core_fault, owner_fault, place_fault, region_fault, slot_fault, vm_fault}
use Rattle.image_writer.specs.Writer.{core_bytes, image, records_bytes, region_bytes, regions_bytes, slot_bytes, slots_bytes, vm_bytes, vms_bytes}
use Rattle.regions.proofs.Steps.{next_of}
use Rattle.regions.proofs.Taken.{Begins, next_agrees, next_room}
use Rattle.regions.specs.Beside.{agrees_all, with_region}
use Rattle.regions.specs.Rules.{held, holder_at, last_at, listed, none, permission_at, start_at}
use Rattle.regions.specs.declared.Regions.{Regions}

-- the record of VM k, of slot k, and of region k
abbrev pub vm_of : Config → ℕ → List ℕ
vm_of c k = vm_bytes (entry_at c k) (handler_at c k)

abbrev pub slot_of : Config → ℕ → List ℕ
slot_of c k = slot_bytes (owner_at c k) (duration_at c k)

abbrev pub region_of : Regions → ℕ → List ℕ
region_of r k = region_bytes (holder_at r k) (permission_at r k) (start_at r k) (last_at r k)

-- the slots and the end
abbrev pub slots_form : Config → List ℕ
slots_form c = runs (slot_of c) 0 c.slots ++ (4 ∷ [])

-- I5, I6: the image with its records from the front
pub image_form : (c : Config) → image c ≡ 1 ∷ c.count ∷ c.room ∷ (runs (vm_of c) 0 c.count ++ (runs (region_of c.regions) 0 c.regions.count ++ slots_form c))
unfolding image records_bytes
image_form c =
    let held = regions_bytes c.regions in
    ap (λ (x : List ℕ). 1 ∷ c.count ∷ c.room ∷ x)
    (append_assoc (vms_bytes c) (held ++ slots_bytes c) (4 ∷ [])
    ∙ ap (λ (x : List ℕ). vms_bytes c ++ x) (append_assoc held (slots_bytes c) (4 ∷ []))
    ∙ ap (λ (x : List ℕ). x ++ (held ++ (slots_bytes c ++ (4 ∷ [])))) (joined_runs (vm_of c) c.count)
    ∙ ap (λ (x : List ℕ). runs (vm_of c) 0 c.count ++ (x ++ (slots_bytes c ++ (4 ∷ [])))) (joined_runs (region_of c.regions) c.regions.count)
    ∙ ap (λ (x : List ℕ). runs (vm_of c) 0 c.count ++ (runs (region_of c.regions) 0 c.regions.count ++ (x ++ (4 ∷ [])))) (joined_runs (slot_of c) c.slots))

same_fields : (a1 a2 a3 b1 b2 b3 : ℕ) (a4 a5 a6 a7 b4 b5 b6 b7 : List ℕ) (a8 b8 : Regions) → a1 ≡ b1 → a2 ≡ b2 → a3 ≡ b3 → a4 ≡ b4 → a5 ≡ b5 → a6 ≡ b6 → a7 ≡ b7 → a8 ≡ b8
    → ◌≡◌ {A = Config}
    (record { count = a1; room = a2; slots = a3; entries = a4; handlers = a5; owners = a6; durations = a7; regions = a8 })
    (record { count = b1; room = b2; slots = b3; entries = b4; handlers = b5; owners = b6; durations = b7; regions = b8 })
same_fields a1 a2 a3 b1 b2 b3 a4 a5 a6 a7 b4 b5 b6 b7 a8 b8 e1 e2 e3 e4 e5 e6 e7 e8 = rw (e1, e2, e3, e4, e5, e6, e7, e8)

pub same_config : (a b : Config) → a.count ≡ b.count → a.room ≡ b.room → a.slots ≡ b.slots
    → a.entries ≡ b.entries → a.handlers ≡ b.handlers → a.owners ≡ b.owners → a.durations ≡ b.durations → a.regions ≡ b.regions → a ≡ b
same_config a b = same_fields a.count a.room a.slots b.count b.room b.slots a.entries a.handlers a.owners a.durations b.entries b.handlers b.owners b.durations a.regions b.regions

-- a written record has no fault
owner_one : (count o t : ℕ) → (o ≡ nobody) ⊎ (o < count) → (o ≡ nobody → t ≡ 1) → ((o ≡ nobody → ⊥) → (1 ≤ t) × (t ≤ 1000)) → owner_fault count o t ≡ 0
unfolding owner_fault
owner_one count o t w s n =
    elim (ℕ_discrete o nobody) [
      | yes e ↦ rw (eq-eqb o nobody e, eq-eqb t 1 (s e))
      | no e ↦
          ⊎_elim
          (λ x. absurd (e x))
          (λ x. (let h = n e in rw (ne_eqb o nobody e, lt-ltb o count x, le-leb 1 t h.0, le-leb t 1000 h.1)))
          w
    ]

slot_one : (count n o t : ℕ) (bs : List ℕ) → n < 64 → t < 65536 → owner_fault count o t ≡ 0 → slot_fault count n (slot_bytes o t ++ bs) ≡ 0
unfolding slot_fault
slot_one count n o t bs h l e =
    rw (le-ltb (length (slot_bytes o t ++ bs)) 1 (omega arith), le-ltb (length (slot_bytes o t ++ bs)) 4 (omega arith), lt-ltb n 64 h, half_whole t l) e

place_one : (vms : ℕ) (r : Regions) (h p s l : ℕ) → h < vms → r.count < 64 → held r.holders h r.count < 8 → (1 ≤ p) × (p ≤ 3) → s ≤ l → agrees_all r h p s l ≡ true → place_fault vms r h p s l ≡ 0
unfolding place_fault
place_one vms r h p s l a b m w o e =
    rw (lt-ltb h vms a, lt-ltb r.count 64 b, lt-ltb (held r.holders h r.count) 8 m, le-leb 1 p w.0, le-leb p 3 w.1, le-leb s l o, le-leb r.count 64 (omega arith), e)

region_one : (vms : ℕ) (r : Regions) (h p s l : ℕ) (bs : List ℕ) → s < 2 ^ 32 → l < 2 ^ 32 → place_fault vms r h p s l ≡ 0 → region_fault vms r (region_bytes h p s l ++ bs) ≡ 0
unfolding region_fault
region_one vms r h p s l bs a b e =
    rw (le-ltb (length (region_bytes h p s l ++ bs)) 11 (omega arith), word_whole s a, word_whole l b) e

vm_one : (e h : ℕ) (bs : List ℕ) → vm_fault (vm_bytes e h ++ bs) ≡ 0
unfolding vm_fault
vm_one e h bs = rw (le-ltb (length (vm_bytes e h ++ bs)) 1 (omega arith), le-ltb (length (vm_bytes e h ++ bs)) 9 (omega arith))

core_one : (n r : ℕ) (bs : List ℕ) → 1 ≤ n → n ≤ 8 → r ≤ 16 → core_fault (core_bytes n r ++ bs) ≡ 0
unfolding core_fault
core_one n r bs h l m =
    rw (le-ltb (length (core_bytes n r ++ bs)) 1 (omega arith), le-ltb (length (core_bytes n r ++ bs)) 3 (omega arith), le-leb 1 n h, le-leb n 8 l, le-leb r 16 m)

-- d has all VMs of c and the first of its slots
record Cut (c d : Config) : Type 0 where
  count : d.count ≡ c.count
  room : d.room ≡ c.room
  entries : d.entries ≡ c.entries
  handlers : d.handlers ≡ c.handlers
  owners : Filled d.owners c.owners d.slots
  durations : Filled d.durations c.durations d.slots
  regions : d.regions ≡ c.regions

-- r has the first regions of t
record Held (r t : Regions) : Type 0 where
  holders : Filled r.holders t.holders r.count
  permissions : Filled r.permissions t.permissions r.count
  starts : Filled r.starts t.starts r.count
  lasts : Filled r.lasts t.lasts r.count

held_begins : (r t : Regions) → Held r t → Begins r t
held_begins r t u = record { holders = u.holders.below; permissions = u.permissions.below; starts = u.starts.below; lasts = u.lasts.below }

same_regions : (a b : Regions) → a.count ≡ b.count → a.holders ≡ b.holders → a.permissions ≡ b.permissions → a.starts ≡ b.starts → a.lasts ≡ b.lasts → a ≡ b
same_regions a b = go a.count b.count a.holders a.permissions a.starts a.lasts b.holders b.permissions b.starts b.lasts
  where
    go : (a1 b1 : ℕ) (a2 a3 a4 a5 b2 b3 b4 b5 : List ℕ) → a1 ≡ b1 → a2 ≡ b2 → a3 ≡ b3 → a4 ≡ b4 → a5 ≡ b5 → listed a1 a2 a3 a4 a5 ≡ listed b1 b2 b3 b4 b5
    go a1 b1 a2 a3 a4 a5 b2 b3 b4 b5 e1 e2 e3 e4 e5 = rw (e1, e2, e3, e4, e5)

-- what follows the regions is no region
slots_kind : (c : Config) (n : ℕ) → get_or (runs (slot_of c) 0 n ++ (4 ∷ [])) 0 0 ≡ 5 → ⊥
unfolding runs
slots_kind c zero e = omega arith
slots_kind c (suc n) e = omega arith

-- d has the first i VMs of c and no slot
record Begun (c d : Config) (i : ℕ) : Type 0 where
  count : d.count ≡ c.count
  room : d.room ≡ c.room
  slots : d.slots ≡ 0
  entries : Filled d.entries c.entries i
  handlers : Filled d.handlers c.handlers i
  owners : Filled d.owners c.owners 0
  durations : Filled d.durations c.durations 0

served_of : (c : Config) → Legal c → vms_served c ≡ true
unfolding vms_served has_slot
served_of c l = every_of _ c.count (λ v h. (let s = l.served v h in some_of _ c.slots s.0 s.1 (eq-eqb (owner_at c s.0) v s.2)))

module _ (c : Config) (t : Typed c) (e : legal c ≡ true) where
  l : Legal c
  l = legal_is c e

  end_trip : (at : ℕ) → read_end (4 ∷ []) at c ≡ accepted c
  unfolding read_end
  end_trip at = rw (served_of c l)

  cut_end : (d : Config) → Cut c d → d.slots ≡ c.slots → d ≡ c
  cut_end d u h =
      same_config d c u.count u.room h u.entries u.handlers
      (fill_end u.owners (λ k a b. (l.slots_empty k (omega arith) (omega (arith, t.sized.owners))).0))
      (fill_end u.durations (λ k a b. (l.slots_empty k (omega arith) (omega (arith, t.sized.durations))).1))
      u.regions

  cut_more : (d : Config) (o n : ℕ) → Cut c d → d.slots < 64 → o ≡ owner_at c d.slots → n ≡ duration_at c d.slots → Cut c (with_slot d o n)
  cut_more d o n u h f g = record {
    count = u.count;
    room = u.room;
    entries = u.entries;
    handlers = u.handlers;
    owners = fill_more o u.owners (omega (arith, t.sized.owners)) f;
    durations = fill_more n u.durations (omega (arith, t.sized.durations)) g;
    regions = u.regions;
  }

  slots_trip : (m r at : ℕ) (d : Config) → d.slots + m ≡ c.slots → d.slots + r ≡ 64 → Cut c d → read_slots (suc r) (runs (slot_of c) d.slots m ++ (4 ∷ [])) at d ≡ accepted c
  unfolding runs
  slots_trip zero r at d h k u = slots_ends r (4 ∷ []) at d refl ∙ ap (read_end (4 ∷ []) at) (cut_end d u (omega arith)) ∙ end_trip at
  slots_trip (suc m) zero at d h k u = absurd (omega (arith, l.table.1))
  slots_trip (suc m) (suc r) at d h k u =
      let n = d.slots in
      let o = owner_at c n in
      let x = duration_at c n in
      let b : n < c.slots = omega arith in
      let rest = runs (slot_of c) (n + 1) m ++ (4 ∷ []) in
      let one = owner_one c.count o x (l.owned n b) (l.spares n b) (l.named n b) in
      let f : slot_fault d.count n (slot_bytes o x ++ rest) ≡ 0 = rw u.count (slot_one c.count n o x rest (omega arith) (t.duration n) one) in
      slots_goes (suc r) (slot_bytes o x ++ rest) at d (λ z. omega arith) f
      ∙ slots_trip m r (at + 4) (with_slot d o (half (slot_bytes o x ++ rest) 2)) (omega arith) (omega arith) (cut_more d o _ u (omega arith) refl (half_whole x (t.duration n)))

  begun_end : (d : Config) (i : ℕ) → i ≡ c.count → Begun c d i → Cut c (with_regions d c.regions)
  begun_end d i j u = record {
    count = u.count;
    room = u.room;
    entries = fill_end u.entries (λ k a b. (l.vms_empty k (omega arith) (omega (arith, t.sized.entries))).0);
    handlers = fill_end u.handlers (λ k a b. (l.vms_empty k (omega arith) (omega (arith, t.sized.handlers))).1);
    owners = rw u.slots u.owners;
    durations = rw u.slots u.durations;
    regions = refl;
  }

  held_end : (r : Regions) → Held r c.regions → r.count ≡ c.regions.count → r ≡ c.regions
  held_end r u h =
      same_regions r c.regions h
      (fill_end u.holders (λ k a b. (l.regions.bytes_empty k (omega arith) (omega (arith, t.sized.regions.holders))).0))
      (fill_end u.permissions (λ k a b. (l.regions.bytes_empty k (omega arith) (omega (arith, t.sized.regions.permissions))).1))
      (fill_end u.starts (λ k a b. (l.regions.words_empty k (omega arith) (omega (arith, t.sized.regions.starts))).0))
      (fill_end u.lasts (λ k a b. (l.regions.words_empty k (omega arith) (omega (arith, t.sized.regions.lasts))).1))

  held_more : (r : Regions) (h p s x : ℕ) → Held r c.regions → r.count < 64
      → h ≡ holder_at c.regions r.count → p ≡ permission_at c.regions r.count → s ≡ start_at c.regions r.count → x ≡ last_at c.regions r.count → Held (with_region r h p s x) c.regions
  held_more r h p s x u m e f g k = record {
    holders = fill_more h u.holders (omega (arith, t.sized.regions.holders)) e;
    permissions = fill_more p u.permissions (omega (arith, t.sized.regions.permissions)) f;
    starts = fill_more s u.starts (omega (arith, t.sized.regions.starts)) g;
    lasts = fill_more x u.lasts (omega (arith, t.sized.regions.lasts)) k;
  }

  held_first : Held none c.regions
  held_first = record {
    holders = fill_none c.regions.holders 64 t.sized.regions.holders;
    permissions = fill_none c.regions.permissions 64 t.sized.regions.permissions;
    starts = fill_none c.regions.starts 64 t.sized.regions.starts;
    lasts = fill_none c.regions.lasts 64 t.sized.regions.lasts;
  }

  -- the next region has no fault behind those before it
  region_fits : (d : Config) (r : Regions) (rest : List ℕ) → d.count ≡ c.count → Held r c.regions → r.count < c.regions.count
      → region_fault d.count r (region_of c.regions r.count ++ rest) ≡ 0
  region_fits d r rest e u h =
      let g = c.regions in
      let n = r.count in
      let x = next_of c.count g l.regions l.vms.1 n h in
      let b = held_begins r g u in
      rw e
      (region_one c.count r (holder_at g n) (permission_at g n) (start_at g n) (last_at g n) rest (t.regions.start n) (t.regions.last n)
      (place_one c.count r (holder_at g n) (permission_at g n) (start_at g n) (last_at g n) x.named (omega (arith, l.regions.few)) (next_room c.count r g b x) x.permitted x.ordered (next_agrees c.count r g b x)))

  regions_trip : (m n at : ℕ) (d : Config) (r : Regions) → r.count + m ≡ c.regions.count → r.count + n ≡ 64 → Held r c.regions → Begun c d c.count
      → read_regions (suc n) (runs (region_of c.regions) r.count m ++ slots_form c) at d r ≡ accepted c
  unfolding runs
  regions_trip zero n at d r h k u v =
      regions_past n (slots_form c) at d r (slots_kind c c.slots)
      ∙ ap (λ (x : Regions). read_slots 65 (slots_form c) at (with_regions d x)) (held_end r u (omega arith))
      ∙ ap (λ (j : ℕ). read_slots 65 (runs (slot_of c) j c.slots ++ (4 ∷ [])) at (with_regions d c.regions)) (sym v.slots)
      ∙ slots_trip c.slots 64 at (with_regions d c.regions) (omega (arith, v.slots)) (omega (arith, v.slots)) (begun_end d c.count refl v)
  regions_trip (suc m) zero at d r h k u v = absurd (omega (arith, l.regions.few))
  regions_trip (suc m) (suc n) at d r h k u v =
      let g = c.regions in
      let i = r.count in
      let rest = runs (region_of g) (i + 1) m ++ slots_form c in
      regions_goes (suc n) (region_of g i ++ rest) at d r refl (region_fits d r rest v.count u (omega arith))
      ∙ regions_trip m n (at + 11) d (with_region r (holder_at g i) (permission_at g i) (word (region_of g i ++ rest) 3) (word (region_of g i ++ rest) 7)) (omega arith) (omega arith)
      (held_more r _ _ _ _ u (omega arith) refl refl (word_whole (start_at g i) (t.regions.start i)) (word_whole (last_at g i) (t.regions.last i))) v

  begun_more : (d : Config) (i a b : ℕ) → Begun c d i → i < 8 → a ≡ entry_at c i → b ≡ handler_at c i → Begun c (with_vm d i a b) (i + 1)
  begun_more d i a b u h f g = record {
    count = u.count;
    room = u.room;
    slots = u.slots;
    entries = fill_more a u.entries (omega (arith, t.sized.entries)) f;
    handlers = fill_more b u.handlers (omega (arith, t.sized.handlers)) g;
    owners = u.owners;
    durations = u.durations;
  }

  vms_trip : (m i at : ℕ) (d : Config) → i + m ≡ c.count → Begun c d i → read_vms m (runs (vm_of c) i m ++ (runs (region_of c.regions) 0 c.regions.count ++ slots_form c)) at d ≡ accepted c
  unfolding runs read_vms
  vms_trip zero i at d h u =
      let j : i ≡ c.count = omega arith in
      regions_trip c.regions.count 64 at d none (omega arith) (omega arith) held_first (subst (Begun c d) j u)
  vms_trip (suc m) i at d h u =
      let a = entry_at c i in
      let b = handler_at c i in
      let rest = runs (vm_of c) (i + 1) m ++ (runs (region_of c.regions) 0 c.regions.count ++ slots_form c) in
      let j : d.count - suc m ≡ i = omega (arith, u.count) in
      vms_goes m (vm_bytes a b ++ rest) at d (vm_one a b rest)
      ∙ ap (λ (k : ℕ). read_vms m rest (at + 9) (with_vm d k (word (vm_bytes a b ++ rest) 1) (word (vm_bytes a b ++ rest) 5))) j
      ∙ vms_trip m (i + 1) (at + 9) (with_vm d i _ _) (omega arith) (begun_more d i _ _ u (omega (arith, l.vms.1)) (word_whole a (t.entry i)) (word_whole b (t.handler i)))

  begun_first : Begun c (begun c.count c.room) 0
  begun_first = record {
    count = refl;
    room = refl;
    slots = refl;
    entries = fill_none c.entries 8 t.sized.entries;
    handlers = fill_none c.handlers 8 t.sized.handlers;
    owners = fill_none c.owners 64 t.sized.owners;
    durations = fill_none c.durations 64 t.sized.durations;
  }

  -- reading what is written gives the configuration
  pub trip : read_image (image c) ≡ accepted c
  unfolding read_image
  trip =
      let rest = runs (vm_of c) 0 c.count ++ (runs (region_of c.regions) 0 c.regions.count ++ slots_form c) in
      ap read_image (image_form c)
      ∙ rw (core_one c.count c.room rest l.vms.0 l.vms.1 l.queue) (vms_trip c.count 0 3 (begun c.count c.room) (omega arith) begun_first)
