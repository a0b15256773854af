-- The test `legal` says what the record `Legal` says: S1 to S7 and H1 to H6 as facts about every place.
use Rattle.std.proofs.Common.{◌≡◌, ℕ, zero, suc, ◌<◌, ◌≤◌, Bool, true, false, eqb, ltb, leb, ◌⊎◌, sym, refl, ◌∙◌, inl, inr, ⊎_elim, ltb-true, lt-ltb, eq-eqb, ne_eqb, eqb-true, le-leb, leb-true}
use borrow.Author.Tests.{eqb-false}
use Rattle.basis.proofs.Bounds.{empty_is, empty_of, within_is, within_of}
use Rattle.basis.proofs.Laws.{both_left, both_no, both_of, both_right, both_yes, either_is, either_left, either_right, every_is, every_of, pick_case, some_is, some_of}
use Rattle.basis.specs.Bounds.{within}
use Rattle.basis.specs.Choice.{both}
use Rattle.basis.specs.Count.{every}
use Rattle.basis.specs.Nobody.{nobody}
use Rattle.config.specs.Places.{places_fit}
use Rattle.config.specs.Sizes.{Legal, bare, duration_at, durations_fit, entry_at, handler_at, has_slot, lasts, legal, names, owner_at, owners_fit, room_fits, slots_fit, slots_rest, vms_fit, vms_rest, vms_served}
use Rattle.config.specs.declared.Config.{Config}
use Rattle.regions.proofs.Lawful.{lawful_is, lawful_of, none_lawful}
use Rattle.regions.specs.Rules.{lawful}

-- two rules about each slot are one rule about each slot
every_both : (p q : ℕ → Bool) (n : ℕ) → both (every p n) (every q n) ≡ every (λ k. both (p k) (q k)) n
unfolding every
every_both p q zero = refl
every_both p q (suc n) = go (p n) (q n) (every p n) (every q n) (every_both p q n)
  where
    go : (a b c d : Bool) → both c d ≡ every (λ k. both (p k) (q k)) n → both (both a c) (both b d) ≡ both (both a b) (every (λ k. both (p k) (q k)) n)
    go true true c d e = e
    go true false true d e = refl
    go true false false d e = refl
    go false b c d e = refl

-- the counts first, then the places: in this order the code tests what the definition says
pub legal_law : (c : Config) (a b : Bool) → lawful c.count c.regions ≡ true
    → a ≡ both (vms_fit c) (both (room_fits c) (slots_fit c))
    → b ≡ places_fit c.count c.slots c.entries c.handlers c.owners c.durations
    → both a b ≡ legal c
unfolding legal durations_fit owners_fit vms_served has_slot vms_rest slots_rest places_fit
legal_law c a b l e f =
    rw (e, f, l, ← every_both (λ k. lasts (owner_at c k) (duration_at c k)) (λ k. names c.count (owner_at c k)) c.slots)
    (go (vms_fit c) (room_fits c) (slots_fit c) (durations_fit c) (owners_fit c) (both (vms_served c) (both (vms_rest c) (slots_rest c))))
  where
    go : (x y z u v w : Bool) → both (both x (both y z)) (both (both u v) w) ≡ both x (both y (both z (both u (both v w))))
    go false y z u v w = refl
    go true false z u v w = refl
    go true true false u v w = refl
    go true true true false v w = refl
    go true true true true v w = refl

pub legal_both : (c : Config) (a b : Bool) → lawful c.count c.regions ≡ true
    → a ≡ both (vms_fit c) (both (room_fits c) (slots_fit c))
    → b ≡ places_fit c.count c.slots c.entries c.handlers c.owners c.durations
    → a ≡ true → b ≡ legal c
legal_both c a b l e f t = rw t at (legal_law c a b l e f)

pub legal_never : (c : Config) (a r : Bool) → lawful c.count c.regions ≡ true → a ≡ both (vms_fit c) (both (room_fits c) (slots_fit c)) → a ≡ false → r ≡ false → r ≡ legal c
legal_never c a r l e t f = f ∙ (rw t at (legal_law c a _ l e refl))

-- the regions apart from the rest
pub legal_apart : (c : Config) (x y : Bool) → x ≡ legal (bare c) → y ≡ lawful c.count c.regions → both y x ≡ legal c
unfolding legal durations_fit owners_fit vms_served has_slot vms_rest slots_rest
legal_apart c x y e f =
    rw (e, f, none_lawful c.count)
    (go (vms_fit c) (room_fits c) (slots_fit c) (lawful c.count c.regions) (both (durations_fit c) (both (owners_fit c) (both (vms_served c) (both (vms_rest c) (slots_rest c))))))
  where
    go : (v r s l w : Bool) → both l (both v (both r (both s w))) ≡ both v (both r (both s (both l w)))
    go true true true l w = refl
    go true true false l w = both_no l
    go true false s l w = both_no l
    go false r s l w = both_no l

pub legal_yes : (c : Config) (x y : Bool) → x ≡ legal (bare c) → x ≡ true → y ≡ lawful c.count c.regions → y ≡ legal c
legal_yes c x y e t f = sym (both_yes y) ∙ rw t at (legal_apart c x y e f)

pub legal_no : (c : Config) (x : Bool) → x ≡ legal (bare c) → x ≡ false → false ≡ legal c
legal_no c x e t = sym (both_no (lawful c.count c.regions)) ∙ rw t at (legal_apart c x _ e refl)

pub slots_64 : (count room slots : ℕ) (a : Bool) → a ≡ both (within 1 8 count) (both (leb room 16) (within 1 64 slots)) → a ≡ true → slots ≤ 64
slots_64 count room slots a e t =
    leb-true slots 64 (both_right (leb 1 slots) _ (both_right (leb room 16) _ (both_right (within 1 8 count) _ (sym e ∙ t))))

pub count_some : (count room slots : ℕ) (a : Bool) → a ≡ both (within 1 8 count) (both (leb room 16) (within 1 64 slots)) → a ≡ true → 1 ≤ count
count_some count room slots a e t = leb-true 1 count (both_left (leb 1 count) _ (both_left (within 1 8 count) _ (sym e ∙ t)))

pub count_8 : (count room slots : ℕ) (a : Bool) → a ≡ both (within 1 8 count) (both (leb room 16) (within 1 64 slots)) → a ≡ true → count ≤ 8
count_8 count room slots a e t = leb-true count 8 (both_right (leb 1 count) _ (both_left (within 1 8 count) _ (sym e ∙ t)))

lasts_spare : (o t : ℕ) → lasts o t ≡ true → o ≡ nobody → t ≡ 1
lasts_spare o t e s = eqb-true t 1 (rw (eq-eqb o nobody s) at e)

lasts_named : (o t : ℕ) → lasts o t ≡ true → (o ≡ nobody → ⊥) → (1 ≤ t) × (t ≤ 1000)
lasts_named o t e s = within_is 1 1000 t (rw (ne_eqb o nobody s) at e)

lasts_of : (o t : ℕ) → (o ≡ nobody → t ≡ 1) → ((o ≡ nobody → ⊥) → (1 ≤ t) × (t ≤ 1000)) → lasts o t ≡ true
lasts_of o t s n =
    pick_case (λ (b : Bool). b ≡ true) (eqb o nobody) (eqb t 1) (within 1 1000 t)
    (λ e. eq-eqb t 1 (s (eqb-true o nobody e)))
    (λ e. (let h = n (eqb-false o nobody e) in within_of 1 1000 t h.0 h.1))

names_is : (n o : ℕ) → names n o ≡ true → (o ≡ nobody) ⊎ (o < n)
names_is n o e = ⊎_elim (λ h. inl (eqb-true o nobody h)) (λ h. inr (ltb-true o n h)) (either_is (eqb o nobody) (ltb o n) e)

names_of : (n o : ℕ) → (o ≡ nobody) ⊎ (o < n) → names n o ≡ true
names_of n o = ⊎_elim (λ h. either_left (eqb o nobody) (ltb o n) (eq-eqb o nobody h)) (λ h. either_right (eqb o nobody) (ltb o n) (lt-ltb o n h))

-- the rules that the test joins
record Rules (c : Config) : Type 0 where
  vms : vms_fit c ≡ true
  queue : room_fits c ≡ true
  table : slots_fit c ≡ true
  regions : lawful c.count c.regions ≡ true
  durations : durations_fit c ≡ true
  owners : owners_fit c ≡ true
  served : vms_served c ≡ true
  vms_empty : vms_rest c ≡ true
  slots_empty : slots_rest c ≡ true

rules_is : (c : Config) → legal c ≡ true → Rules c
unfolding legal
rules_is c e =
    let e1 = both_right (vms_fit c) _ e in
    let e2 = both_right (room_fits c) _ e1 in
    let e3 = both_right (slots_fit c) _ e2 in
    let e4 = both_right (lawful c.count c.regions) _ e3 in
    let e5 = both_right (durations_fit c) _ e4 in
    let e6 = both_right (owners_fit c) _ e5 in
    let e7 = both_right (vms_served c) _ e6 in
    record {
      vms = both_left (vms_fit c) _ e;
      queue = both_left (room_fits c) _ e1;
      table = both_left (slots_fit c) _ e2;
      regions = both_left (lawful c.count c.regions) _ e3;
      durations = both_left (durations_fit c) _ e4;
      owners = both_left (owners_fit c) _ e5;
      served = both_left (vms_served c) _ e6;
      vms_empty = both_left (vms_rest c) _ e7;
      slots_empty = both_right (vms_rest c) _ e7;
    }

-- S1 to S7, H1 to H6: a configuration that passes the test keeps the rules
pub legal_is : (c : Config) → legal c ≡ true → Legal c
unfolding durations_fit owners_fit vms_served has_slot vms_rest slots_rest
legal_is c e =
    let r = rules_is c e in
    let long = every_is _ c.slots r.durations in
    let own = every_is _ c.slots r.owners in
    record {
      vms = within_is 1 8 c.count r.vms;
      queue = leb-true c.room 16 r.queue;
      table = within_is 1 64 c.slots r.table;
      spares = λ k h. lasts_spare (owner_at c k) (duration_at c k) (long k h);
      named = λ k h. lasts_named (owner_at c k) (duration_at c k) (long k h);
      owned = λ k h. names_is c.count (owner_at c k) (own k h);
      regions = lawful_is c.count c.regions r.regions;
      served = λ v h. (let s = some_is _ c.slots (every_is _ c.count r.served v h) in (s.0, s.1, eqb-true (owner_at c s.0) v s.2));
      vms_empty = λ k h l. empty_is c.count k (entry_at c k) (handler_at c k) (every_is _ 8 r.vms_empty k l) h;
      slots_empty = λ k h l. empty_is c.slots k (owner_at c k) (duration_at c k) (every_is _ 64 r.slots_empty k l) h;
    }

-- S1 to S7, H1 to H6: and a configuration that keeps the rules passes it
pub legal_of : (c : Config) → Legal c → legal c ≡ true
unfolding legal durations_fit owners_fit vms_served has_slot vms_rest slots_rest
legal_of c l =
    both_of (vms_fit c) _ (within_of 1 8 c.count l.vms.0 l.vms.1)
    (both_of (room_fits c) _ (le-leb c.room 16 l.queue)
    (both_of (slots_fit c) _ (within_of 1 64 c.slots l.table.0 l.table.1)
    (both_of (lawful c.count c.regions) _ (lawful_of c.count c.regions l.regions)
    (both_of (durations_fit c) _ (every_of _ c.slots (λ k h. lasts_of (owner_at c k) (duration_at c k) (l.spares k h) (l.named k h)))
    (both_of (owners_fit c) _ (every_of _ c.slots (λ k h. names_of c.count (owner_at c k) (l.owned k h)))
    (both_of (vms_served c) _ (every_of _ c.count (λ v h. (let s = l.served v h in some_of _ c.slots s.0 s.1 (eq-eqb (owner_at c s.0) v s.2))))
    (both_of (vms_rest c) _ (every_of _ 8 (λ k h. empty_of c.count k (entry_at c k) (handler_at c k) (λ m. l.vms_empty k m h)))
    (every_of _ 64 (λ k h. empty_of c.slots k (owner_at c k) (duration_at c k) (λ m. l.slots_empty k m h))))))))))
