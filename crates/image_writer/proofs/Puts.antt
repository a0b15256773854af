-- Records put into a buffer.
use Prim.Native.Nat.{ℕ, ◌*◌, ◌+◌, ◌-◌, ◌<◌, ◌≤◌}
use borrow.Author.Tests.{le-ltb, lt-ltb}
use lib.ListN.{length, length-append, set}
use mathlib.Core.Bool.{Bool, false, true}
use mathlib.Core.List.{List, append_assoc, [], ◌++◌, ◌∷◌}
use mathlib.Core.Path.{ap, refl, sym, ◌∙◌, ◌≡◌}
use native.Mathlib.Omega.{arith}
use Rattle.basis.proofs.Buffer.{joined_length, put_all_front, put_all_join}
use Rattle.basis.specs.Buffer.{put_all}
use Rattle.basis.specs.Numbers.{half_bytes, word_bytes}
use Rattle.config.specs.Sizes.{duration_at, entry_at, handler_at, legal, owner_at}
use Rattle.config.specs.declared.Config.{Config}
use Rattle.image_writer.specs.Writer.{answer_for, buffer_after, core_bytes, image, records_bytes, region_bytes, regions_bytes, slot_bytes, slots_bytes, unwritten, vm_bytes, vms_bytes, written}
use Rattle.regions.specs.Rules.{holder_at, last_at, permission_at, start_at}
use Rattle.regions.specs.declared.Regions.{Regions}

pub vm_put : (b x y : List ℕ) (at e h : ℕ) → x ≡ put_all (set b at 2) (at + 1) (word_bytes e) → y ≡ put_all x (at + 5) (word_bytes h) → y ≡ put_all b at (vm_bytes e h)
unfolding put_all
vm_put b x y at e h f g =
    let j : at + 5 ≡ at + 1 + 4 = omega arith in
    g ∙ rw (f, j) (put_all_join (word_bytes e) (word_bytes h) (set b at 2) (at + 1) 4 refl)

pub region_put : (b x y : List ℕ) (at h p s l : ℕ) → x ≡ put_all (set (set (set b at 5) (at + 1) h) (at + 2) p) (at + 3) (word_bytes s) → y ≡ put_all x (at + 7) (word_bytes l)
    → y ≡ put_all b at (region_bytes h p s l)
unfolding put_all
region_put b x y at h p s l f g =
    let j : at + 7 ≡ at + 3 + 4 = omega arith in
    let i : at + 3 ≡ at + 1 + 1 + 1 = omega arith in
    let two : at + 2 ≡ at + 1 + 1 = omega arith in
    g ∙ rw (f, j, put_all_join (word_bytes s) (word_bytes l) (set (set (set b at 5) (at + 1) h) (at + 2) p) (at + 3) 4 refl, i, two)

pub slot_put : (b y : List ℕ) (at owner ticks : ℕ) → y ≡ put_all (set (set b at 3) (at + 1) owner) (at + 2) (half_bytes ticks) → y ≡ put_all b at (slot_bytes owner ticks)
unfolding put_all
slot_put b y at owner ticks g =
    let j : at + 2 ≡ at + 1 + 1 = omega arith in
    g ∙ ap (λ (k : ℕ). put_all (set (set b at 3) (at + 1) owner) k (half_bytes ticks)) j

vms_length : (c : Config) → length (vms_bytes c) ≡ c.count * 9
vms_length c = joined_length (λ k. vm_bytes (entry_at c k) (handler_at c k)) 9 (λ k. refl) c.count

regions_length : (r : Regions) → length (regions_bytes r) ≡ r.count * 11
regions_length r = joined_length (λ k. region_bytes (holder_at r k) (permission_at r k) (start_at r k) (last_at r k)) 11 (λ k. refl) r.count

slots_length : (c : Config) → length (slots_bytes c) ≡ c.slots * 4
slots_length c = joined_length (λ k. slot_bytes (owner_at c k) (duration_at c k)) 4 (λ k. refl) c.slots

-- all records but the last
pub records_put : (c : Config) (b b1 b2 b3 b4 : List ℕ) → b1 ≡ put_all b 0 (core_bytes c.count c.room) → b2 ≡ put_all b1 3 (vms_bytes c)
    → b3 ≡ put_all b2 (3 + c.count * 9) (regions_bytes c.regions) → b4 ≡ put_all b3 (3 + c.count * 9 + c.regions.count * 11) (slots_bytes c)
    → b4 ≡ put_all b 0 (records_bytes c)
unfolding records_bytes
records_put c b b1 b2 b3 b4 e f g h =
    let first = core_bytes c.count c.room in
    let held = regions_bytes c.regions in
    let j : 3 + c.count * 9 ≡ 0 + (3 + c.count * 9) = omega arith in
    let k : 0 + (3 + c.count * 9) + c.regions.count * 11 ≡ 0 + (3 + c.count * 9 + c.regions.count * 11) = omega arith in
    let two : length (first ++ vms_bytes c) ≡ 3 + c.count * 9 = length-append first (vms_bytes c) ∙ ap (λ (k : ℕ). 3 + k) (vms_length c) in
    let three : length ((first ++ vms_bytes c) ++ held) ≡ 3 + c.count * 9 + c.regions.count * 11 = omega (arith, length-append (first ++ vms_bytes c) held, two, regions_length c.regions) in
    h
    ∙ rw (g, f, e, put_all_join first (vms_bytes c) b 0 3 refl, j, put_all_join (first ++ vms_bytes c) held b 0 (3 + c.count * 9) two, k, put_all_join ((first ++ vms_bytes c) ++ held) (slots_bytes c) b 0 (3 + c.count * 9 + c.regions.count * 11) three, append_assoc (first ++ vms_bytes c) held (slots_bytes c), append_assoc first (vms_bytes c) (held ++ slots_bytes c))

pub records_length : (c : Config) → length (records_bytes c) ≡ 3 + c.count * 9 + c.regions.count * 11 + c.slots * 4
unfolding records_bytes
records_length c =
    omega (arith, length-append (vms_bytes c) (regions_bytes c.regions ++ slots_bytes c), length-append (regions_bytes c.regions) (slots_bytes c), vms_length c, regions_length c.regions, slots_length c)

-- the image is as long as the code says
pub image_length : (c : Config) → length (image c) ≡ 4 + c.count * 9 + c.regions.count * 11 + c.slots * 4
unfolding image
image_length c = omega (arith, length-append (records_bytes c) (4 ∷ []), records_length c)

-- the writer's three answers
module _ (c : Config) (b : List ℕ) where
  pub write_illegal : legal c ≡ false → (unwritten 31 ≡ answer_for c (length b)) × (b ≡ buffer_after c b)
  unfolding answer_for buffer_after
  write_illegal f = rw f (refl, refl)

  module _ (n : ℕ) (sized : n ≡ 4 + c.count * 9 + c.regions.count * 11 + c.slots * 4) (f : legal c ≡ true) where
    pub write_short : length b < n → (unwritten 30 ≡ answer_for c (length b)) × (b ≡ buffer_after c b)
    unfolding answer_for buffer_after
    write_short l = rw (f, lt-ltb (length b) (length (image c)) (omega (arith, image_length c))) (refl, refl)

    pub write_done : (b1 b2 : List ℕ) → n ≤ length b → b1 ≡ put_all b 0 (records_bytes c) → b2 ≡ set b1 (n - 1) 4
        → (written n ≡ answer_for c (length b)) × (b2 ≡ buffer_after c b)
    unfolding answer_for buffer_after image put_all
    write_done b1 b2 l p q =
        let h = le-ltb (length b) (length (image c)) (omega (arith, image_length c)) in
        let i : n ≡ length (image c) = omega (arith, image_length c) in
        let j : n - 1 ≡ 0 + length (records_bytes c) = omega (arith, records_length c) in
        rw (f, h) (
          ap written i,
          q ∙ rw (p, j) (put_all_join (records_bytes c) (4 ∷ []) b 0 (length (records_bytes c)) refl ∙ put_all_front b (image c) (omega arith)),
        )
