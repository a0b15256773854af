-- No fault of an image stands far behind its front.
use Prim.Native.Nat.{suc, zero, ℕ, ◌*◌, ◌+◌, ◌-◌, ◌<◌, ◌^◌, ◌≤◌}
use borrow.Author.Tests.{eqb-true}
use lib.Dec.{eqb}
use lib.ListN.{drop, get_or, length}
use mathlib.Core.List.{List}
use mathlib.Core.Path.{◌≡◌}
use native.Mathlib.Omega.{arith}
use Rattle.basis.proofs.Laws.{pick_case}
use Rattle.basis.specs.Numbers.{half, word}
use Rattle.config.specs.Sizes.{vms_served}
use Rattle.config.specs.declared.Config.{Config}
use Rattle.image_reader.proofs.Turns.{core_passed}
use Rattle.image_reader.specs.Reader.{begun, read_end, read_image, read_regions, read_slots, read_vms, with_regions, with_slot, with_vm}
use Rattle.image_reader.specs.Records.{core_fault, kind_is, region_fault, slot_fault, vm_fault}
use Rattle.image_reader.specs.Reading.{Reading}
use Rattle.regions.specs.Beside.{with_region}
use Rattle.regions.specs.Rules.{none}
use Rattle.regions.specs.declared.Regions.{Regions}

end_offset : (bs : List ℕ) (at : ℕ) (c : Config) → (read_end bs at c).offset ≤ at + 1
unfolding read_end
end_offset bs at c =
    pick_case (λ (r : Reading). r.offset ≤ at + 1) (vms_served c) _ _
    (λ t. pick_case (λ (r : Reading). r.offset ≤ at + 1) (eqb (length bs) 1) _ _ (λ u. omega arith) (λ u. omega arith))
    (λ t. omega arith)

slots_offset : (n : ℕ) (bs : List ℕ) (at : ℕ) (c : Config) → (read_slots n bs at c).offset ≤ at + n * 4 + 1
unfolding read_slots
slots_offset zero bs at c = omega arith
slots_offset (suc n) bs at c =
    pick_case (λ (r : Reading). r.offset ≤ at + suc n * 4 + 1) (kind_is 4 bs) _ _
    (λ t. omega (arith, end_offset bs at c))
    (λ t. pick_case (λ (r : Reading). r.offset ≤ at + suc n * 4 + 1) (eqb (slot_fault c.count c.slots bs) 0) _ _
    (λ u. omega (arith, slots_offset n (drop 4 bs) (at + 4) (with_slot c (get_or bs 1 0) (half bs 2))))
    (λ u. omega arith))

regions_offset : (n : ℕ) (bs : List ℕ) (at : ℕ) (c : Config) (r : Regions) → (read_regions n bs at c r).offset ≤ at + n * 11 + 261
unfolding read_regions
regions_offset zero bs at c r = omega arith
regions_offset (suc n) bs at c r =
    pick_case (λ (q : Reading). q.offset ≤ at + suc n * 11 + 261) (kind_is 5 bs) _ _
    (λ t. pick_case (λ (q : Reading). q.offset ≤ at + suc n * 11 + 261) (eqb (region_fault c.count r bs) 0) _ _
    (λ u. omega (arith, regions_offset n (drop 11 bs) (at + 11) c (with_region r (get_or bs 1 0) (get_or bs 2 0) (word bs 3) (word bs 7))))
    (λ u. omega arith))
    (λ t. omega (arith, slots_offset 65 bs at (with_regions c r)))

vms_offset : (n : ℕ) (bs : List ℕ) (at : ℕ) (c : Config) → (read_vms n bs at c).offset ≤ at + n * 9 + 976
unfolding read_vms
vms_offset zero bs at c = omega (arith, regions_offset 65 bs at c none)
vms_offset (suc n) bs at c =
    pick_case (λ (r : Reading). r.offset ≤ at + suc n * 9 + 976) (eqb (vm_fault bs) 0) _ _
    (λ u. omega (arith, vms_offset n (drop 9 bs) (at + 9) (with_vm c (c.count - suc n) (word bs 1) (word bs 5))))
    (λ u. omega arith)

pub offset_small : (bs : List ℕ) (r : Reading) → r ≡ read_image bs → r.offset < 2 ^ 32
unfolding read_image
offset_small bs r e =
    rw e (pick_case (λ (q : Reading). q.offset < 2 ^ 32) (eqb (core_fault bs) 0) _ _
    (λ t. omega (arith, vms_offset (get_or bs 1 0) (drop 3 bs) 3 (begun (get_or bs 1 0) (get_or bs 2 0)), core_passed bs (eqb-true (core_fault bs) 0 t)))
    (λ t. omega arith))
