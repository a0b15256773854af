-- What a reading can be: accepted as a whole, or refused with no configuration.
use Prim.Native.Nat.{suc, zero, ℕ, ◌+◌, ◌-◌}
use borrow.Author.Tests.{eqb-false}
use lib.Dec.{eqb}
use lib.ListN.{drop, get_or, length}
use mathlib.Core.List.{List}
use mathlib.Core.Logic.{inl, inr, ◌⊎◌, ⊎_elim}
use mathlib.Core.Path.{ap, refl, ◌≡◌}
use native.Mathlib.Omega.{arith}
use Rattle.basis.proofs.Laws.{pick_case}
use Rattle.basis.specs.Numbers.{half, word}
use Rattle.config.specs.Sizes.{vms_served}
use Rattle.config.specs.declared.Config.{Config}
use Rattle.image_reader.specs.Reader.{accepted, begun, no_config, onward, read_end, read_image, read_regions, read_slots, read_vms, refused, with_regions, with_slot, with_vm}
use Rattle.image_reader.specs.Records.{core_fault, kind_is, region_fault, slot_fault, vm_fault}
use Rattle.image_reader.specs.Reading.{Reading}
use Rattle.regions.specs.Beside.{with_region}
use Rattle.regions.specs.Rules.{none}
use Rattle.regions.specs.declared.Regions.{Regions}

-- fault 0 at offset 0, or another fault and zeros only
Plain : Reading → Type 0
Plain r = (r ≡ accepted r.config) ⊎ ((r.fault ≡ 0 → ⊥) × (r.config ≡ no_config))

plain_accepted : (c : Config) → Plain (accepted c)
unfolding Plain
plain_accepted c = inl refl

plain_refused : (f at : ℕ) → (f ≡ 0 → ⊥) → Plain (refused f at)
unfolding Plain
plain_refused f at h = inr (h, refl)

plain_onward : (f at : ℕ) (r : Reading) → Plain r → Plain (onward f at r)
plain_onward f at r p = pick_case Plain (eqb f 0) r (refused f at) (λ e. p) (λ e. plain_refused f at (eqb-false f 0 e))

plain_end : (bs : List ℕ) (at : ℕ) (c : Config) → Plain (read_end bs at c)
unfolding read_end
plain_end bs at c =
    pick_case Plain (vms_served c) _ _
    (λ e. pick_case Plain (eqb (length bs) 1) _ _ (λ f. plain_accepted c) (λ f. plain_refused 28 (at + 1) (λ z. omega arith)))
    (λ e. plain_refused 27 at (λ z. omega arith))

plain_slots : (m : ℕ) (bs : List ℕ) (at : ℕ) (c : Config) → Plain (read_slots m bs at c)
unfolding read_slots
plain_slots zero bs at c = plain_refused 26 at (λ z. omega arith)
plain_slots (suc m) bs at c =
    pick_case Plain (kind_is 4 bs) _ _
    (λ e. plain_end bs at c)
    (λ e. plain_onward (slot_fault c.count c.slots bs) at _ (plain_slots m (drop 4 bs) (at + 4) (with_slot c (get_or bs 1 0) (half bs 2))))

plain_regions : (m : ℕ) (bs : List ℕ) (at : ℕ) (c : Config) (r : Regions) → Plain (read_regions m bs at c r)
unfolding read_regions
plain_regions zero bs at c r = plain_refused 35 at (λ z. omega arith)
plain_regions (suc m) bs at c r =
    pick_case Plain (kind_is 5 bs) _ _
    (λ e. plain_onward (region_fault c.count r bs) at _ (plain_regions m (drop 11 bs) (at + 11) c (with_region r (get_or bs 1 0) (get_or bs 2 0) (word bs 3) (word bs 7))))
    (λ e. plain_slots 65 bs at (with_regions c r))

plain_vms : (m : ℕ) (bs : List ℕ) (at : ℕ) (c : Config) → Plain (read_vms m bs at c)
unfolding read_vms
plain_vms zero bs at c = plain_regions 65 bs at c none
plain_vms (suc m) bs at c = plain_onward (vm_fault bs) at _ (plain_vms m (drop 9 bs) (at + 9) (with_vm c (c.count - suc m) (word bs 1) (word bs 5)))

plain_image : (bs : List ℕ) → Plain (read_image bs)
unfolding read_image
plain_image bs = plain_onward (core_fault bs) 0 _ (plain_vms (get_or bs 1 0) (drop 3 bs) 3 (begun (get_or bs 1 0) (get_or bs 2 0)))

pub answer_accepted : (bs : List ℕ) → (read_image bs).fault ≡ 0 → read_image bs ≡ accepted (read_image bs).config
unfolding Plain
answer_accepted bs e = ⊎_elim (λ h. h) (λ h. absurd (h.0 e)) (plain_image bs)

pub answer_refused : (bs : List ℕ) → ((read_image bs).fault ≡ 0 → ⊥) → (read_image bs).config ≡ no_config
unfolding Plain
answer_refused bs h = ⊎_elim (λ e. absurd (h (ap (λ (r : Reading). r.fault) e))) (λ e. e.1) (plain_image bs)
