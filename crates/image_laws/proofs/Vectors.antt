-- Each image of the table gets the answer that stands beside it, by computation.
use Prim.Native.Nat.{ℕ}
use lib.Dec.{eqb}
use mathlib.Core.List.{List, map}
use mathlib.Core.Path.{refl, ◌≡◌}
use Rattle.basis.specs.Bounds.{zeros}
use Rattle.basis.specs.Choice.{pick}
use Rattle.basis.specs.Count.{every, how_many, joined, some}
use Rattle.config.specs.Sizes.{access, durations_fit, has_slot, legal, owners_fit, slots_rest, vms_rest, vms_served}
use Rattle.image_laws.specs.RegionVectors.{Asked, asked, region_rows}
use Rattle.image_laws.specs.Vectors.{Row, rows}
use Rattle.image_reader.specs.Reader.{read_end, read_image, read_regions, read_slots, read_vms}
use Rattle.image_reader.specs.Records.{core_fault, owner_fault, place_fault, region_fault, slot_fault, vm_fault}
use Rattle.image_writer.specs.Writer.{image, records_bytes}
use Rattle.grants.specs.Access.{allowed, allows, granted, granted_all}
use Rattle.regions.specs.Beside.{agrees_all}
use Rattle.regions.specs.Rules.{alike_all, all_agree, bytes_rest, few_each, held, holders_fit, kept, lawful, permissions_fit, ranges_fit, words_rest}

-- I8, I9, I13, S9, X1, P6 to P8, and what a missing image prints (N8): it has no bytes, as that of P6
pub table : map (λ (r : Row). read_image r.bytes) rows ≡ map (λ (r : Row). r.answer) rows
unfolding rows read_image read_vms read_regions read_slots read_end core_fault vm_fault slot_fault owner_fault vms_served has_slot every some joined
table = refl

-- H1 to H11, I8, I9, I15, S9: and so with regions, and each query that stands there
pub region_table : (map (λ (r : Row). read_image r.bytes) region_rows ≡ map (λ (r : Row). r.answer) region_rows)
    × (map (λ (q : Asked). access q.config q.vm q.address q.length q.way) asked ≡ map (λ (q : Asked). q.says) asked)
unfolding region_rows asked access allowed granted_all granted allows legal durations_fit owners_fit vms_rest slots_rest lawful kept holders_fit permissions_fit ranges_fit few_each held how_many all_agree alike_all bytes_rest words_rest zeros agrees_all region_fault place_fault read_image read_vms read_regions read_slots read_end core_fault vm_fault slot_fault owner_fault vms_served has_slot every some joined
region_table = (refl, refl)

-- and each configuration in it gives its image
abbrev again : Row → List ℕ
again r = pick (eqb r.answer.fault 0) (image r.answer.config) r.bytes

pub table_again : (map again rows ≡ map (λ (r : Row). r.bytes) rows) × (map again region_rows ≡ map (λ (r : Row). r.bytes) region_rows)
unfolding rows region_rows image records_bytes joined
table_again = (refl, refl)
