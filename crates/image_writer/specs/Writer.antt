-- Writing an image (I2 to I6, I11, I12, I15).
use Rattle.std.specs.Prelude.{ℕ, ltb, drop, length, List, Result, Ok, Err, [], ◌++◌, ◌∷◌}
use Rattle.basis.specs.Choice.{pick}
use Rattle.basis.specs.Count.{joined}
use Rattle.basis.specs.Numbers.{half_bytes, word_bytes}
use Rattle.config.specs.Sizes.{duration_at, entry_at, handler_at, legal, owner_at}
use Rattle.config.specs.declared.Config.{Config}
use Rattle.image_writer.specs.Refusals.{refusal_number}
use Rattle.image_writer.specs.Written.{Written}
use Rattle.image_writer.specs.declared.Unwritten.{Unwritten}
use Rattle.regions.specs.Rules.{holder_at, last_at, permission_at, start_at}
use Rattle.regions.specs.declared.Regions.{Regions}

-- I2
abbrev pub core_bytes : ℕ → ℕ → List ℕ
core_bytes count room = 1 ∷ count ∷ room ∷ []

-- I3
abbrev pub vm_bytes : ℕ → ℕ → List ℕ
vm_bytes entry handler = 2 ∷ (word_bytes entry ++ word_bytes handler)

-- I15
abbrev pub region_bytes : ℕ → ℕ → ℕ → ℕ → List ℕ
region_bytes holder permission start last = 5 ∷ holder ∷ permission ∷ (word_bytes start ++ word_bytes last)

-- I4
abbrev pub slot_bytes : ℕ → ℕ → List ℕ
slot_bytes owner ticks = 3 ∷ owner ∷ half_bytes ticks

-- the records of all VMs, of all regions, and of all slots
abbrev pub vms_bytes : Config → List ℕ
vms_bytes c = joined (λ k. vm_bytes (entry_at c k) (handler_at c k)) c.count

abbrev pub regions_bytes : Regions → List ℕ
regions_bytes r = joined (λ k. region_bytes (holder_at r k) (permission_at r k) (start_at r k) (last_at r k)) r.count

abbrev pub slots_bytes : Config → List ℕ
slots_bytes c = joined (λ k. slot_bytes (owner_at c k) (duration_at c k)) c.slots

-- I6: all records but the last
unfoldable pub records_bytes : Config → List ℕ
records_bytes c = core_bytes c.count c.room ++ (vms_bytes c ++ (regions_bytes c.regions ++ slots_bytes c))

-- I1, I5, I6: the whole image
unfoldable pub image : Config → List ℕ
image c = records_bytes c ++ (4 ∷ [])

abbrev pub unwritten : ℕ → Written
unwritten refusal = record { refusal = refusal; size = 0 }

abbrev pub written : ℕ → Written
written size = record { refusal = 0; size = size }

-- what the writer's `Result` says
abbrev pub written_of : Result ℕ Unwritten → Written
written_of (Ok size) = written size
written_of (Err u) = unwritten (refusal_number u)

-- I11, I12: the writer's answer, for a buffer of n bytes
unfoldable pub answer_for : Config → ℕ → Written
answer_for c n =
    pick (legal c)
    (pick (ltb n (length (image c))) (unwritten 30) (record { refusal = 0; size = length (image c) }))
    (unwritten 31)

-- I11, I12: what the buffer b then holds
unfoldable pub buffer_after : Config → List ℕ → List ℕ
buffer_after c b =
    pick (legal c)
    (pick (ltb (length b) (length (image c))) b (image c ++ drop (length (image c)) b))
    b
