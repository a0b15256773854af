-- The fault of the record at the front of some bytes, 0 for none: for each kind of record its tests in the order of I9.
use Rattle.std.specs.Prelude.{ℕ, eqb, leb, ltb, get_or, length, Bool, List}
use Rattle.basis.specs.Bounds.{within}
use Rattle.basis.specs.Choice.{both, pick, unless}
use Rattle.basis.specs.Numbers.{half, word}
use Rattle.config.specs.Sizes.{is_spare, names}
use Rattle.regions.specs.Beside.{agrees_all}
use Rattle.regions.specs.Rules.{held, known}
use Rattle.regions.specs.declared.Regions.{Regions}

-- I8: the bytes end before there are n
abbrev pub short : ℕ → List ℕ → Bool
short n bs = ltb (length bs) n

-- I1
abbrev pub kind_is : ℕ → List ℕ → Bool
kind_is kind bs = eqb (get_or bs 0 0) kind

-- I2, I8, I9: a core record
unfoldable pub core_fault : List ℕ → ℕ
core_fault bs =
    pick (short 1 bs) 20
    (unless (kind_is 1 bs) 21
    (pick (short 3 bs) 20
    (unless (both (within 1 8 (get_or bs 1 0)) (leb (get_or bs 2 0) 16)) 22 0)))

-- I3, I8, I9: a VM record
unfoldable pub vm_fault : List ℕ → ℕ
vm_fault bs =
    pick (short 1 bs) 20
    (unless (kind_is 2 bs) 21
    (pick (short 9 bs) 20 0))

-- I8, I9: the VM and the duration of a slot, in an image of `count` VMs
unfoldable pub owner_fault : ℕ → ℕ → ℕ → ℕ
owner_fault count owner ticks =
    unless (names count owner) 23
    (pick (is_spare owner)
    (unless (eqb ticks 1) 24 0)
    (unless (within 1 1000 ticks) 25 0))

-- I8, I9: what a region record says, in an image of so many VMs, behind the regions r; a list has room for 64 regions (H1), and 8 of each of 8 VMs fill it
unfoldable pub place_fault : ℕ → Regions → ℕ → ℕ → ℕ → ℕ → ℕ
place_fault vms r holder permission start last =
    unless (ltb holder vms) 32
    (unless (both (ltb r.count 64) (ltb (held r.holders holder r.count) 8)) 35
    (unless (known permission) 33
    (unless (leb start last) 34
    (unless (both (leb r.count 64) (agrees_all r holder permission start last)) 36 0))))

-- I8, I9, I15: a region record, whose kind is known
unfoldable pub region_fault : ℕ → Regions → List ℕ → ℕ
region_fault vms r bs = pick (short 11 bs) 20 (place_fault vms r (get_or bs 1 0) (get_or bs 2 0) (word bs 3) (word bs 7))

-- I4, I8, I9: a slot record, in an image of `count` VMs, with n slots before it
unfoldable pub slot_fault : ℕ → ℕ → List ℕ → ℕ
slot_fault count n bs =
    pick (short 1 bs) 20
    (unless (kind_is 3 bs) 21
    (pick (short 4 bs) 20
    (unless (ltb n 64) 26
    (owner_fault count (get_or bs 1 0) (half bs 2)))))
