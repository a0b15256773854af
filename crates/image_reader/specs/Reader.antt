-- Reading an image, record by record from the front (I6 to I10).
use Rattle.std.specs.Prelude.{suc, zero, ℕ, ◌+◌, ◌-◌, eqb, drop, get_or, length, replicate, set, List, Result, Ok, Err}
use Rattle.basis.specs.Choice.{pick}
use Rattle.basis.specs.Numbers.{half, word}
use Rattle.config.specs.Sizes.{vms_served}
use Rattle.config.specs.declared.Config.{Config}
use Rattle.image_reader.specs.Faults.{fault_number}
use Rattle.image_reader.specs.Records.{core_fault, kind_is, region_fault, slot_fault, vm_fault}
use Rattle.image_reader.specs.Reading.{Reading}
use Rattle.image_reader.specs.declared.fault.Refused.{Refused}
use Rattle.regions.specs.Beside.{with_region}
use Rattle.regions.specs.Rules.{none}
use Rattle.regions.specs.declared.Regions.{Regions}

-- I2: the configuration that a core record begins
abbrev pub begun : ℕ → ℕ → Config
begun count room = record { count = count; room = room; slots = 0; entries = replicate 8 0; handlers = replicate 8 0; owners = replicate 64 0; durations = replicate 64 0; regions = none }

-- zeros only: what a refused image hands out (I10)
abbrev pub no_config : Config
no_config = begun 0 0

-- I7, I10: refused, the fault with its offset and no configuration
abbrev pub refused : ℕ → ℕ → Reading
refused fault at = record { fault = fault; offset = at; config = no_config }

abbrev pub accepted : Config → Reading
accepted c = record { fault = 0; offset = 0; config = c }

-- what the reader's `Result` says
abbrev pub reading_of : Result Config Refused → Reading
reading_of (Ok c) = accepted c
reading_of (Err r) = refused (fault_number r.fault) r.offset

-- I7: the first fault is the answer; where there is none, it goes on
abbrev pub onward : ℕ → ℕ → Reading → Reading
onward fault at next = pick (eqb fault 0) next (refused fault at)

-- I3: with VM k
abbrev pub with_vm : Config → ℕ → ℕ → ℕ → Config
with_vm c k entry handler = record { count = c.count; room = c.room; slots = c.slots; entries = set c.entries k entry; handlers = set c.handlers k handler; owners = c.owners; durations = c.durations; regions = c.regions }

-- I4: with one slot more
abbrev pub with_slot : Config → ℕ → ℕ → Config
with_slot c owner ticks = record { count = c.count; room = c.room; slots = c.slots + 1; entries = c.entries; handlers = c.handlers; owners = set c.owners c.slots owner; durations = set c.durations c.slots ticks; regions = c.regions }

-- I15: with the regions
abbrev pub with_regions : Config → Regions → Config
with_regions c r = record { count = c.count; room = c.room; slots = c.slots; entries = c.entries; handlers = c.handlers; owners = c.owners; durations = c.durations; regions = r }

-- I5, I8: the end record at the front of bs
unfoldable pub read_end : List ℕ → ℕ → Config → Reading
read_end bs at c =
    pick (vms_served c)
    (pick (eqb (length bs) 1) (accepted c) (refused 28 (at + 1)))
    (refused 27 at)

-- I6, I8, I13: slots and the end record from the front of bs, which stands at offset `at`; c is what was read before, and there is room for so many slots, a refused one with them
unfoldable pub read_slots : ℕ → List ℕ → ℕ → Config → Reading
read_slots zero bs at c = refused 26 at
read_slots (suc room) bs at c =
    pick (kind_is 4 bs) (read_end bs at c)
    (onward (slot_fault c.count c.slots bs) at
    (read_slots room (drop 4 bs) (at + 4) (with_slot c (get_or bs 1 0) (half bs 2))))

-- I6, I8, I15: region records from the front of bs, and all that follows; r are the regions read so far, and there is room for so many more, a refused one with them
unfoldable pub read_regions : ℕ → List ℕ → ℕ → Config → Regions → Reading
read_regions zero bs at c r = refused 35 at
read_regions (suc room) bs at c r =
    pick (kind_is 5 bs)
    (onward (region_fault c.count r bs) at
    (read_regions room (drop 11 bs) (at + 11) c (with_region r (get_or bs 1 0) (get_or bs 2 0) (word bs 3) (word bs 7))))
    (read_slots 65 bs at (with_regions c r))

-- S1, I6, I13: the VMs that are still to come, numbered in their order, and all that follows
unfoldable pub read_vms : ℕ → List ℕ → ℕ → Config → Reading
read_vms zero bs at c = read_regions 65 bs at c none
read_vms (suc n) bs at c =
    onward (vm_fault bs) at
    (read_vms n (drop 9 bs) (at + 9) (with_vm c (c.count - suc n) (word bs 1) (word bs 5)))

-- I6, I7, I14: the whole image, of any number of bytes, from front to back
unfoldable pub read_image : List ℕ → Reading
read_image bs = onward (core_fault bs) 0 (read_vms (get_or bs 1 0) (drop 3 bs) 3 (begun (get_or bs 1 0) (get_or bs 2 0)))
