-- I8: the numbers of the faults.
use Rattle.std.specs.Prelude.{ℕ, Result, Ok, Err, ⊤}
use Rattle.image_reader.specs.declared.fault.Fault.{Fault}
use Rattle.image_reader.specs.declared.fault.Fault.TheVariants.{Cut, Kind, Sizes, SlotVm, SpareTicks, NamedTicks, ManySlots, Unserved, Follows, RegionVm, Permission, Backwards, ManyRegions, Overlap}

abbrev pub fault_number : Fault → ℕ
fault_number Cut = 20
fault_number Kind = 21
fault_number Sizes = 22
fault_number SlotVm = 23
fault_number SpareTicks = 24
fault_number NamedTicks = 25
fault_number ManySlots = 26
fault_number Unserved = 27
fault_number Follows = 28
fault_number RegionVm = 32
fault_number Permission = 33
fault_number Backwards = 34
fault_number ManyRegions = 35
fault_number Overlap = 36

-- the number of the fault that a test found, 0 for none
abbrev pub fault_of : Result ⊤ Fault → ℕ
fault_of (Ok _) = 0
fault_of (Err f) = fault_number f
