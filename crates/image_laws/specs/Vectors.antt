-- Images with the answer that each gets, one row for each: the vectors of the rules (X1, P6 to P8) and every fault of I8 but those of regions.
use Rattle.std.specs.Prelude.{ℕ, ◌%◌, ◌+◌, replicate, take, List, [], ◌++◌, ◌∷◌}
use Rattle.basis.specs.Count.{joined}
use Rattle.config.specs.declared.Config.{Config}
use Rattle.image_reader.specs.Reader.{accepted, refused}
use Rattle.image_reader.specs.Reading.{Reading}
use Rattle.regions.specs.Rules.{none}

-- an image and its answer
pub record Row : Type 0 where
  pub bytes : List ℕ
  pub answer : Reading

abbrev pub read_as : List ℕ → Reading → Row
read_as bs r = record { bytes = bs; answer = r }

-- l and zeros behind it, n places in all
abbrev pub padded : ℕ → List ℕ → List ℕ
padded n l = take n (l ++ replicate n 0)

abbrev pub config_of : ℕ → ℕ → ℕ → List ℕ → List ℕ → List ℕ → List ℕ → Config
config_of count room slots es hs os ds = record { count = count; room = room; slots = slots; entries = padded 8 es; handlers = padded 8 hs; owners = padded 64 os; durations = padded 64 ds; regions = none }

-- the records: a core of n VMs and a queue of q; a VM with entry 0x1000 and handler 0x1004; a slot of v for t ticks, t below 256; the end
abbrev pub core : ℕ → ℕ → List ℕ
core n q = 1 ∷ n ∷ q ∷ []

abbrev pub vm : List ℕ
vm = 2 ∷ 0 ∷ 16 ∷ 0 ∷ 0 ∷ 4 ∷ 16 ∷ 0 ∷ 0 ∷ []

abbrev pub slot : ℕ → ℕ → List ℕ
slot v t = 3 ∷ v ∷ t ∷ 0 ∷ []

abbrev pub end : List ℕ
end = 4 ∷ []

-- one VM, a queue of q, and one slot of lo + 256 * hi ticks
abbrev single : ℕ → ℕ → ℕ → List ℕ
single q lo hi = core 1 q ++ (vm ++ (3 ∷ 0 ∷ lo ∷ hi ∷ end))

abbrev single_config : ℕ → ℕ → Config
single_config q t = config_of 1 q 1 (0x1000 ∷ []) (0x1004 ∷ []) (0 ∷ []) (t ∷ [])

-- X1
abbrev example : List ℕ
example =
    1 ∷ 2 ∷ 1
    ∷ 2 ∷ 0x00 ∷ 0x10 ∷ 0 ∷ 0 ∷ 0x04 ∷ 0x10 ∷ 0 ∷ 0
    ∷ 2 ∷ 0x00 ∷ 0x20 ∷ 0 ∷ 0 ∷ 0x04 ∷ 0x20 ∷ 0 ∷ 0
    ∷ 3 ∷ 0 ∷ 2 ∷ 0
    ∷ 3 ∷ 1 ∷ 1 ∷ 0
    ∷ 3 ∷ 255 ∷ 1 ∷ 0
    ∷ 4
    ∷ []

abbrev example_config : Config
example_config = config_of 2 1 3 (0x1000 ∷ 0x2000 ∷ []) (0x1004 ∷ 0x2004 ∷ []) (0 ∷ 1 ∷ 255 ∷ []) (2 ∷ 1 ∷ 1 ∷ [])

-- eight VMs and 64 slots, the end record left out: 331 bytes
abbrev pub full : List ℕ
full =
    core 8 16
    ++ (joined (λ v. 2 ∷ v ∷ 0 ∷ 0 ∷ 128 ∷ v ∷ 1 ∷ 0 ∷ 255 ∷ []) 8
    ++ joined (λ k. slot (k % 8) (k + 1)) 64)

abbrev full_config : Config
full_config = config_of 8 16 64
    (0x80000000 ∷ 0x80000001 ∷ 0x80000002 ∷ 0x80000003 ∷ 0x80000004 ∷ 0x80000005 ∷ 0x80000006 ∷ 0x80000007 ∷ [])
    (0xff000100 ∷ 0xff000101 ∷ 0xff000102 ∷ 0xff000103 ∷ 0xff000104 ∷ 0xff000105 ∷ 0xff000106 ∷ 0xff000107 ∷ [])
    (0 ∷ 1 ∷ 2 ∷ 3 ∷ 4 ∷ 5 ∷ 6 ∷ 7 ∷ 0 ∷ 1 ∷ 2 ∷ 3 ∷ 4 ∷ 5 ∷ 6 ∷ 7 ∷ 0 ∷ 1 ∷ 2 ∷ 3 ∷ 4 ∷ 5 ∷ 6 ∷ 7 ∷ 0 ∷ 1 ∷ 2 ∷ 3 ∷ 4 ∷ 5 ∷ 6 ∷ 7 ∷ 0 ∷ 1 ∷ 2 ∷ 3 ∷ 4 ∷ 5 ∷ 6 ∷ 7 ∷ 0 ∷ 1 ∷ 2 ∷ 3 ∷ 4 ∷ 5 ∷ 6 ∷ 7 ∷ 0 ∷ 1 ∷ 2 ∷ 3 ∷ 4 ∷ 5 ∷ 6 ∷ 7 ∷ 0 ∷ 1 ∷ 2 ∷ 3 ∷ 4 ∷ 5 ∷ 6 ∷ 7 ∷ [])
    (1 ∷ 2 ∷ 3 ∷ 4 ∷ 5 ∷ 6 ∷ 7 ∷ 8 ∷ 9 ∷ 10 ∷ 11 ∷ 12 ∷ 13 ∷ 14 ∷ 15 ∷ 16 ∷ 17 ∷ 18 ∷ 19 ∷ 20 ∷ 21 ∷ 22 ∷ 23 ∷ 24 ∷ 25 ∷ 26 ∷ 27 ∷ 28 ∷ 29 ∷ 30 ∷ 31 ∷ 32 ∷ 33 ∷ 34 ∷ 35 ∷ 36 ∷ 37 ∷ 38 ∷ 39 ∷ 40 ∷ 41 ∷ 42 ∷ 43 ∷ 44 ∷ 45 ∷ 46 ∷ 47 ∷ 48 ∷ 49 ∷ 50 ∷ 51 ∷ 52 ∷ 53 ∷ 54 ∷ 55 ∷ 56 ∷ 57 ∷ 58 ∷ 59 ∷ 60 ∷ 61 ∷ 62 ∷ 63 ∷ 64 ∷ [])

-- X1, P6 to P8, and every fault of I8 but those of regions, with the places of I13 and the orders of I9
unfoldable pub rows : List Row
rows =
    -- X1: the example, 34 bytes
    read_as example (accepted example_config)
    -- P6: no bytes
    ∷ read_as [] (refused 20 0)
    -- P7: 1,000 ticks, and 1,001
    ∷ read_as (single 0 0xe8 3) (accepted (single_config 0 1000))
    ∷ read_as (single 0 0xe9 3) (refused 25 12)
    -- P8: a queue of 16, and of 17
    ∷ read_as (single 16 1 0) (accepted (single_config 16 1))
    ∷ read_as (single 17 1 0) (refused 22 0)
    -- a full image without regions, 332 bytes
    ∷ read_as (full ++ end) (accepted full_config)
    -- I8: a 65th slot, whole and cut
    ∷ read_as (full ++ (slot 0 1 ++ end)) (refused 26 331)
    ∷ read_as (full ++ (3 ∷ 0 ∷ [])) (refused 20 331)
    -- I8: a cut in the core record, in a VM record, in a slot record
    ∷ read_as (1 ∷ 1 ∷ []) (refused 20 0)
    ∷ read_as (core 1 0 ++ (2 ∷ 0 ∷ 16 ∷ [])) (refused 20 3)
    ∷ read_as (core 1 0 ++ (vm ++ (3 ∷ 0 ∷ 1 ∷ []))) (refused 20 12)
    -- I8: a cut before the kind of a VM, of the first slot, of the end
    ∷ read_as (core 1 0) (refused 20 3)
    ∷ read_as (core 1 0 ++ vm) (refused 20 12)
    ∷ read_as (core 1 0 ++ (vm ++ slot 0 1)) (refused 20 16)
    -- I8: an unknown kind, as the first byte and as the last
    ∷ read_as (6 ∷ []) (refused 21 0)
    ∷ read_as (core 1 0 ++ (vm ++ (slot 0 1 ++ (6 ∷ [])))) (refused 21 16)
    -- I13: a second core record, a VM record too many, a slot and an end too early
    ∷ read_as (core 1 0 ++ (core 1 0 ++ (vm ++ (slot 0 1 ++ end)))) (refused 21 3)
    ∷ read_as (core 1 0 ++ (vm ++ (vm ++ (slot 0 1 ++ end)))) (refused 21 12)
    ∷ read_as (core 2 0 ++ (vm ++ (slot 0 1 ++ end))) (refused 21 12)
    ∷ read_as (core 2 0 ++ (vm ++ end)) (refused 21 12)
    -- I8: no VM, and nine
    ∷ read_as (core 0 0 ++ end) (refused 22 0)
    ∷ read_as (core 9 0 ++ end) (refused 22 0)
    -- I8: a slot of a VM that there is not
    ∷ read_as (core 1 0 ++ (vm ++ (slot 1 1 ++ end))) (refused 23 12)
    -- I8: a spare slot of two ticks, and of none
    ∷ read_as (core 1 0 ++ (vm ++ (slot 0 1 ++ (slot 255 2 ++ end)))) (refused 24 16)
    ∷ read_as (core 1 0 ++ (vm ++ (slot 0 1 ++ (slot 255 0 ++ end)))) (refused 24 16)
    -- I8: a named slot of no ticks
    ∷ read_as (core 1 0 ++ (vm ++ (slot 0 0 ++ end))) (refused 25 12)
    -- I8, I13: an end with no slot, and with a VM that has none
    ∷ read_as (core 1 0 ++ (vm ++ end)) (refused 27 12)
    ∷ read_as (core 2 0 ++ (vm ++ (vm ++ (slot 1 1 ++ (slot 255 1 ++ end))))) (refused 27 29)
    -- I8: bytes that follow
    ∷ read_as (single 0 1 0 ++ (0 ∷ [])) (refused 28 17)
    ∷ read_as (single 0 1 0 ++ single 0 1 0) (refused 28 17)
    -- I9: of several faults the first: 21 before 20, 20 before 22, 26 before 23, 23 before 25, 27 before 28
    ∷ read_as (2 ∷ []) (refused 21 0)
    ∷ read_as (1 ∷ 0 ∷ []) (refused 20 0)
    ∷ read_as (full ++ (slot 9 0 ++ end)) (refused 26 331)
    ∷ read_as (core 1 0 ++ (vm ++ (slot 1 0 ++ end))) (refused 23 12)
    ∷ read_as (core 1 0 ++ (vm ++ (4 ∷ 4 ∷ []))) (refused 27 12)
    ∷ []
