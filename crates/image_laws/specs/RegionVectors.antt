-- Images with regions, each with the answer that it gets, and access queries with their answers (H1 to H11, I8, I9, I15, S9).
use Rattle.std.specs.Prelude.{ℕ, ◌%◌, ◌*◌, ◌+◌, ◌/◌, Bool, false, true, List, [], ◌++◌, ◌∷◌}
use Rattle.basis.specs.Count.{joined}
use Rattle.basis.specs.Numbers.{word_bytes}
use Rattle.config.specs.declared.Config.{Config}
use Rattle.image_laws.specs.Vectors.{Row, config_of, core, end, padded, read_as, slot, vm}
use Rattle.image_reader.specs.Reader.{accepted, refused, with_regions}
use Rattle.regions.specs.Rules.{listed, none}
use Rattle.regions.specs.declared.Regions.{Regions}

-- a region record: VM, permission, start, last address
abbrev region : ℕ → ℕ → ℕ → ℕ → List ℕ
region v p s l = 5 ∷ v ∷ p ∷ (word_bytes s ++ word_bytes l)

-- the image of two VMs with a slot each, and these bytes before the slots; they stand from offset 21 on
abbrev two : List ℕ → List ℕ
two bs = core 2 0 ++ (vm ++ (vm ++ (bs ++ (slot 0 1 ++ (slot 1 1 ++ end)))))

abbrev two_config : Regions → Config
two_config r = with_regions (config_of 2 0 2 (0x1000 ∷ 0x1000 ∷ []) (0x1004 ∷ 0x1004 ∷ []) (0 ∷ 1 ∷ []) (1 ∷ 1 ∷ [])) r

abbrev held_of : ℕ → List ℕ → List ℕ → List ℕ → List ℕ → Regions
held_of n hs ps ss ls = listed n (padded 64 hs) (padded 64 ps) (padded 64 ss) (padded 64 ls)

-- eight regions of VM 0, side by side, which may be read
abbrev eight : List ℕ
eight = joined (λ k. region 0 1 (k * 16) (k * 16 + 15)) 8

-- eight VMs with eight regions each, which may be written: 779 bytes; and 64 slots
abbrev crowd : List ℕ
crowd = core 8 16 ++ (joined (λ v. 2 ∷ v ∷ 0 ∷ 0 ∷ 128 ∷ v ∷ 1 ∷ 0 ∷ 255 ∷ []) 8 ++ joined (λ k. region (k / 8) 2 (k * 16) (k * 16 + 15)) 64)

abbrev crowd_slots : List ℕ
crowd_slots = joined (λ k. slot (k % 8) (k + 1)) 64

-- n numbers by their places
abbrev numbers : (ℕ → ℕ) → ℕ → List ℕ
numbers f n = joined (λ k. f k ∷ []) n

abbrev crowd_config : Config
crowd_config =
    with_regions
    (config_of 8 16 64 (numbers (λ v. v + 0x80000000) 8) (numbers (λ v. v + 0xff000100) 8) (numbers (λ k. k % 8) 64) (numbers (λ k. k + 1) 64))
    (listed 64 (numbers (λ k. k / 8) 64) (numbers (λ k. 2) 64) (numbers (λ k. k * 16) 64) (numbers (λ k. k * 16 + 15) 64))

-- VM 0 may read and write 0x1000 to 0x1fff, read 0x2000 to 0x2fff and all behind the byte 0x3000 up to 0x3fff, and execute 0x4000 to 0x4fff;
-- VM 1 may read what VM 0 writes, and the last byte of the space
abbrev mixed : List ℕ
mixed =
    region 0 2 0x1000 0x1fff ++ (region 0 1 0x2000 0x2fff ++ (region 0 1 0x3001 0x3fff ++ (region 0 3 0x4000 0x4fff
    ++ (region 1 1 0x1000 0x1fff ++ region 1 1 0xffffffff 0xffffffff))))

abbrev mixed_config : Config
mixed_config =
    two_config
    (held_of 6 (0 ∷ 0 ∷ 0 ∷ 0 ∷ 1 ∷ 1 ∷ []) (2 ∷ 1 ∷ 1 ∷ 3 ∷ 1 ∷ 1 ∷ [])
    (0x1000 ∷ 0x2000 ∷ 0x3001 ∷ 0x4000 ∷ 0x1000 ∷ 0xffffffff ∷ []) (0x1fff ∷ 0x2fff ∷ 0x3fff ∷ 0x4fff ∷ 0x1fff ∷ 0xffffffff ∷ []))

-- H1 to H7, I8, I9, I15, S9
unfoldable pub region_rows : List Row
region_rows =
    -- H11, I15: none
    read_as (two []) (accepted (two_config none))
    -- H6: equal ranges of two VMs, with each permission beside one that may be written
    ∷ read_as (two (region 0 2 0x2000 0x2fff ++ (region 1 2 0x2000 0x2fff))) (accepted (two_config (held_of 2 (0 ∷ 1 ∷ []) (2 ∷ 2 ∷ []) (0x2000 ∷ 0x2000 ∷ []) (0x2fff ∷ 0x2fff ∷ []))))
    ∷ read_as (two (region 0 2 0x2000 0x2fff ++ (region 1 1 0x2000 0x2fff))) (accepted (two_config (held_of 2 (0 ∷ 1 ∷ []) (2 ∷ 1 ∷ []) (0x2000 ∷ 0x2000 ∷ []) (0x2fff ∷ 0x2fff ∷ []))))
    ∷ read_as (two (region 0 2 0x2000 0x2fff ++ (region 1 3 0x2000 0x2fff))) (accepted (two_config (held_of 2 (0 ∷ 1 ∷ []) (2 ∷ 3 ∷ []) (0x2000 ∷ 0x2000 ∷ []) (0x2fff ∷ 0x2fff ∷ []))))
    ∷ read_as (two (region 0 1 0x2000 0x2fff ++ (region 1 2 0x2000 0x2fff))) (accepted (two_config (held_of 2 (0 ∷ 1 ∷ []) (1 ∷ 2 ∷ []) (0x2000 ∷ 0x2000 ∷ []) (0x2fff ∷ 0x2fff ∷ []))))
    ∷ read_as (two (region 0 3 0x2000 0x2fff ++ (region 1 2 0x2000 0x2fff))) (accepted (two_config (held_of 2 (0 ∷ 1 ∷ []) (3 ∷ 2 ∷ []) (0x2000 ∷ 0x2000 ∷ []) (0x2fff ∷ 0x2fff ∷ []))))
    -- H6: regions that only adjoin, and regions that touch at one byte, either of them the one that may be written
    ∷ read_as (two (region 0 2 0x2000 0x2fff ++ (region 1 2 0x3000 0x3fff))) (accepted (two_config (held_of 2 (0 ∷ 1 ∷ []) (2 ∷ 2 ∷ []) (0x2000 ∷ 0x3000 ∷ []) (0x2fff ∷ 0x3fff ∷ []))))
    ∷ read_as (two (region 0 2 0x2000 0x2fff ++ (region 1 1 0x2fff 0x3fff))) (refused 36 32)
    ∷ read_as (two (region 0 1 0x2000 0x2fff ++ (region 1 2 0x2fff 0x3fff))) (refused 36 32)
    ∷ read_as (two (region 0 1 0x2000 0x2fff ++ (region 1 2 0x1000 0x2000))) (refused 36 32)
    -- H6: one inside the other, the same start only, the same last address only
    ∷ read_as (two (region 0 2 0x2000 0x2fff ++ (region 1 3 0x2100 0x21ff))) (refused 36 32)
    ∷ read_as (two (region 0 2 0x2000 0x2fff ++ (region 1 1 0x2000 0x2ffe))) (refused 36 32)
    ∷ read_as (two (region 0 2 0x2000 0x2fff ++ (region 1 1 0x2001 0x2fff))) (refused 36 32)
    -- H6: the fault stands at the later of the two, whatever stands between them
    ∷ read_as (two (region 0 2 0x2000 0x2fff ++ (region 0 1 0x8000 0x8fff ++ (region 1 1 0x2800 0x3fff)))) (refused 36 43)
    -- H7: regions of one VM overlap, and regions of two of which none may be written
    ∷ read_as (two (region 0 2 0x2000 0x2fff ++ (region 0 2 0x2800 0x37ff ++ (region 0 1 0x2000 0x2000)))) (accepted (two_config (held_of 3 (0 ∷ 0 ∷ 0 ∷ []) (2 ∷ 2 ∷ 1 ∷ []) (0x2000 ∷ 0x2800 ∷ 0x2000 ∷ []) (0x2fff ∷ 0x37ff ∷ 0x2000 ∷ []))))
    ∷ read_as (two (region 0 1 0x2000 0x2fff ++ (region 1 3 0x2800 0x37ff))) (accepted (two_config (held_of 2 (0 ∷ 1 ∷ []) (1 ∷ 3 ∷ []) (0x2000 ∷ 0x2800 ∷ []) (0x2fff ∷ 0x37ff ∷ []))))
    -- H2: a VM that is not in the image
    ∷ read_as (two (region 2 1 0 0)) (refused 32 21)
    ∷ read_as (two (region 255 1 0 0)) (refused 32 21)
    -- H3: permission 0, and 4
    ∷ read_as (two (region 0 0 0 0)) (refused 33 21)
    ∷ read_as (two (region 0 4 0 0)) (refused 33 21)
    -- H4: a start after the last address; one byte, at both ends of the space
    ∷ read_as (two (region 0 1 0x2000 0x1fff)) (refused 34 21)
    ∷ read_as (two (region 0 1 0 0 ++ (region 1 2 0xffffffff 0xffffffff))) (accepted (two_config (held_of 2 (0 ∷ 1 ∷ []) (1 ∷ 2 ∷ []) (0 ∷ 0xffffffff ∷ []) (0 ∷ 0xffffffff ∷ []))))
    -- I9: 32 before 33, 33 before 34, 34 before 36
    ∷ read_as (two (region 2 0 2 1)) (refused 32 21)
    ∷ read_as (two (region 0 4 2 1)) (refused 33 21)
    ∷ read_as (two (region 0 2 0x2000 0x2fff ++ (region 1 2 0x2fff 0x2000))) (refused 34 32)
    -- H5: a ninth region of a VM; I9: 35 before 33; a region of the other VM is judged further
    ∷ read_as (two (eight ++ region 0 1 0x8000 0x8fff)) (refused 35 109)
    ∷ read_as (two (eight ++ region 0 0 0x8000 0x8fff)) (refused 35 109)
    ∷ read_as (two (eight ++ region 1 2 0x40 0x5f)) (refused 36 109)
    -- I15: a region before the last VM record, and behind a slot; I9: 21 before 20
    ∷ read_as (core 2 0 ++ (vm ++ (region 0 1 0 0 ++ (vm ++ end)))) (refused 21 12)
    ∷ read_as (two (slot 0 1 ++ region 0 1 0 0)) (refused 21 25)
    ∷ read_as (two (slot 0 1 ++ (5 ∷ 9 ∷ []))) (refused 21 25)
    -- I8, I9: a cut record, 20 before 32
    ∷ read_as (core 2 0 ++ (vm ++ (vm ++ (5 ∷ [])))) (refused 20 21)
    ∷ read_as (core 2 0 ++ (vm ++ (vm ++ (5 ∷ 9 ∷ 9 ∷ 0 ∷ 0 ∷ 0 ∷ 0 ∷ 0 ∷ 0 ∷ 0 ∷ [])))) (refused 20 21)
    -- I13: regions, and then the end
    ∷ read_as (core 2 0 ++ (vm ++ (vm ++ (region 0 1 0 0 ++ end)))) (refused 27 32)
    -- S9: as much of everything as there may be, 1,036 bytes; a region more
    ∷ read_as (crowd ++ (crowd_slots ++ end)) (accepted crowd_config)
    ∷ read_as (crowd ++ (region 0 2 0x8000 0x8fff ++ (crowd_slots ++ end))) (refused 35 779)
    -- the regions of the queries below
    ∷ read_as (two mixed) (accepted mixed_config)
    ∷ []

-- a query on a configuration, and its answer
pub record Asked : Type 0 where
  pub config : Config
  pub vm : ℕ
  pub address : ℕ
  pub length : ℕ
  pub way : ℕ
  pub says : Bool

abbrev ask : ℕ → ℕ → ℕ → ℕ → Bool → Asked
ask v a n way says = record { config = mixed_config; vm = v; address = a; length = n; way = way; says = says }

abbrev ask_of : Config → ℕ → ℕ → ℕ → ℕ → Bool → Asked
ask_of c v a n way says = record { config = c; vm = v; address = a; length = n; way = way; says = says }

-- H8 to H11
unfoldable pub asked : List Asked
asked =
    -- H8: each way against each permission
    ask 0 0x1000 4 1 true
    ∷ ask 0 0x1000 4 2 true
    ∷ ask 0 0x1000 4 3 false
    ∷ ask 0 0x2000 4 1 true
    ∷ ask 0 0x2000 4 2 false
    ∷ ask 0 0x2000 4 3 false
    ∷ ask 0 0x4000 4 1 false
    ∷ ask 0 0x4000 4 2 false
    ∷ ask 0 0x4000 4 3 true
    -- H9: across adjoining regions, of which one may not be written
    ∷ ask 0 0x1ff8 16 1 true
    ∷ ask 0 0x1ff8 16 2 false
    -- H9: up to a gap of one byte, over it, and behind it
    ∷ ask 0 0x2ffc 4 1 true
    ∷ ask 0 0x2ffc 5 1 false
    ∷ ask 0 0x2ffc 8 1 false
    ∷ ask 0 0x3001 4 1 true
    -- H9: one byte before a region; a region of another VM
    ∷ ask 0 0xfff 2 1 false
    ∷ ask 1 0x2000 4 1 false
    ∷ ask 1 0x1ffc 4 1 true
    -- H10: the last byte of the space, and past its end
    ∷ ask 1 0xffffffff 1 1 true
    ∷ ask 1 0xffffffff 2 1 false
    ∷ ask 1 0xffffffff 0xffffffff 1 false
    -- H10: no bytes, wherever; but for an unknown VM or way
    ∷ ask 1 0xffffffff 0 3 true
    ∷ ask 0 0 0 2 true
    ∷ ask 2 0 0 2 false
    ∷ ask 0 0 0 0 false
    ∷ ask 0 0 0 4 false
    ∷ ask 0 0x1000 4 0 false
    -- H11: no regions
    ∷ ask_of (two_config none) 0 0x1000 1 1 false
    ∷ ask_of (two_config none) 0 0x1000 0 1 true
    -- H10: a configuration that is not legal, for regions that touch
    ∷ ask_of (two_config (held_of 2 (0 ∷ 1 ∷ []) (2 ∷ 1 ∷ []) (0x1000 ∷ 0x1fff ∷ []) (0x1fff ∷ 0x2fff ∷ []))) 0 0x1000 4 1 false
    ∷ []
