-- The configuration of the worked run (X1), with a queue of any size and any regions, and the one of P14 to P22.
use Rattle.std.specs.Prelude.{ℕ, replicate, List, ◌∷◌}
use Rattle.config.specs.declared.Config.{Config}
use Rattle.regions.specs.Rules.{listed, none}
use Rattle.regions.specs.declared.Regions.{Regions}

abbrev pub zeros : ℕ → List ℕ
zeros n = replicate n 0

-- X1, with regions
abbrev pub example_with : Regions → ℕ → Config
example_with regions room =
    record {
      count = 2;
      room = room;
      slots = 3;
      entries = 0x1000 ∷ 0x2000 ∷ zeros 6;
      handlers = 0x1004 ∷ 0x2004 ∷ zeros 6;
      owners = 0 ∷ 1 ∷ 255 ∷ zeros 61;
      durations = 2 ∷ 1 ∷ 1 ∷ zeros 61;
      regions = regions;
    }

-- X1
abbrev pub example : ℕ → Config
example room = example_with none room

-- P14 to P22: the regions of VM 0
abbrev pub copy_example : Config
copy_example =
    example_with
    (listed 4 (zeros 64) (2 ∷ 2 ∷ 1 ∷ 2 ∷ zeros 60)
    (0x40000000 ∷ 0x40000080 ∷ 0x40000180 ∷ 0x400001f0 ∷ zeros 60)
    (0x4000007f ∷ 0x4000017f ∷ 0x400001bf ∷ 0x400004ff ∷ zeros 60))
    1
