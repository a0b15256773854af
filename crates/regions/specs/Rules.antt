-- The memory regions of a configuration: one rule for each sentence of H1 to H6, and lawful regions.
use Rattle.std.specs.Prelude.{ℕ, ◌<◌, ◌≤◌, eqb, leb, ltb, get_or, replicate, Bool, not, List, ◌≡◌}
use Rattle.basis.specs.Bounds.{empty_rest, within}
use Rattle.basis.specs.Choice.{both, either}
use Rattle.basis.specs.Count.{every, how_many}
use Rattle.regions.specs.declared.Region.{Region}
use Rattle.regions.specs.declared.Regions.{Regions}

-- regions by their parts
abbrev pub listed : ℕ → List ℕ → List ℕ → List ℕ → List ℕ → Regions
listed count holders permissions starts lasts =
    record { count = count; holders = holders; permissions = permissions; starts = starts; lasts = lasts }

-- H11: no regions
abbrev pub none : Regions
none = listed 0 (replicate 64 0) (replicate 64 0) (replicate 64 0) (replicate 64 0)

-- what stands at place k
abbrev pub holder_at : Regions → ℕ → ℕ
holder_at r k = get_or r.holders k 0

abbrev pub permission_at : Regions → ℕ → ℕ
permission_at r k = get_or r.permissions k 0

abbrev pub start_at : Regions → ℕ → ℕ
start_at r k = get_or r.starts k 0

abbrev pub last_at : Regions → ℕ → ℕ
last_at r k = get_or r.lasts k 0

-- the region there
abbrev pub region_at : Regions → ℕ → Region
region_at r k = record { holder = holder_at r k; permission = permission_at r k; start = start_at r k; last = last_at r k }

-- H1: 0 to 64 regions
abbrev pub count_fits : Regions → Bool
count_fits r = leb r.count 64

-- H2: a region belongs to a VM of the configuration, which has so many
unfoldable pub holders_fit : ℕ → Regions → Bool
holders_fit vms r = every (λ k. ltb (holder_at r k) vms) r.count

-- H3: the permission is 1, 2 or 3
abbrev pub known : ℕ → Bool
known permission = within 1 3 permission

unfoldable pub permissions_fit : Regions → Bool
permissions_fit r = every (λ k. known (permission_at r k)) r.count

-- H4: a region does not start after its last address
unfoldable pub ranges_fit : Regions → Bool
ranges_fit r = every (λ k. leb (start_at r k) (last_at r k)) r.count

-- H5: how many of the first n regions are VM v's, and at most 8 of each VM
unfoldable pub held : List ℕ → ℕ → ℕ → ℕ
held holders v n = how_many (λ k. eqb (get_or holders k 0) v) n

unfoldable pub few_each : ℕ → List ℕ → Bool
few_each n holders = every (λ v. leb (held holders v n) 8) 8

-- H3, H6
abbrev pub may_write : ℕ → Bool
may_write permission = eqb permission 2

-- H6: no byte lies in both ranges
abbrev pub apart : ℕ → ℕ → ℕ → ℕ → Bool
apart start last start' last' = either (ltb last' start) (ltb last start')

-- H6: a region that may be written beside another one: of the same VM, or with no byte in common, or with the same start and last address
abbrev pub alike : ℕ → ℕ → ℕ → ℕ → ℕ → ℕ → Bool
alike holder start last holder' start' last' =
    either (eqb holder holder') (either (apart start last start' last') (both (eqb start start') (eqb last last')))

-- H6: such a region beside the first n
unfoldable pub alike_all : ℕ → List ℕ → List ℕ → List ℕ → ℕ → ℕ → ℕ → Bool
alike_all n holders starts lasts holder start last =
    every (λ j. alike holder start last (get_or holders j 0) (get_or starts j 0) (get_or lasts j 0)) n

-- H6: each region that may be written, beside every one
unfoldable pub all_agree : Regions → Bool
all_agree r =
    every
    (λ i. either (not (may_write (permission_at r i)))
    (alike_all r.count r.holders r.starts r.lasts (holder_at r i) (start_at r i) (last_at r i)))
    r.count

-- H1: places past the count hold zero
unfoldable pub bytes_rest : Regions → Bool
bytes_rest r = both (empty_rest r.count r.holders) (empty_rest r.count r.permissions)

unfoldable pub words_rest : Regions → Bool
words_rest r = both (empty_rest r.count r.starts) (empty_rest r.count r.lasts)

-- H1: all places hold zero
unfoldable pub blank : Regions → Bool
blank r =
    both (both (empty_rest 0 r.holders) (empty_rest 0 r.permissions))
    (both (empty_rest 0 r.starts) (empty_rest 0 r.lasts))

-- H2 to H6, and H1 of the places past the count, in a configuration of so many VMs
unfoldable pub kept : ℕ → Regions → Bool
kept vms r =
    both (holders_fit vms r)
    (both (permissions_fit r)
    (both (ranges_fit r)
    (both (few_each r.count r.holders)
    (both (all_agree r)
    (both (bytes_rest r) (words_rest r))))))

-- H1 to H6
unfoldable pub lawful : ℕ → Regions → Bool
lawful vms r = both (count_fits r) (kept vms r)

-- H1 to H6 as facts
pub record Lawful (vms : ℕ) (r : Regions) : Type 0 where
  pub few : r.count ≤ 64
  pub named : (k : ℕ) → k < r.count → holder_at r k < vms
  pub permitted : (k : ℕ) → k < r.count → (1 ≤ permission_at r k) × (permission_at r k ≤ 3)
  pub ordered : (k : ℕ) → k < r.count → start_at r k ≤ last_at r k
  pub each : (v : ℕ) → v < 8 → held r.holders v r.count ≤ 8
  pub shared : (i j : ℕ) → i < r.count → j < r.count
      → permission_at r i ≡ 2 → (holder_at r i ≡ holder_at r j → ⊥) → start_at r i ≤ last_at r j → start_at r j ≤ last_at r i
      → (start_at r i ≡ start_at r j) × (last_at r i ≡ last_at r j)
  pub bytes_empty : (k : ℕ) → r.count ≤ k → k < 64 → (holder_at r k ≡ 0) × (permission_at r k ≡ 0)
  pub words_empty : (k : ℕ) → r.count ≤ k → k < 64 → (start_at r k ≡ 0) × (last_at r k ≡ 0)
