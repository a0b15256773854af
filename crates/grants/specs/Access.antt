-- The access query over regions (H8 to H11), as a test and as facts.
use Rattle.std.specs.Prelude.{ℕ, ◌+◌, ◌<◌, ◌^◌, ◌≤◌, eqb, leb, Bool, ◌⊎◌, ◌≡◌}
use Rattle.basis.specs.Choice.{both, either, pick}
use Rattle.basis.specs.Count.{every, some}
use Rattle.regions.specs.Rules.{holder_at, last_at, permission_at, start_at}
use Rattle.regions.specs.declared.Regions.{Regions}

-- H8: reading (1) is allowed by the permissions 1 and 2, writing (2) by 2, executing (3) by 3
abbrev pub permits : ℕ → ℕ → Bool
permits way permission =
    pick (eqb way 1) (either (eqb permission 1) (eqb permission 2))
    (pick (eqb way 2) (eqb permission 2)
    (both (eqb way 3) (eqb permission 3)))

-- H9: a region is VM v's, allows the way, and the byte at address a lies in it
unfoldable pub allows : ℕ → ℕ → ℕ → ℕ → ℕ → ℕ → ℕ → Bool
allows holder permission start last v way a =
    both (eqb holder v)
    (both (permits way permission)
    (both (leb start a) (leb a last)))

abbrev pub grants : Regions → ℕ → ℕ → ℕ → ℕ → Bool
grants r v way a k = allows (holder_at r k) (permission_at r k) (start_at r k) (last_at r k) v way a

-- H9: the byte at address a lies in a region of VM v that allows the way
unfoldable pub granted : Regions → ℕ → ℕ → ℕ → Bool
granted r v way a = some (grants r v way a) r.count

-- H9: so does each byte of the range
unfoldable pub granted_all : Regions → ℕ → ℕ → ℕ → ℕ → Bool
granted_all r v way address length = every (λ i. granted r v way (address + i)) length

-- H9, H10: a length of 0 is yes; a range past the end of the 32-bit space is no
unfoldable pub allowed : Regions → ℕ → ℕ → ℕ → ℕ → Bool
allowed r v address length way =
    either (eqb length 0)
    (both (leb (address + length) (2 ^ 32))
    (granted_all r v way address length))

-- H8 as facts
abbrev pub Permits : ℕ → ℕ → Type 0
Permits way permission = ((way ≡ 1) × ((permission ≡ 1) ⊎ (permission ≡ 2))) ⊎ (((way ≡ 2) × (permission ≡ 2)) ⊎ ((way ≡ 3) × (permission ≡ 3)))

-- H9 as facts: there is a region of VM v that allows the way, in which the byte at address a lies
pub record Granted (r : Regions) (v way a : ℕ) : Type 0 where
  pub place : ℕ
  pub listed : place < r.count
  pub held : holder_at r place ≡ v
  pub permits : Permits way (permission_at r place)
  pub from : start_at r place ≤ a
  pub to : a ≤ last_at r place

-- H9, H10 as facts: no bytes, or a range inside the space of which each byte is granted
abbrev pub Allowed : Regions → ℕ → ℕ → ℕ → ℕ → Type 0
Allowed r v address length way = (length ≡ 0) ⊎ ((address + length ≤ 2 ^ 32) × ((a : ℕ) → address ≤ a → a < address + length → Granted r v way a))
