-- The walk from region to region that the access query takes (H9): how far the regions reach.
use Rattle.std.specs.Prelude.{ℕ, ◌+◌, eqb, None, Option, Some}
use Rattle.basis.specs.Choice.{pick}
use Rattle.basis.specs.Count.{up_to}
use Rattle.grants.specs.Access.{grants}
use Rattle.regions.specs.Rules.{last_at}
use Rattle.regions.specs.declared.Regions.{Regions}

-- one past the last address of the last of the first n regions that grants the byte at a; 0 where none does
unfoldable pub reach : Regions → ℕ → ℕ → ℕ → ℕ → ℕ
reach r v way a n = up_to (λ k far. pick (grants r v way a k) (last_at r k + 1) far) 0 n

-- the same as the walk tells it
abbrev pub reached : ℕ → Option ℕ
reached far = pick (eqb far 0) None (Some far)
