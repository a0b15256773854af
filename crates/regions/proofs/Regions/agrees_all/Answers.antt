-- A region that is clear of all agrees with all; otherwise each is tested.
use mathlib.Core.Path.{◌∙◌}
use Rattle.regions.proofs.Clear.{clear_agrees}
use Rattle.regions.proofs.Regions.agrees_all.Goals as goal

pub returns-then-clear_of_all : goal.returns-then-clear_of_all
returns-then-clear_of_all c = c.if-clear_of_all.true ∙ clear_agrees _ _ _ _ _ _ c.if-self-le-MOST.true c.clear_of_all.ensures c.if-clear_of_all.true
