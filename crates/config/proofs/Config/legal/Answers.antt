-- The test of its parts, then that of its regions (`legal_apart`).
use Rattle.std.proofs.Common.{◌∙◌}
use Rattle.config.proofs.Legality.{legal_no, legal_yes}
use Rattle.config.proofs.Config.legal.Goals as goal

pub returns-then-parts_legal : goal.returns-then-parts_legal
returns-then-parts_legal c = legal_yes _ _ _ c.parts_legal.ensures c.if-parts_legal.true c.lawful.ensures

pub returns-else-parts_legal : goal.returns-else-parts_legal
returns-else-parts_legal c = c.if-parts_legal.false ∙ legal_no _ _ c.parts_legal.ensures c.if-parts_legal.false
