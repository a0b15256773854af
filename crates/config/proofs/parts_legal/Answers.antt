-- The counts, then the places (`legal_law`).
use Rattle.config.proofs.Legality.{legal_both, legal_never}
use Rattle.regions.proofs.Lawful.{none_lawful}
use Rattle.config.proofs.parts_legal.Goals as goal

pub returns-then-counts_fit : goal.returns-then-counts_fit
returns-then-counts_fit c = legal_both _ _ _ (none_lawful _) c.counts_fit.ensures c.all_fit.ensures c.if-counts_fit.true

pub returns-else-counts_fit : goal.returns-else-counts_fit
returns-else-counts_fit c = legal_never _ _ _ (none_lawful _) c.counts_fit.ensures c.if-counts_fit.false c.if-counts_fit.false
