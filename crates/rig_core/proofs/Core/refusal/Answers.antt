-- By its number, who runs or nobody.
use Rattle.basis.proofs.Laws.{ways}
use Rattle.rig_core.specs.Refusals.{refused}
use Rattle.rig_core.proofs.Core.refusal.Goals as goal

pub returns-then-n-eq1 : goal.returns-then-n-eq1
unfolding refused
returns-then-n-eq1 c = rw c.quiet.ensures (search ways)

pub returns : goal.returns
unfolding refused
returns c = rw (c.quiet-2.ensures, c.address.ensures) (search ways)
