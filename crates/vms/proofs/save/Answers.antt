-- One field of one record, if there is that record (`saved_law`).
use borrow.Author.Tests.{lt-ltb}
use mathlib.Core.Path.{refl}
use Rattle.basis.proofs.Laws.{ways}
use Rattle.vms.proofs.Modulo.{saved_law}
use Rattle.vms.specs.Tick.{saving}
use Rattle.vms.proofs.save.Goals as goal

pub returns-then-i-lt8 : goal.returns-then-i-lt8
returns-then-i-lt8 c = saved_law c.args.vms.now c.args.i c.args.i c.args.at c.saved.result (λ f. refl) (rw (lt-ltb c.args.i 8 c.if-i-lt8.true) c.saved.ensures)

pub returns-else-i-lt8 : goal.returns-else-i-lt8
unfolding saving
returns-else-i-lt8 c = search ways
