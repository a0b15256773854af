-- The event, or refusal 10.
use Rattle.std.proofs.Common.{refl}
use mathlib.Core.Path.{ap}
use Rattle.rig_core.specs.declared.Stepped.{Stepped}
use Rattle.live.specs.Host.{inner_for}
use Rattle.rig_core.specs.Refusals.{refused}
use Rattle.live.proofs.core_inner.Goals as goal

pub returns-in-Some : goal.returns-in-Some
unfolding inner_for
returns-in-Some c = rw (← c.asked.ensures, c.in-Some.is) (ap (λ (s : Stepped). s.core) c.inner-after.ensures, ap (λ (s : Stepped). s.answer) c.inner-after.ensures)

pub returns-in-None : goal.returns-in-None
unfolding inner_for refused
returns-in-None c = rw (← c.asked.ensures, c.in-None.is) (refl, c.refusal.ensures)
