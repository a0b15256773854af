-- From the test of soundness to what a host is promised.
use Rattle.std.proofs.Common.{Option, Some, None}
use mathlib.Core.Bool.{false, true}
use mathlib.Core.Path.{ap, sym, ◌≡◌}
use Rattle.change.specs.Answers.{quietly}
use Rattle.basis.specs.Nobody.{nobody}
use Rattle.rig_core.proofs.Inner.{step_sound, step_unsound}
use Rattle.rig_core.specs.Refusals.{refused}
use Rattle.rig_core.specs.Sound.{sound}
use Rattle.rig_core.specs.declared.Core.{Core}
use Rattle.rig_core.specs.declared.Stepped.{Stepped}
use Rattle.event.specs.declared.Event.{Event}
use Rattle.live.specs.Host.{inner_by, inner_for, step_by, step_for}
use Rattle.live.specs.declared.Input.{Input}

-- on a sound state the two are the same
for_sound : (c : Core) (a : Option Event) → sound c ≡ true → step_for c a ≡ inner_for c a
unfolding step_for inner_for
for_sound c (Some e) h = step_sound c e h
for_sound c None h = rw h

for_unsound : (c : Core) (a : Option Event) → sound c ≡ false → step_for c a ≡ refused c 1
unfolding step_for
for_unsound c (Some e) h = step_unsound c e h
for_unsound c None h = rw h

pub host_sound : (c : Core) (e : Input) → sound c ≡ true → step_by c e ≡ inner_by c e
host_sound c e h = for_sound c _ h

-- R1 to R3: any other state stays, and is answered with 1
pub host_unsound : (c : Core) (e : Input) → sound c ≡ false → (c ≡ (step_by c e).core) × (quietly 1 nobody 0 ≡ (step_by c e).answer)
unfolding refused
host_unsound c e h = let w = sym (for_unsound c _ h) in (ap (λ (s : Stepped). s.core) w, ap (λ (s : Stepped). s.answer) w)
