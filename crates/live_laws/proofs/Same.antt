-- From the fresh core of an accepted image, after any calls, `core_inner` leaves and answers what `core_live` does.
use Rattle.event.specs.declared.Event.{Event}
use Rattle.std.proofs.Common.{Option, Some, None}
use Prim.Native.Nat.{ℕ}
use mathlib.Core.List.{List, [], ◌∷◌}
use mathlib.Core.Path.{subst, sym, ◌≡◌}
use Rattle.basis.specs.Numbers.{Bytes}
use Rattle.rig_core.specs.Memory.{copy_in}
use Rattle.rig_core.specs.Refusals.{refused}
use Rattle.rig_core.specs.declared.Core.{Core}
use Rattle.rig_core.specs.declared.Stepped.{Stepped}
use Rattle.core_laws.proofs.Always.{Good, good_fresh, good_step}
use Rattle.core_laws.proofs.Facts.{sound_of}
use Rattle.image_laws.proofs.Theorems.{given}
use Rattle.live.proofs.Host.{host_sound}
use Rattle.live.specs.Host.{begun_from, inner_by, step_by, step_for}
use Rattle.live.specs.declared.Input.{Input}
use Rattle.live_laws.specs.Calls.{Called, Copied, Inner, Live, called, calls}

-- on a sound core the two are the same
pub inner_same : (c : Core) (e : Input) → Good c → inner_by c e ≡ step_by c e
inner_same c e h = sym (host_sound c e (sound_of c h.facts))

for_good : (c : Core) (a : Option Event) → Good c → Good (step_for c a).core
unfolding step_for refused
for_good c (Some e) h = good_step c e h
for_good c None h = h

-- and leave one that is sound again
call_good : (c : Core) (k : Called) → Good c → Good (called c k)
unfolding called
call_good c (Inner e) h = subst (λ (s : Stepped). Good s.core) (sym (inner_same c e h)) (for_good c _ h)
call_good c (Live e) h = for_good c _ h
call_good c (Copied p base m) h = good_step c (copy_in p base m) h

pub calls_good : (ks : List Called) (c : Core) → Good c → Good (calls c ks)
unfolding calls
calls_good [] c h = h
calls_good (k ∷ ks) c h = calls_good ks (called c k) (call_good c k h)

-- T9: the core that `core_fresh` gives with fault 0, after any calls of these functions
pub inner_is_live : (bs : List ℕ) → Bytes bs → (begun_from bs).fault ≡ 0 → (ks : List Called) (e : Input) → inner_by (calls (begun_from bs).core ks) e ≡ step_by (calls (begun_from bs).core ks) e
inner_is_live bs h f ks e =
    let g = given bs h f in
    inner_same (calls (begun_from bs).core ks) e (calls_good ks (begun_from bs).core (good_fresh (begun_from bs).core.config g.legal g.sized))
