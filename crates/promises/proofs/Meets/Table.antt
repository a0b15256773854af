-- Ours meets the second demand on the table: its place by the accepted ticks, and nothing before the first.
use Prim.Native.Nat.{ℕ, ◌+◌}
use borrow.Author.Tests.{ne_eqb}
use mathlib.Core.Bool.{Bool, false, true}
use mathlib.Core.Path.{refl, ◌∙◌, ◌≡◌}
use native.Mathlib.Omega.{arith}
use Rattle.basis.specs.Choice.{pick}
use Rattle.rig_core.specs.Events.{done, step_of}
use Rattle.rig_core.specs.Refusals.{refused}
use Rattle.rig_core.specs.State.{fresh_core}
use Rattle.rig_core.specs.declared.Core.{Core}
use Rattle.rig_core.specs.declared.Stepped.{Stepped}
use Rattle.core_laws.proofs.Kept.{done_place}
use Rattle.core_laws.proofs.Refused.{done_number}
use Rattle.core_laws.proofs.View.{step_case}
use Rattle.event.specs.Kinds.{is_tick}
use Rattle.event.specs.declared.Event.{Event}
use Rattle.history.proofs.Steps.{after_inv, ours_at}
use Rattle.history.specs.History.{moment, moment_of, ticks_after}
use Rattle.promises.specs.Timing.{Table}

-- before the first tick
abbrev Unentered : ℕ → Core → Type 0
Unentered k c = k ≡ 0 → (c.clock.slot ≡ 0) × (c.clock.left ≡ 0)

step_unentered : (k : ℕ) (c : Core) → Unentered k c → (e : Event) → Unentered (ticks_after (moment step_of k c e)) (step_of c e).core
unfolding refused
step_unentered k c i e =
    step_case c e (λ (s : Stepped). Unentered (ticks_after (moment_of k c e s)) s.core)
    (λ n q h. rw (ne_eqb n 0 h) i)
    (λ s r. rw (done_number c e) (go (is_tick e) refl))
  where
    go : (b : Bool) → is_tick e ≡ b → pick b (k + 1) k ≡ 0 → ((done c e).core.clock.slot ≡ 0) × ((done c e).core.clock.left ≡ 0)
    go true h z = absurd (omega arith)
    go false h z = (let a = done_place c e h in (a.slot ∙ (i z).0, a.left ∙ (i z).1))

-- D2, D5, D10: after k + 1 accepted ticks the core stands at table tick k modulo the sum of durations
pub ours_table : Table step_of
ours_table g d es =
    let p = ours_at g d es in
    record { kept = p.same; stands = p.stands; unentered = after_inv step_of Unentered step_unentered es 0 (fresh_core g) (λ z. (refl, refl)) }
