-- What holds of every state of a run: its configuration, its lists, its place in the table by the count of ticks.
use Prim.Native.Nat.{ℕ, ◌+◌, ◌<◌}
use borrow.Author.Tests.{ne_eqb}
use mathlib.Core.List.{List, [], ◌∷◌}
use mathlib.Core.Path.{ap, refl, subst, sym, ◌∙◌, ◌≡◌}
use native.Mathlib.Numerals.{add-one}
use native.Mathlib.Omega.{arith}
use Rattle.basis.specs.Choice.{pick}
use Rattle.config.proofs.Legality.{legal_is}
use Rattle.config.specs.Ranges.{Given}
use Rattle.config.specs.Sizes.{owner_at}
use Rattle.config.specs.declared.Config.{Config}
use Rattle.rig_core.specs.Events.{done, step_of, tick_clock, tick_owner}
use Rattle.rig_core.specs.Refusals.{refused}
use Rattle.rig_core.specs.State.{Shaped, fresh_core}
use Rattle.rig_core.specs.declared.Core.{Core}
use Rattle.rig_core.specs.declared.Stepped.{Stepped}
use Rattle.core_laws.proofs.Kept.{done_config, done_place, shaped_done, shaped_fresh}
use Rattle.core_laws.proofs.Refused.{done_number}
use Rattle.core_laws.proofs.View.{done_case, step_case}
use Rattle.event.specs.Kinds.{is_tick}
use Rattle.event.specs.declared.Event.TheVariants.{Start}
use Rattle.event.specs.declared.Event.{Event}
use Rattle.history.specs.History.{Behaviour, Each, Moment, count_after, moment, moment_of, moments, state_after, state_of, ticks_after, ticks_of}
use Rattle.table.proofs.Place.{placed_then, stands_same}
use Rattle.table.specs.Place.{Placed, Stands, table_at}
use Rattle.table.specs.Position.{next_clock}

pub record Reached (g : Config) (k : ℕ) (c : Core) : Type 0 where
  pub same : c.config ≡ g
  pub shaped : Shaped c
  pub stands : Stands g k c.clock

pub vm_small : (g : Config) → Given g → (v : ℕ) → v < g.count → v < 8
vm_small g d v h = omega (arith, h, (legal_is g d.legal).vms.1)

pub at_fresh : (g : Config) → Given g → Reached g 0 (fresh_core g)
at_fresh g d = record { same = refl; shaped = shaped_fresh g d.sized; stands = refl }

module _ (g : Config) (d : Given g) (k : ℕ) (c : Core) (p : Reached g k c) where
  -- where a tick takes the clock
  pub tick_placed : Placed g k (tick_clock c)
  unfolding tick_clock
  tick_placed =
      subst (λ (x : Config). Placed g k (next_clock x.slots x.durations c.clock)) (sym p.same)
      (placed_then g (legal_is g d.legal) k c.clock p.stands)

  pub tick_owner_lem : tick_owner c ≡ table_at g k
  tick_owner_lem = ap (λ (x : Config). owner_at x (tick_clock c).slot) p.same ∙ tick_placed.owner

  stands_done : (e : Event) → Stands g (pick (is_tick e) (k + 1) k) (done c e).core.clock
  unfolding done
  stands_done =
      done_case c (λ e s. Stands g (pick (is_tick e) (k + 1) k) s.core.clock)
      (stands_same g k _ c.clock (done_place c Start refl) p.stands)
      (λ at. rw (add-one k) tick_placed)
      (λ e d i j. rw i p.stands)

  pub step_at : (e : Event) → Reached g (ticks_after (moment step_of k c e)) (step_of c e).core
  unfolding refused
  step_at e =
      step_case c e (λ (s : Stepped). Reached g (ticks_after (moment_of k c e s)) s.core)
      (λ n q h. rw (ne_eqb n 0 h) p)
      (λ s r. record {
        same = done_config c e ∙ p.same;
        shaped = shaped_done c p.shaped e;
        stands = rw (done_number c e) (stands_done e);
      })

-- a run of any behaviour that keeps an invariant
module _ (b : Behaviour) (Inv : ℕ → Core → Type 0) (keeps : (k : ℕ) (c : Core) → Inv k c → (e : Event) → Inv (ticks_after (moment b k c e)) (b c e).core) where
  pub after_inv : (es : List Event) (k : ℕ) (c : Core) → Inv k c → Inv (count_after b k c es) (state_after b c es)
  unfolding count_after state_after
  after_inv [] k c i = i
  after_inv (e ∷ es) k c i = after_inv es _ _ (keeps k c i e)

  pub each_of : (P : Moment → Type 0) → ((k : ℕ) (c : Core) → Inv k c → (e : Event) → P (moment b k c e)) → (es : List Event) (k : ℕ) (c : Core) → Inv k c → Each P (moments b k c es)
  unfolding moments
  each_of P f [] k c i = tt
  each_of P f (e ∷ es) k c i = (f k c i e, each_of P f es _ _ (keeps k c i e))

pub ours_at : (g : Config) → Given g → (es : List Event) → Reached g (ticks_of step_of g es) (state_of step_of g es)
ours_at g d es = after_inv step_of (Reached g) (step_at g d) es 0 (fresh_core g) (at_fresh g d)
