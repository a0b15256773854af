-- What follows from the rules for any behaviour that keeps them, beside the third demand.
use Prim.Native.Nat.{ℕ, ◌%◌, ◌+◌, ◌<◌, ◌^◌}
use borrow.Author.Tests.{eq-eqb}
use lib.ListN.{get_or}
use mathlib.Core.Bool.{Bool, false, true}
use mathlib.Core.List.{List, [], ◌++◌, ◌∷◌}
use mathlib.Core.Path.{ap, subst, sym, ◌∙◌, ◌≡◌}
use native.Mathlib.Omega.{arith}
use Rattle.basis.proofs.Laws.{both_no}
use Rattle.config.proofs.Legality.{legal_is}
use Rattle.config.specs.Ranges.{Given}
use Rattle.config.specs.declared.Config.{Config}
use Rattle.rig_core.specs.State.{fresh_core, vm_at}
use Rattle.core_laws.proofs.Facts.{sound_is}
use Rattle.core_laws.proofs.Fresh.{fresh_sound}
use Rattle.event.specs.declared.Event.TheVariants.{Start, Write}
use Rattle.event.specs.declared.Event.{Event}
use Rattle.history.proofs.More.{told_more}
use Rattle.history.specs.History.{Behaviour, Moment, history, next, since_last, state_after, state_of, ticking, ticks_of, times, went}
use Rattle.history.specs.Moments.{asks, begins, handed, ran_in}
use Rattle.history.specs.Queueing.{removed_in}
use Rattle.history.specs.Telling.{queue_in}
use Rattle.promises.proofs.Only.Fits.{rules_fit}
use Rattle.promises.specs.Demands.{KeepsAll, Rules}
use Rattle.promises.specs.Refusing.{Refuses, first_of, lines_of}
use Rattle.queue.specs.Entries.{entries_of}
use Rattle.table.specs.Place.{Stands}
use Rattle.table.specs.Position.{has_ticked}

-- ---- D2: a fresh core takes its Start, and nothing runs before the first tick

first_line : (g : Config) → Given g → first_of (lines_of (fresh_core g) Start) ≡ 0
unfolding first_of lines_of
first_line g d = rw (fresh_sound g d.legal)

pub takes_start : (b : Behaviour) → Refuses b → (g : Config) → Given g → went (next b g [] Start) ≡ true
unfolding state_after
takes_start b r g d = eq-eqb (b (fresh_core g) Start).answer.refusal 0 ((r (fresh_core g) Start).number ∙ first_line g d)

pub idle_at_first : (b : Behaviour) → Rules b → (g : Config) → Given g → (es : List Event) → ticks_of b g es ≡ 0 → (state_of b g es).running ≡ 255
idle_at_first b r g d es z =
    let h : has_ticked (state_of b g es).clock ≡ false = subst (λ (k : ℕ). Stands g k (state_of b g es).clock) z (r.table g d es).stands in
    (sound_is (state_of b g es) (r.stays_sound g d es)).first h

-- ---- T4: a Write of any value at any offset moves neither count

module _ (b : Behaviour) (r : Rules b) (g : Config) (d : Given g) (v : ℕ) (l : v < g.count) (es : List Event) (o x : ℕ) where
  abbrev m : Moment
  m = next b g es (Write o x)

  still : (grows : Moment → Bool) → grows m ≡ false → since_last (begins v) grows 0 (history b g es ++ (m ∷ [])) ≡ since_last (begins v) grows 0 (history b g es)
  unfolding begins
  still grows h = told_more _ 0 (history b g es) m ∙ rw (h, both_no (went m))

  pub write_keeps_age : (vm_at m.after v).age ≡ (vm_at (state_of b g es) v).age
  write_keeps_age =
      (rules_fit b r g d es (Write o x)).clocks.age v l ∙ ap (λ (i : ℕ). i % 2 ^ 32) (still ticking (both_no (went m))) ∙ sym ((r.clocks g d es).age v l)

  pub write_keeps_ran : (vm_at m.after v).ran ≡ (vm_at (state_of b g es) v).ran
  write_keeps_ran =
      (rules_fit b r g d es (Write o x)).clocks.ran v l ∙ ap (λ (i : ℕ). i % 2 ^ 32) (still (ran_in v) (rw (both_no (went m)))) ∙ sym ((r.clocks g d es).ran v l)

-- ---- T10: the queue counts are what the history tells

module _ (b : Behaviour) (g : Config) (d : Given g) (es : List Event) where
  -- how many of a VM's requests stand in the queue
  pub counts_told : Rules b → (v : ℕ) → v < 8 → get_or (state_of b g es).queue.counts v 0 ≡ entries_of v (queue_in g (history b g es))
  counts_told r v i = (sound_is (state_of b g es) (r.stays_sound g d es)).counted v i ∙ ap (entries_of v) (r.traced g d es).queue

  -- C9: so the requests that were accepted are those that a spare tick served, those removed, and the VM's count
  pub counts_account : KeepsAll b → (v : ℕ) → v < g.count
      → times (asks v) (history b g es) ≡ times (handed g v) (history b g es) + (removed_in g v (history b g es) + get_or (state_of b g es).queue.counts v 0)
  counts_account r v l =
      let i : v < 8 = omega (arith, (legal_is g d.legal).vms.1) in
      r.accounts g d v l es ∙ ap (λ (n : ℕ). times (handed g v) (history b g es) + (removed_in g v (history b g es) + n)) (sym (counts_told r.rules v i))
