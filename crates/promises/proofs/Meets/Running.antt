-- Ours meets the second demand on who runs: at a tick whom table, standing and queue of the history name, between ticks the same VM.
use Prim.Native.Nat.{ℕ, ◌<◌}
use borrow.Author.Tests.{le-leb, lt-leb, ne_eqb}
use lib.Dec.{eqb}
use mathlib.Core.Bool.{Bool, false, not, true}
use mathlib.Core.List.{List}
use mathlib.Core.Logic.{◌⊎◌, ⊎_elim}
use mathlib.Core.Path.{ap, refl, subst, sym, ◌∙◌, ◌≡◌}
use native.Mathlib.Omega.{arith}
use Rattle.basis.proofs.Laws.{eqb_same, eqb_swap, false_true}
use Rattle.basis.specs.Choice.{pick}
use Rattle.basis.specs.Nobody.{nobody}
use Rattle.change.specs.Changes.{running_without}
use Rattle.change.specs.declared.Change.{Change}
use Rattle.config.proofs.Legality.{legal_is}
use Rattle.config.specs.Ranges.{Given}
use Rattle.config.specs.Sizes.{handler_at, is_spare}
use Rattle.config.specs.declared.Config.{Config}
use Rattle.rig_core.specs.Changes.{changed_by}
use Rattle.rig_core.specs.Events.{done, failure_of, start_core, step_of, tick_clock}
use Rattle.rig_core.specs.State.{full, ready_at, vm_at}
use Rattle.rig_core.specs.declared.Core.{Core}
use Rattle.rig_core.specs.declared.Stepped.{Stepped}
use Rattle.core_laws.proofs.View.{call_case, copy_case}
use Rattle.event.specs.Kinds.{is_tick}
use Rattle.event.specs.declared.Event.TheVariants.{Call, Copy, Extra, Fault, Restart, Shutdown, Start, Stop, Tick, Write}
use Rattle.event.specs.declared.Event.{Event}
use Rattle.guest.specs.Record.{saved_at}
use Rattle.history.proofs.Lawful.{lawful, runner_by}
use Rattle.history.proofs.Steps.{Reached, ours_at, tick_placed}
use Rattle.history.specs.History.{Moment, history, state_of, ticks_of}
use Rattle.history.specs.Telling.{chosen_in, ended_by, queue_in}
use Rattle.promises.proofs.Meets.Answering.{ours_tells}
use Rattle.promises.proofs.Meets.Starting.{when_done}
use Rattle.promises.proofs.Meets.Tracing.{ours_queue, ours_standing}
use Rattle.promises.specs.Tracing.{Runs}
use Rattle.queue.specs.Entries.{front_of}
use Rattle.table.specs.Place.{table_at}
use Rattle.vms.specs.Tick.{runner_of}

-- ---- between ticks

module _ (c : Core) where
  -- who runs after an event other than a tick
  abbrev GoesOn : Event → Stepped → Type 0
  GoesOn e x = x.core.running ≡ pick (ended_by c.running c.running x.answer e) 255 c.running

  stopped : (b : Bool) → pick b 255 c.running ≡ pick (not (eqb (pick b 2 1) 1)) 255 c.running
  stopped true = refl
  stopped false = refl

  restarted : (b : Bool) → c.running ≡ pick (not (eqb (pick b 1 1) 1)) 255 c.running
  restarted true = refl
  restarted false = refl

  call_running : (s n at : ℕ) → GoesOn (Call s n at) (done c (Call s n at))
  unfolding done running_without
  call_running s n at =
      call_case (λ (x : Change). GoesOn (Call s n at) (changed_by c x)) c.running c.queue (full c) (handler_at c.config c.running) c.running s n (saved_at at (vm_at c c.running))
      (λ e. rw (e, z)) (λ e. rw (e, z)) (λ e i. rw (e, le-leb n 31 i, z)) (λ e i. rw (e, lt-leb n 31 i, z)) (λ e. rw (e, z)) (λ e i. rw (e, z)) (λ e i. rw (e, z))
      (λ e. rw (ne_eqb s 2 (λ q. omega arith), ne_eqb s 3 (λ q. omega arith), lt-leb s 4 e, z))
    where
      z : eqb c.running c.running ≡ true
      z = eqb_same c.running

  done_running : (e : Event) → is_tick e ≡ false → GoesOn e (done c e)
  unfolding done start_core running_without
  done_running Start h = refl
  done_running (Tick at) h = false_true (sym h)
  done_running (Stop v) h = rw (eqb_swap c.running v) (stopped (eqb v c.running))
  done_running (Shutdown v) h = refl
  done_running (Restart v) h = restarted (eqb v c.running)
  done_running (Extra v) h = refl
  done_running (Call s n at) h = call_running s n at
  done_running (Write o x) h = refl
  done_running (Fault i x) h = rw (eqb_same c.running)
  done_running (Copy p w) h =
      copy_case (λ (x : Change). GoesOn (Copy p w) (changed_by c x)) c.running c.queue c.running (saved_at p.next (vm_at c c.running)) (failure_of c w p).code (failure_of c w p).detail
      (λ e. refl) (λ e. rw (eqb_same c.running))

-- ---- at a tick

-- whom the table names is a VM of the configuration, or nobody
named_few : (g : Config) → Given g → (k : ℕ) (c : Core) → Reached g k c → (table_at g k ≡ nobody) ⊎ (table_at g k < g.count)
named_few g d k c p =
    let t = tick_placed g d k c p in
    subst (λ (o : ℕ). (o ≡ nobody) ⊎ (o < g.count)) t.owner ((legal_is g d.legal).owned (tick_clock c).slot t.slot)

module _ (g : Config) (d : Given g) (es : List Event) where
  abbrev k : ℕ
  k = ticks_of step_of g es

  abbrev c : Core
  c = state_of step_of g es

  abbrev ms : List Moment
  ms = history step_of g es

  chosen : runner_by c (table_at g k) ≡ chosen_in g (table_at g k) ms
  unfolding runner_of
  chosen =
      ⊎_elim
      (λ z. rw z (ap front_of (ours_queue g d es)))
      (λ l. ap (λ (q : List ℕ). pick (is_spare (table_at g k)) (front_of q) (pick (ready_at c (table_at g k)) (table_at g k) nobody)) (ours_queue g d es)
      ∙ ap (λ (t : ℕ). pick (is_spare (table_at g k)) (front_of (queue_in g ms)) (pick (eqb t 1) (table_at g k) nobody)) (ours_standing g d es (table_at g k) l))
      (named_few g d k c (ours_at g d es))

-- D2, D6, D7, D15, D19, D23, D28
pub ours_runs : Runs step_of
ours_runs g d es e =
    record {
      tick = λ h. sym (ours_tells g d es e).running ∙ (lawful g d (k g d es) (c g d es) (ours_at g d es) e).ran h ∙ chosen g d es;
      other = λ w h. when_done (k g d es) (c g d es) e (λ (s : Stepped). GoesOn (c g d es) e s) (λ s r. done_running (c g d es) e h) w;
    }
