-- Ours meets the second demand on Start and Restart, and the state of a run is always sound.
use Prim.Native.Nat.{ℕ, ◌<◌, ◌≤◌}
use borrow.Author.Tests.{eqb-true, lt-ltb, ne_eqb}
use lib.ListN.{get_or}
use lib.Seq.{get_or-set_same}
use lib.Dec.{eqb}
use mathlib.Core.Bool.{Bool, false, true}
use mathlib.Core.List.{List, [], ◌∷◌}
use mathlib.Core.Path.{ap, refl, subst, sym, ◌∙◌, ◌≡◌}
use native.Mathlib.Omega.{arith}
use Rattle.basis.proofs.Laws.{both_left, both_right, false_true}
use Rattle.basis.specs.Choice.{both}
use Rattle.config.proofs.Legality.{legal_is}
use Rattle.config.specs.Ranges.{Given}
use Rattle.config.specs.Sizes.{entry_at}
use Rattle.config.specs.declared.Config.{Config}
use Rattle.rig_core.specs.Events.{done, start_core, step_of}
use Rattle.rig_core.specs.Refusals.{refused, row_of}
use Rattle.rig_core.specs.Sound.{sound}
use Rattle.rig_core.specs.State.{fresh_core, vm_at}
use Rattle.rig_core.specs.declared.Core.{Core}
use Rattle.rig_core.specs.declared.Stepped.{Stepped}
use Rattle.core_laws.proofs.Always.{always_sound}
use Rattle.core_laws.proofs.View.{row_restart, step_case}
use Rattle.core_laws.specs.Run.{run}
use Rattle.event.specs.declared.Event.TheVariants.{Call, Copy, Extra, Fault, Restart, Shutdown, Start, Stop, Tick, Write}
use Rattle.event.specs.declared.Event.{Event}
use Rattle.guest.specs.Record.{fresh, started_at}
use Rattle.history.proofs.Steps.{Reached, ours_at}
use Rattle.history.specs.History.{moment, moment_of, next, state_after, state_of, ticks_of, went}
use Rattle.history.specs.Moments.{begins}
use Rattle.promises.specs.Framing.{Starts, begun_at}
use Rattle.promises.specs.Refusing.{StaysSound}
use Rattle.vms.proofs.Laws.{each_at}

pub state_run : (es : List Event) (c : Core) → state_after step_of c es ≡ run c es
unfolding state_after run
state_run [] c = refl
state_run (e ∷ es) c = state_run es (step_of c e).core

-- T6, W1 to W13
pub ours_stays_sound : StaysSound step_of
ours_stays_sound g d es = ap sound (state_run es (fresh_core g)) ∙ always_sound g d.legal d.sized es

-- an event that was not refused was done
pub when_done : (k : ℕ) (c : Core) (e : Event) (P : Stepped → Type 0) → (sound c ≡ true → row_of c e ≡ 0 → P (done c e)) → went (moment step_of k c e) ≡ true → P (step_of c e)
unfolding refused
when_done k c e P f =
    step_case c e (λ (s : Stepped). went (moment_of k c e s) ≡ true → P s)
    (λ n q h w. false_true (sym (ne_eqb n 0 h) ∙ w))
    (λ s r w. f s r)

module _ (g : Config) (d : Given g) (k : ℕ) (c : Core) (p : Reached g k c) where
  pub count_few : c.config.count ≤ 8
  count_few = let h = (legal_is g d.legal).vms.1 in let e = ap (λ (x : Config). x.count) p.same in omega arith

  pub start_ready : (v : ℕ) → v < g.count → vm_at (done c Start).core v ≡ started_at (entry_at g v)
  unfolding done start_core
  start_ready v h =
      let e = ap (λ (x : Config). x.count) p.same in
      let l : v < c.config.count = omega arith in
      each_at (λ k v. started_at (get_or c.config.entries k 0)) c.vms c.config.count v (let q = p.shaped.records in let n = count_few in omega arith)
      ∙ rw (lt-ltb v c.config.count l) (ap (λ (x : Config). started_at (entry_at x v)) p.same)

  pub restart_ready : (v : ℕ) → v < c.config.count → vm_at (done c (Restart v)).core v ≡ started_at (entry_at g v)
  unfolding done
  restart_ready v h =
      get_or-set_same c.vms v (started_at (entry_at c.config v)) fresh (let q = p.shaped.records in let n = count_few in omega arith)
      ∙ ap (λ (x : Config). started_at (entry_at x v)) p.same

no_begin : {X : Type 0} (w : Bool) → both w false ≡ true → X
no_begin w h = false_true (both_right w false h)

-- D1, D18
pub ours_starts : Starts step_of
unfolding begins
ours_starts g d es Start v l h =
    when_done (ticks_of step_of g es) (state_of step_of g es) Start (λ (s : Stepped). vm_at s.core v ≡ begun_at (entry_at g v)) (λ s r. start_ready g d _ _ (ours_at g d es) v l)
    (both_left (went (next step_of g es Start)) true h)
ours_starts g d es (Tick at) v l h = no_begin (went (next step_of g es (Tick at))) h
ours_starts g d es (Stop w) v l h = no_begin (went (next step_of g es (Stop w))) h
ours_starts g d es (Shutdown w) v l h = no_begin (went (next step_of g es (Shutdown w))) h
ours_starts g d es (Restart w) v l h =
    let e : w ≡ v = eqb-true w v (both_right (went (next step_of g es (Restart w))) (eqb w v) h) in
    subst (λ (i : ℕ). vm_at (step_of (state_of step_of g es) (Restart w)).core i ≡ begun_at (entry_at g i)) e
    (when_done (ticks_of step_of g es) (state_of step_of g es) (Restart w) (λ (s : Stepped). vm_at s.core w ≡ begun_at (entry_at g w))
    (λ s r. restart_ready g d _ _ (ours_at g d es) w (row_restart (state_of step_of g es) w r).1) (both_left (went (next step_of g es (Restart w))) (eqb w v) h))
ours_starts g d es (Extra w) v l h = no_begin (went (next step_of g es (Extra w))) h
ours_starts g d es (Call i n at) v l h = no_begin (went (next step_of g es (Call i n at))) h
ours_starts g d es (Write o x) v l h = no_begin (went (next step_of g es (Write o x))) h
ours_starts g d es (Fault i x) v l h = no_begin (went (next step_of g es (Fault i x))) h
ours_starts g d es (Copy p w) v l h = no_begin (went (next step_of g es (Copy p w))) h
