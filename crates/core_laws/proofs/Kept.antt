-- What every event leaves alone: the configuration, the table but for a Tick, and the lengths of the lists.
use Prim.Native.Nat.{ℕ}
use lib.ListN.{get_or, length, length-set}
use mathlib.Core.Bool.{false}
use mathlib.Core.List.{List}
use mathlib.Core.Path.{ap, refl, subst, sym, ◌∙◌, ◌≡◌}
use Rattle.basis.proofs.Laws.{false_true, pick_case}
use Rattle.change.specs.Changes.{queue_without}
use Rattle.change.specs.declared.Change.{Change}
use Rattle.config.specs.Ranges.{Sized}
use Rattle.config.specs.Sizes.{is_spare}
use Rattle.config.specs.declared.Config.{Config}
use Rattle.rig_core.specs.Changes.{replaced}
use Rattle.rig_core.specs.Events.{done, failure_of, start_core, step_of, tick_clock, tick_owner, tick_queue, tick_turn}
use Rattle.rig_core.specs.State.{Shaped, fresh_core, full, with_clock, with_queue, with_running, with_vms}
use Rattle.rig_core.specs.declared.Core.{Core}
use Rattle.core_laws.proofs.Refused.{refused_core}
use Rattle.core_laws.proofs.View.{call_case, copy_case, done_case, step_case}
use Rattle.event.specs.Kinds.{is_start, is_tick}
use Rattle.event.specs.declared.Event.TheVariants.{Call, Copy, Extra, Fault, Restart, Shutdown, Start, Stop, Tick, Write}
use Rattle.event.specs.declared.Event.{Event}
use Rattle.guest.specs.Record.{started_at}
use Rattle.guest.specs.declared.Vm.{Vm}
use Rattle.queue.proofs.Meaning.{places_popped, places_pushed, places_without}
use Rattle.queue.specs.Entries.{Places, entries, front_of}
use Rattle.queue.specs.declared.Queue.{Queue}
use Rattle.table.proofs.Moves.{SamePlace, same_place}
use Rattle.table.specs.Position.{next_clock}
use Rattle.table.specs.declared.Clock.{Clock}
use Rattle.vms.proofs.Laws.{each_length}
use Rattle.vms.proofs.Records.{turn_length}

-- ---- the configuration

pub done_config : (c : Core) (e : Event) → (done c e).core.config ≡ c.config
unfolding start_core
done_config c = done_case c (λ e s. s.core.config ≡ c.config) refl (λ at. refl) (λ e d i j. refl)

pub step_config : (c : Core) (e : Event) → (step_of c e).core.config ≡ c.config
step_config c e =
    step_case c e (λ s. s.core.config ≡ c.config)
    (λ n q h. ap (λ (d : Core). d.config) (refused_core c n))
    (λ s r. done_config c e)

-- ---- the clock (D10: no other event than a Tick moves the table)

pub done_clock : (c : Core) (e : Event) → is_tick e ≡ false → is_start e ≡ false → (done c e).core.clock ≡ c.clock
done_clock c =
    done_case c (λ e s. is_tick e ≡ false → is_start e ≡ false → s.core.clock ≡ c.clock)
    (λ t s. false_true (sym s)) (λ at t s. false_true (sym t)) (λ e d i j t s. refl)

pub step_clock : (c : Core) (e : Event) → is_tick e ≡ false → is_start e ≡ false → (step_of c e).core.clock ≡ c.clock
step_clock c e t s =
    step_case c e (λ x. x.core.clock ≡ c.clock)
    (λ n q h. ap (λ (d : Core). d.clock) (refused_core c n))
    (λ y r. done_clock c e t s)

pub done_place : (c : Core) (e : Event) → is_tick e ≡ false → SamePlace (done c e).core.clock c.clock
unfolding start_core
done_place c =
    done_case c (λ e s. is_tick e ≡ false → SamePlace s.core.clock c.clock)
    (λ t. record { ticked = refl; slot = refl; left = refl }) (λ at t. false_true (sym t)) (λ e d i j t. same_place _ _ refl)

-- D10, M2: no event but a Tick moves the table
pub step_place : (c : Core) (e : Event) → is_tick e ≡ false → SamePlace (step_of c e).core.clock c.clock
step_place c e t =
    step_case c e (λ x. SamePlace x.core.clock c.clock)
    (λ n q h. same_place _ _ (ap (λ (d : Core). d.clock) (refused_core c n)))
    (λ y r. done_place c e t)

-- a Tick that is done moves it by one (D5)
pub tick_place : (c : Core) (at : ℕ) → (done c (Tick at)).core.clock ≡ next_clock c.config.slots c.config.durations c.clock
unfolding done tick_clock
tick_place c at = refl

-- ---- the lengths

pub shaped_fresh : (g : Config) → Sized g → Shaped (fresh_core g)
shaped_fresh g s = record { records = refl; places = record { items = refl; counts = refl }; sized = s }

-- eight records, sixteen places and eight counts, with the same configuration
pub reshaped : (c : Core) → Shaped c → (k : Clock) (r : ℕ) (q : Queue) (l : List Vm) → length l ≡ 8 → Places q
    → Shaped (with_vms (with_queue (with_running (with_clock c k) r) q) l)
reshaped c s k r q l e f = record { records = e; places = f; sized = s.sized }

pub shaped_replaced : (c : Core) → Shaped c → (v : ℕ) (vm : Vm) (r : ℕ) (q : Queue) → Places q → Shaped (replaced c v vm r q)
shaped_replaced c s v vm r q f = reshaped c s c.clock r q _ (length-set c.vms v vm ∙ s.records) f

without_places : (c : Core) → Shaped c → (v : ℕ) → Places (queue_without c.queue v)
without_places c s v = places_without v c.queue s.places

tick_places : (c : Core) → Shaped c → Places (tick_queue c)
unfolding tick_queue
tick_places c s =
    pick_case (λ (q : Queue). Places q) (is_spare (tick_owner c)) _ _
    (λ h. places_popped c.queue s.places)
    (λ h. s.places)

pub shaped_done : (c : Core) → Shaped c → (e : Event) → Shaped (done c e).core
unfolding done start_core tick_turn
shaped_done c s Start = reshaped c s _ c.running c.queue _ (each_length (λ k v. started_at (get_or c.config.entries k 0)) c.vms c.config.count ∙ s.records) s.places
shaped_done c s (Tick at) =
    reshaped c s (tick_clock c) _ (tick_queue c) _
    (turn_length c.running at c.config.count (tick_owner c) (front_of (entries c.queue)) (tick_clock c).left c.config.handlers c.vms ∙ s.records)
    (tick_places c s)
shaped_done c s (Stop v) = shaped_replaced c s _ _ _ _ (without_places c s v)
shaped_done c s (Shutdown v) = shaped_replaced c s _ _ _ _ s.places
shaped_done c s (Restart v) = shaped_replaced c s _ _ _ _ (without_places c s v)
shaped_done c s (Extra v) = shaped_replaced c s _ _ _ _ (places_pushed v c.queue s.places)
shaped_done c s (Call service argument next) =
    shaped_replaced c s _ _ _ _
    (call_case (λ (d : Change). Places d.queue) c.running c.queue (full c) _ c.running service argument _
    (λ h. s.places) (λ h. s.places) (λ h l. s.places) (λ h l. without_places c s c.running) (λ h. without_places c s c.running)
    (λ h l. s.places) (λ h l. places_pushed c.running c.queue s.places) (λ h. without_places c s c.running))
shaped_done c s (Write o x) = shaped_replaced c s _ _ _ _ s.places
shaped_done c s (Fault k d) = shaped_replaced c s _ _ _ _ (without_places c s c.running)
shaped_done c s (Copy p w) =
    shaped_replaced c s _ _ _ _
    (copy_case (λ (d : Change). Places d.queue) c.running c.queue c.running _ (failure_of c w p).code (failure_of c w p).detail
    (λ h. s.places) (λ h. without_places c s c.running))

-- T1, T5: eight records, sixteen places and eight counts
pub shaped_step : (c : Core) (e : Event) → Shaped c → Shaped (step_of c e).core
shaped_step c e s =
    step_case c e (λ x. Shaped x.core)
    (λ n q h. subst (λ (d : Core). Shaped d) (sym (refused_core c n)) s)
    (λ y r. shaped_done c s e)
