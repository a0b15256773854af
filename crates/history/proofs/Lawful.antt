-- The law of one moment of ours: the queue by the event's effect, whom a tick runs, and what is removed.
use Prim.Native.Nat.{ℕ, ◌<◌, ◌≤◌}
use borrow.Author.Tests.{le-leb, leb-false, lt-leb, ne_eqb}
use mathlib.Core.Bool.{Bool, false, true}
use mathlib.Core.Path.{ap, refl, ◌∙◌, ◌≡◌}
use native.Mathlib.Omega.{arith}
use Rattle.basis.proofs.Laws.{false_true}
use Rattle.change.specs.Changes.{queue_without}
use Rattle.change.specs.declared.Change.{Change}
use Rattle.config.proofs.Legality.{legal_is}
use Rattle.config.specs.Ranges.{Given}
use Rattle.config.specs.Sizes.{handler_at, is_spare}
use Rattle.config.specs.declared.Config.{Config}
use Rattle.rig_core.specs.Changes.{changed_by}
use Rattle.rig_core.specs.Events.{done, failure_of, start_core, step_of, tick_clock, tick_owner, tick_queue, tick_turn}
use Rattle.rig_core.specs.Refusals.{refused, row_of}
use Rattle.rig_core.specs.State.{full, vm_at}
use Rattle.rig_core.specs.declared.Core.{Core}
use Rattle.rig_core.specs.declared.Stepped.{Stepped}
use Rattle.core_laws.proofs.View.{call_case, copy_case, row_extra, step_case}
use Rattle.event.specs.declared.Event.TheVariants.{Call, Copy, Extra, Fault, Restart, Shutdown, Start, Stop, Tick, Write}
use Rattle.event.specs.declared.Event.{Event}
use Rattle.guest.specs.Record.{saved_at}
use Rattle.history.proofs.Steps.{Reached, tick_owner_lem}
use Rattle.history.specs.History.{Moment, moment, moment_of, ticking}
use Rattle.history.specs.Queueing.{affected, effect, removed_from}
use Rattle.queue.proofs.Meaning.{entries_popped, entries_pushed, entries_without}
use Rattle.queue.specs.Entries.{entries, front_of, others}
use Rattle.table.specs.Place.{table_at}
use Rattle.vms.proofs.Records.{turn_who}
use Rattle.vms.specs.Tick.{runner_of}

-- D6, D7, by the state before the tick
abbrev pub runner_by : Core → ℕ → ℕ
runner_by c owner = runner_of owner (front_of (entries c.queue)) c.vms

pub record Lawful (g : Config) (m : Moment) : Type 0 where
  pub queue : entries m.after.queue ≡ affected (effect g m) (entries m.before.queue)
  pub ran : ticking m ≡ true → m.answer.running ≡ runner_by m.before (table_at g m.ticks)
  pub removed : m.answer.removed ≡ removed_from (effect g m) (entries m.before.queue)

module _ (g : Config) (d : Given g) (k : ℕ) (c : Core) (p : Reached g k c) where
  room_few : c.config.room ≤ 16
  room_few = ap_le p.same (legal_is g d.legal).queue
    where
      ap_le : c.config ≡ g → g.room ≤ 16 → c.config.room ≤ 16
      ap_le e h = omega (arith, h, ap (λ (x : Config). x.room) e)

  refused_law : (e : Event) (n : ℕ) → (n ≡ 0 → ⊥) → Lawful g (moment_of k c e (refused c n))
  unfolding refused effect
  refused_law e n h = let z = ne_eqb n 0 h in record { queue = rw z; ran = λ t. false_true (rw z at t); removed = rw z }

  tick_law : (at : ℕ) → Lawful g (moment_of k c (Tick at) (done c (Tick at)))
  unfolding effect done tick_queue tick_turn
  tick_law at = go (is_spare (table_at g k)) refl (tick_owner_lem g d k c p)
    where
      who : tick_owner c ≡ table_at g k → (tick_turn c at).who ≡ runner_by c (table_at g k)
      who e = turn_who c.running at c.config.count (tick_owner c) (front_of (entries c.queue)) (tick_clock c).left c.config.handlers c.vms ∙ ap (λ (o : ℕ). runner_by c o) e

      go : (b : Bool) → is_spare (table_at g k) ≡ b → tick_owner c ≡ table_at g k → Lawful g (moment_of k c (Tick at) (done c (Tick at)))
      go true q e = record { queue = rw (e, q) (entries_popped c.queue); ran = λ z. who e; removed = rw q }
      go false q e = record { queue = rw (e, q); ran = λ z. who e; removed = rw q }

  -- a Call, by its service
  call_law : (s n at : ℕ) → Lawful g (moment_of k c (Call s n at) (done c (Call s n at)))
  unfolding effect done
  call_law s n at =
      call_case P c.running c.queue (full c) (handler_at c.config c.running) c.running s n (saved_at at (vm_at c c.running))
      (λ h. record { queue = rw h; ran = λ z. false_true z; removed = rw h })
      (λ h. record { queue = rw h; ran = λ z. false_true z; removed = rw h })
      (λ h i. (let l = le-leb n 31 i in record { queue = rw (h, l); ran = λ z. false_true z; removed = rw (h, l) }))
      (λ h i. (let l = lt-leb n 31 i in record { queue = rw (h, l) without; ran = λ z. false_true z; removed = rw (h, l) }))
      (λ h. record { queue = rw h without; ran = λ z. false_true z; removed = rw h })
      (λ h i. record { queue = rw h; ran = λ z. false_true z; removed = rw h })
      (λ h i. (let few : c.queue.len < 16 = omega (arith, leb-false c.config.room c.queue.len i, room_few) in
      record { queue = rw h (entries_pushed c.running c.queue few); ran = λ z. false_true z; removed = rw h }))
      (λ h. (let a = lt-leb s 1 (omega arith) in let b = ne_eqb s 2 (λ e. omega arith) in let f = ne_eqb s 4 (λ e. omega arith) in
      record { queue = rw (a, b, f) without; ran = λ z. false_true z; removed = rw (a, b, f) }))
    where
      P : Change → Type 0
      P x = Lawful g (moment_of k c (Call s n at) (changed_by c x))

      without : entries (queue_without c.queue c.running) ≡ others c.running (entries c.queue)
      without = entries_without c.running c.queue

  done_law : (e : Event) → row_of c e ≡ 0 → Lawful g (moment_of k c e (done c e))
  unfolding effect done start_core
  done_law Start r = record { queue = refl; ran = λ z. false_true z; removed = refl }
  done_law (Tick at) r = tick_law at
  done_law (Stop v) r =
      record { queue = entries_without v c.queue; ran = λ z. false_true z; removed = refl }
  done_law (Shutdown v) r = record { queue = refl; ran = λ z. false_true z; removed = refl }
  done_law (Restart v) r = record { queue = entries_without v c.queue; ran = λ z. false_true z; removed = refl }
  done_law (Extra v) r =
      let few : c.queue.len < 16 = omega (arith, (row_extra c v r).3, room_few) in
      record { queue = entries_pushed v c.queue few; ran = λ z. false_true z; removed = refl }
  done_law (Call s n at) r = call_law s n at
  done_law (Write o x) r = record { queue = refl; ran = λ z. false_true z; removed = refl }
  done_law (Fault n x) r =
      record { queue = entries_without c.running c.queue; ran = λ z. false_true z; removed = refl }
  done_law (Copy q w) r =
      copy_case (λ (x : Change). Lawful g (moment_of k c (Copy q w) (changed_by c x))) c.running c.queue c.running (saved_at q.next (vm_at c c.running)) (failure_of c w q).code (failure_of c w q).detail
      (λ h. record { queue = refl; ran = λ z. false_true z; removed = refl })
      (λ h. record { queue = entries_without c.running c.queue; ran = λ z. false_true z; removed = refl })

  pub lawful : (e : Event) → Lawful g (moment step_of k c e)
  lawful e = step_case c e (λ (s : Stepped). Lawful g (moment_of k c e s)) (λ n q h. refused_law e n h) (λ s r. done_law e r)
