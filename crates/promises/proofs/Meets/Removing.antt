-- Ours meets the second demand on what is removed from the queue: the number told, and by how much the queue is shorter.
use Prim.Native.Nat.{ℕ, ◌+◌}
use lib.ListN.{length}
use mathlib.Core.Bool.{true}
use mathlib.Core.Path.{ap, ◌∙◌, ◌≡◌}
use native.Mathlib.Omega.{arith}
use Rattle.basis.proofs.Laws.{false_true}
use Rattle.config.specs.declared.Config.{Config}
use Rattle.rig_core.specs.Events.{step_of}
use Rattle.core_laws.proofs.Events.{sound_step}
use Rattle.core_laws.proofs.Facts.{entries_len, sound_is}
use Rattle.history.proofs.Lawful.{Lawful, lawful}
use Rattle.history.proofs.Steps.{ours_at, step_at}
use Rattle.history.specs.History.{Moment, next, state_of}
use Rattle.history.specs.Queueing.{Add, Effect, Keep, Remove, Take, affected, effect, is_remove, removed_from, removes}
use Rattle.promises.proofs.Meets.Starting.{ours_stays_sound}
use Rattle.promises.proofs.Meets.Tracing.{ours_queue}
use Rattle.promises.specs.Answering.{Removing}
use Rattle.queue.proofs.Meaning.{others_count}
use Rattle.queue.specs.Entries.{entries}

-- the entries before are those after and those that the answer tells of
removed_law : (g : Config) (m : Moment) → Lawful g m → (v : ℕ) → removes g v m ≡ true → length (entries m.before.queue) ≡ length (entries m.after.queue) + m.answer.removed
removed_law g m l v = go (effect g m) l.queue l.removed
  where
    go : (f : Effect) → entries m.after.queue ≡ affected f (entries m.before.queue) → m.answer.removed ≡ removed_from f (entries m.before.queue)
        → is_remove v f ≡ true → length (entries m.before.queue) ≡ length (entries m.after.queue) + m.answer.removed
    go Keep q r h = false_true h
    go Take q r h = false_true h
    go (Add w) q r h = false_true h
    go (Remove w) q r h = omega (arith, others_count w (entries m.before.queue), ap length q, r)

-- A8
pub ours_removing : Removing step_of
ours_removing g d es e =
    let c = state_of step_of g es in
    let i = ours_at g d es in
    let l = lawful g d _ _ i e in
    let s = ours_stays_sound g d es in
    let before = entries_len c i.shaped (sound_is c s) in
    let after = entries_len (step_of c e).core (step_at g d _ _ i e).shaped (sound_is _ (sound_step c e i.shaped s)) in
    record { count = l.removed ∙ ap (removed_from (effect g (next step_of g es e))) (ours_queue g d es); shorter = λ v h. omega (arith, before, after, removed_law g (next step_of g es e) l v h) }
