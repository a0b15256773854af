-- What one lawful moment says of a VM: whom a tick runs, and what a spare tick takes out of the queue.
use Prim.Native.Nat.{ℕ, ◌<◌}
use borrow.Author.Tests.{eq-eqb, eqb-true, ne_eqb}
use mathlib.Core.Bool.{Bool, false, true}
use mathlib.Core.List.{List, ◌∷◌}
use mathlib.Core.Path.{ap, refl, sym, ◌∙◌, ◌≡◌}
use native.Mathlib.Omega.{arith}
use Rattle.basis.proofs.Laws.{both_left, both_right, false_true}
use Rattle.basis.specs.Choice.{pick}
use Rattle.basis.specs.Nobody.{nobody}
use Rattle.config.specs.Sizes.{is_spare}
use Rattle.config.specs.declared.Config.{Config}
use Rattle.rig_core.specs.State.{ready_at}
use Rattle.rig_core.specs.declared.Core.{Core}
use Rattle.history.proofs.Effects.{asks_is, is_add, is_take, spare_is}
use Rattle.history.proofs.Lawful.{Lawful, runner_by}
use Rattle.history.specs.History.{Moment, ticking}
use Rattle.history.specs.Moments.{asks, naming, runs, spare}
use Rattle.history.specs.Queueing.{Add, Effect, Keep, Remove, Take, affected, effect}
use Rattle.queue.proofs.Counted.{front_rest}
use Rattle.queue.specs.Entries.{entries, front_of, rest}
use Rattle.table.specs.Place.{table_at}
use Rattle.vms.specs.Tick.{runner_of}

-- whom a tick runs
runner_spare : (c : Core) (o : ℕ) → is_spare o ≡ true → runner_by c o ≡ front_of (entries c.queue)
unfolding runner_of
runner_spare c o e = rw e

runner_named : (c : Core) (o : ℕ) → is_spare o ≡ false → runner_by c o ≡ pick (ready_at c o) o nobody
unfolding runner_of
runner_named c o e = rw e

module _ (g : Config) (v : ℕ) (small : v < nobody) (m : Moment) (l : Lawful g m) where
  pub tick_of : (w : ℕ) → naming g w m ≡ true → (ticking m ≡ true) × (table_at g m.ticks ≡ w)
  unfolding naming
  tick_of w h = (both_left (ticking m) _ h, eqb-true (table_at g m.ticks) w (both_right (ticking m) _ h))

  -- a spare tick takes the oldest entry
  pub spare_takes : spare g m ≡ true → entries m.after.queue ≡ rest (entries m.before.queue)
  spare_takes h = go (effect g m) (sym (spare_is g m) ∙ h) l.queue
    where
      go : (f : Effect) → is_take f ≡ true → entries m.after.queue ≡ affected f (entries m.before.queue) → entries m.after.queue ≡ rest (entries m.before.queue)
      go Keep k q = false_true k
      go Take k q = q
      go (Add w) k q = false_true k
      go (Remove w) k q = false_true k

  pub spare_front : spare g m ≡ true → m.answer.running ≡ front_of (entries m.before.queue)
  spare_front h = let t = tick_of nobody h in l.ran t.0 ∙ runner_spare m.before (table_at g m.ticks) (eq-eqb (table_at g m.ticks) nobody t.1)

  pub handed_front : spare g m ≡ true → runs v m ≡ true → front_of (entries m.before.queue) ≡ v
  handed_front h r = sym (spare_front h) ∙ eqb-true m.answer.running v r

  pub named_runs : naming g v m ≡ true → ready_at m.before v ≡ true → runs v m ≡ true
  named_runs h r =
      let t = tick_of v h in
      let o : is_spare (table_at g m.ticks) ≡ false = ne_eqb (table_at g m.ticks) nobody (λ e. omega (arith, t.1)) in
      eq-eqb m.answer.running v (l.ran t.0 ∙ runner_named m.before (table_at g m.ticks) o ∙ rw (t.1, r))

  pub else_spare : ticking m ≡ true → runs v m ≡ true → naming g v m ≡ false → spare g m ≡ true
  unfolding naming
  else_spare t r n = rw t (go (is_spare (table_at g m.ticks)) refl)
    where
      not_named : (b : Bool) → ready_at m.before (table_at g m.ticks) ≡ b → pick b (table_at g m.ticks) nobody ≡ v → ⊥
      not_named true q e = false_true (sym n ∙ rw (t, eq-eqb (table_at g m.ticks) v e))
      not_named false q e = omega arith

      go : (b : Bool) → is_spare (table_at g m.ticks) ≡ b → b ≡ true
      go true e = refl
      go false e = absurd (not_named (ready_at m.before (table_at g m.ticks)) refl
          (sym (runner_named m.before (table_at g m.ticks) e) ∙ sym (l.ran t) ∙ eqb-true m.answer.running v r))

  pub handed_law : ticking m ≡ true → runs v m ≡ true → naming g v m ≡ false → (spare g m ≡ true) × (entries m.before.queue ≡ v ∷ entries m.after.queue)
  handed_law t r n =
      let s = else_spare t r n in
      (s, front_rest v (entries m.before.queue) small (handed_front s r) ∙ ap (λ (q : List ℕ). v ∷ q) (sym (spare_takes s)))

-- an accepted request joins the queue
pub asks_adds : (g : Config) (v : ℕ) (m : Moment) → asks v m ≡ true → effect g m ≡ Add v
asks_adds g v m h = go (effect g m) (sym (asks_is g m v) ∙ h)
  where
    go : (f : Effect) → is_add v f ≡ true → f ≡ Add v
    go Keep k = false_true k
    go Take k = false_true k
    go (Add w) k = ap Add (eqb-true w v k)
    go (Remove w) k = false_true k
