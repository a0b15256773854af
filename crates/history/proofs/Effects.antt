-- What an event does to the queue, read off the history, for any moment: which effect is a spare tick, a request, an end.
use Prim.Native.Nat.{suc, zero, ℕ}
use borrow.Author.Tests.{lt-leb, ne_eqb}
use lib.Dec.{eqb, leb}
use mathlib.Core.Bool.{Bool, false, not, true}
use mathlib.Core.Path.{refl, ◌≡◌}
use native.Mathlib.Omega.{arith}
use Rattle.basis.specs.Choice.{both, either, pick}
use Rattle.basis.specs.Nobody.{nobody}
use Rattle.config.specs.Sizes.{is_spare}
use Rattle.config.specs.declared.Config.{Config}
use Rattle.event.specs.Kinds.{is_restart, is_tick}
use Rattle.event.specs.declared.Event.TheVariants.{Call, Copy, Extra, Fault, Restart, Shutdown, Start, Stop, Tick, Write}
use Rattle.event.specs.declared.Event.{Event}
use Rattle.history.specs.History.{Moment, went}
use Rattle.history.specs.Moments.{asks, is_request, naming, spare, tells_error}
use Rattle.history.specs.Queueing.{Add, Effect, Keep, Remove, Take, effect, effect_by, is_remove, of_service, removes}
use Rattle.history.specs.Telling.{ended_by, ends, standing_by_call}
use Rattle.table.specs.Place.{table_at}

abbrev pub is_take : Effect → Bool
is_take Keep = false
is_take Take = true
is_take (Add w) = false
is_take (Remove w) = false

abbrev pub is_add : ℕ → Effect → Bool
is_add v Keep = false
is_add v Take = false
is_add v (Add w) = eqb w v
is_add v (Remove w) = false

-- ---- a Call, by its service

-- a property of what a Call does to the queue: services 0 and 1; 2 by its argument; 3; 4 by its result; any other
module _ (P : ℕ → Effect → Type 0) (v n result : ℕ)
    (zero-keeps : P 0 Keep) (one-keeps : P 1 Keep) (two : (b : Bool) → leb n 31 ≡ b → P 2 (pick b Keep (Remove v))) (three : P 3 (Remove v))
    (four : (b : Bool) → eqb result 0 ≡ b → P 4 (pick b (Add v) Keep)) (other : (s : ℕ) → P (suc (suc (suc (suc (suc s))))) (Remove v)) where
  by_service : (s : ℕ) → P s (of_service v s n result)
  by_service zero = zero-keeps
  by_service (suc zero) = one-keeps
  by_service (suc (suc zero)) = two (leb n 31) refl
  by_service (suc (suc (suc zero))) = three
  by_service (suc (suc (suc (suc zero)))) = four (eqb result 0) refl
  by_service (suc (suc (suc (suc (suc s))))) =
      rw
      (lt-leb (suc (suc (suc (suc (suc s))))) 1 (omega arith), ne_eqb (suc (suc (suc (suc (suc s))))) 2 (λ e. omega arith), ne_eqb (suc (suc (suc (suc (suc s))))) 4 (λ e. omega arith))
      (other s)

-- ---- one moment, whatever event it is and whether it was accepted

module _ (g : Config) (m : Moment) where
  -- only a spare tick takes an entry
  pub spare_is : spare g m ≡ is_take (effect g m)
  unfolding naming effect
  spare_is = go (went m) m.event
    where
      tick : (b : Bool) → b ≡ is_take (pick b Take Keep)
      tick true = refl
      tick false = refl

      two : (b : Bool) → false ≡ is_take (pick b Keep (Remove m.before.running))
      two true = refl
      two false = refl

      four : (b : Bool) → false ≡ is_take (pick b (Add m.before.running) Keep)
      four true = refl
      four false = refl

      copied : (b : Bool) → false ≡ is_take (pick b (Remove m.before.running) Keep)
      copied true = refl
      copied false = refl

      go : (w : Bool) (e : Event) → both (both w (is_tick e)) (eqb (table_at g m.ticks) nobody) ≡ is_take (pick w (effect_by g m e) Keep)
      go false e = refl
      go true Start = refl
      go true (Tick at) = tick (is_spare (table_at g m.ticks))
      go true (Stop v) = refl
      go true (Shutdown v) = refl
      go true (Restart v) = refl
      go true (Extra v) = refl
      go true (Call s n at) = by_service (λ s f. false ≡ is_take f) m.before.running n m.answer.result refl refl (λ b e. two b) refl (λ b e. four b) (λ s. refl) s
      go true (Write o x) = refl
      go true (Fault k x) = refl
      go true (Copy p w) = copied (tells_error m.answer)

  -- only an accepted request adds one
  pub asks_is : (v : ℕ) → asks v m ≡ is_add v (effect g m)
  unfolding asks effect
  asks_is v = go (went m) m.event
    where
      tick : (b : Bool) → false ≡ is_add v (pick b Take Keep)
      tick true = refl
      tick false = refl

      two : (b : Bool) → false ≡ is_add v (pick b Keep (Remove m.before.running))
      two true = refl
      two false = refl

      four : (b : Bool) → both b (eqb m.before.running v) ≡ is_add v (pick b (Add m.before.running) Keep)
      four true = refl
      four false = refl

      copied : (b : Bool) → false ≡ is_add v (pick b (Remove m.before.running) Keep)
      copied true = refl
      copied false = refl

      go : (w : Bool) (e : Event) → both w (is_request v m.before m.answer e) ≡ is_add v (pick w (effect_by g m e) Keep)
      go false e = refl
      go true Start = refl
      go true (Tick at) = tick (is_spare (table_at g m.ticks))
      go true (Stop w) = refl
      go true (Shutdown w) = refl
      go true (Restart w) = refl
      go true (Extra w) = refl
      go true (Call s n at) =
          by_service (λ s f. both (eqb s 4) (both (eqb m.answer.result 0) (eqb m.before.running v)) ≡ is_add v f) m.before.running n m.answer.result
          refl refl (λ b e. two b) refl (λ b e. rw e (four b)) (λ s. rw (ne_eqb (suc (suc (suc (suc (suc s))))) 4 (λ e. omega arith))) s
      go true (Write o x) = refl
      go true (Fault k x) = refl
      go true (Copy p w) = copied (tells_error m.answer)

  -- the entries of a VM leave where it ends or is restarted, and nowhere else
  pub removes_is : (v : ℕ) → removes g v m ≡ ends v m
  unfolding effect ends
  removes_is v = go (went m) m.event
    where
      tick : (b : Bool) → is_remove v (pick b Take Keep) ≡ false
      tick true = refl
      tick false = refl

      -- an end makes the standing another than 1
      ended : (t : ℕ) (b : Bool) → eqb t 1 ≡ false → b ≡ not (eqb (pick b t 1) 1)
      ended t true h = rw h
      ended t false h = refl

      stays : (b : Bool) → false ≡ not (eqb (pick b 1 1) 1)
      stays true = refl
      stays false = refl

      restarted : (b : Bool) → b ≡ either b (not (eqb (pick b 1 1) 1))
      restarted true = refl
      restarted false = refl

      Called : ℕ → ℕ → Effect → Type 0
      Called n s f = is_remove v f ≡ not (eqb (pick (eqb m.before.running v) (standing_by_call s n 1) 1) 1)

      two : (n : ℕ) (b : Bool) → leb n 31 ≡ b → Called n 2 (pick b Keep (Remove m.before.running))
      two n true e = rw e (stays (eqb m.before.running v))
      two n false e = rw e (ended 4 (eqb m.before.running v) refl)

      four : (n : ℕ) (b : Bool) → Called n 4 (pick b (Add m.before.running) Keep)
      four n true = stays (eqb m.before.running v)
      four n false = stays (eqb m.before.running v)

      many : (n s : ℕ) → Called n (suc (suc (suc (suc (suc s))))) (Remove m.before.running)
      many n s =
          rw
          (ne_eqb (suc (suc (suc (suc (suc s))))) 2 (λ e. omega arith), ne_eqb (suc (suc (suc (suc (suc s))))) 3 (λ e. omega arith), lt-leb (suc (suc (suc (suc (suc s))))) 4 (omega arith))
          (ended 4 (eqb m.before.running v) refl)

      copied : (b : Bool) → is_remove v (pick b (Remove m.before.running) Keep) ≡ not (eqb (pick (both b (eqb m.before.running v)) 4 1) 1)
      copied true = ended 4 (eqb m.before.running v) refl
      copied false = refl

      go : (w : Bool) (e : Event) → is_remove v (pick w (effect_by g m e) Keep) ≡ both w (either (is_restart v e) (ended_by v m.before.running m.answer e))
      go false e = refl
      go true Start = refl
      go true (Tick at) = tick (is_spare (table_at g m.ticks))
      go true (Stop w) = ended 2 (eqb w v) refl
      go true (Shutdown w) = refl
      go true (Restart w) = restarted (eqb w v)
      go true (Extra w) = refl
      go true (Call s n at) =
          by_service (Called n) m.before.running n m.answer.result (stays (eqb m.before.running v)) (stays (eqb m.before.running v)) (two n)
          (ended 3 (eqb m.before.running v) refl) (λ b e. four n b) (many n) s
      go true (Write o x) = refl
      go true (Fault k x) = ended 4 (eqb m.before.running v) refl
      go true (Copy p w) = copied (tells_error m.answer)
