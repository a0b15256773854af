-- That the rules leave only one thing to do with the bytes of the window.
use Prim.Native.Nat.{ℕ}
use mathlib.Core.Bool.{Bool, false, true}
use mathlib.Core.List.{List, [], ◌++◌, ◌∷◌}
use mathlib.Core.Path.{ap, refl, subst, sym, ◌∙◌, ◌≡◌}
use Rattle.basis.proofs.Laws.{both_left, both_right, false_true}
use Rattle.config.specs.Ranges.{Given}
use Rattle.config.specs.declared.Config.{Config}
use Rattle.rig_core.specs.Events.{step_of}
use Rattle.rig_core.specs.Memory.{memory_after}
use Rattle.rig_core.specs.State.{fresh_core}
use Rattle.rig_core.specs.declared.Core.{Core}
use Rattle.event.specs.Kinds.{is_copy}
use Rattle.event.specs.declared.Event.TheVariants.{Call, Copy, Extra, Fault, Restart, Shutdown, Start, Stop, Tick, Write}
use Rattle.event.specs.declared.Event.{Event}
use Rattle.history.proofs.More.{state_more}
use Rattle.history.specs.History.{Behaviour, Moment, next, state_after, state_of, went}
use Rattle.promises.proofs.Meets.All.{ours_rules}
use Rattle.promises.proofs.Meets.Copying.{ours_copies}
use Rattle.promises.proofs.Only.Runs.{same_moment}
use Rattle.promises.specs.Copying.{Copier, Copies, bytes_after, copying}
use Rattle.promises.specs.Demands.{Rules}
use Rattle.window.specs.declared.Pieces.{Pieces}
use Rattle.window.specs.declared.Window.{Window}

-- a Copy is one with its numbers
copy_is : (e : Event) → is_copy e ≡ true → (p : Pieces) × (w : Window) × (e ≡ Copy p w)
copy_is Start h = false_true h
copy_is (Tick at) h = false_true h
copy_is (Stop v) h = false_true h
copy_is (Shutdown v) h = false_true h
copy_is (Restart v) h = false_true h
copy_is (Extra v) h = false_true h
copy_is (Call s n at) h = false_true h
copy_is (Write o x) h = false_true h
copy_is (Fault k d) h = false_true h
copy_is (Copy p w) h = (p, w, refl)

-- C10, C11: whatever keeps the rules and the promise on the bytes does to them, at each event of a run, what ours does
pub only_our_bytes : (b : Behaviour) (t : Copier) → Rules b → Copies t b → (g : Config) → Given g → (es : List Event) (e : Event) (bytes : List ℕ)
    → t (state_of b g es) e bytes ≡ memory_after (state_of step_of g es) e bytes
only_our_bytes b t r q g d es e bytes = go (copying (next b g es e)) refl
  where
    same : next b g es e ≡ next step_of g es e
    same = same_moment b step_of r ours_rules g d es e

    go : (i : Bool) → copying (next b g es e) ≡ i → t (state_of b g es) e bytes ≡ memory_after (state_of step_of g es) e bytes
    go true h =
        let x = copy_is e (both_left (is_copy e) _ (both_right (went (next b g es e)) _ h)) in
        (q g d es e).copies h x.0 x.1 x.2 bytes ∙ sym ((ours_copies g d es e).copies (subst (λ (m : Moment). copying m ≡ true) same h) x.0 x.1 x.2 bytes)
    go false h = (q g d es e).stays h bytes ∙ sym ((ours_copies g d es e).stays (subst (λ (m : Moment). copying m ≡ false) same h) bytes)

-- so a run leaves the same bytes
pub only_our_window : (b : Behaviour) (t : Copier) → Rules b → Copies t b → (g : Config) → Given g → (es : List Event) (bytes : List ℕ)
    → bytes_after b t (fresh_core g) es bytes ≡ bytes_after step_of memory_after (fresh_core g) es bytes
unfolding state_after bytes_after
only_our_window b t r q g d es bytes = from [] es bytes
  where
    from : (es fs : List Event) (bytes : List ℕ) → bytes_after b t (state_of b g es) fs bytes ≡ bytes_after step_of memory_after (state_of step_of g es) fs bytes
    from es [] bytes = refl
    from es (e ∷ fs) bytes =
        ap (λ (l : List ℕ). bytes_after b t (b (state_of b g es) e).core fs l) (only_our_bytes b t r q g d es e bytes)
        ∙ ap (λ (c : Core). bytes_after b t c fs (memory_after (state_of step_of g es) e bytes)) (sym (state_more b es (fresh_core g) e))
        ∙ from (es ++ (e ∷ [])) fs (memory_after (state_of step_of g es) e bytes)
        ∙ ap (λ (c : Core). bytes_after step_of memory_after c fs (memory_after (state_of step_of g es) e bytes)) (state_more step_of es (fresh_core g) e)
