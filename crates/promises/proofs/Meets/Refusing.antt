-- Ours meets the first demand: what is refused, with which number, and that it changes nothing.
use Prim.Native.Nat.{ℕ}
use mathlib.Core.Bool.{Bool, false, not, true}
use mathlib.Core.Path.{ap, refl, sym, ◌∙◌, ◌≡◌}
use Rattle.basis.specs.Choice.{pick}
use Rattle.rig_core.specs.Events.{step_of}
use Rattle.rig_core.specs.Refusals.{refusal_of, refused, row_of}
use Rattle.rig_core.specs.Sound.{sound}
use Rattle.rig_core.specs.declared.Core.{Core}
use Rattle.rig_core.specs.declared.Stepped.{Stepped}
use Rattle.core_laws.proofs.Refused.{step_number}
use Rattle.core_laws.proofs.View.{step_refused}
use Rattle.event.specs.declared.Event.TheVariants.{Call, Copy, Extra, Fault, Restart, Shutdown, Start, Stop, Tick, Write}
use Rattle.event.specs.declared.Event.{Event}
use Rattle.guest.specs.Write.{is_field}
use Rattle.promises.specs.Refusing.{Refuses, first_of, lines_by, lines_of, says_no}

-- R1, R5: the rows of the core's definition, asked of an event, are the lines of its own
lines_rows : (c : Core) (e : Event) → first_of (lines_by c e) ≡ row_of c e
unfolding first_of row_of is_field
lines_rows c Start = refl
lines_rows c (Tick at) = refl
lines_rows c (Stop v) = refl
lines_rows c (Shutdown v) = refl
lines_rows c (Restart v) = refl
lines_rows c (Extra v) = refl
lines_rows c (Call s n at) = refl
lines_rows c (Write o x) = refl
lines_rows c (Fault k d) = refl
lines_rows c (Copy p w) = refl

pub lines_first : (c : Core) (e : Event) → first_of (lines_of c e) ≡ refusal_of c e
unfolding first_of lines_of refusal_of
lines_first c e = rw (lines_rows c e) (go (sound c))
  where
    go : (b : Bool) → pick (not b) 1 (row_of c e) ≡ pick b (row_of c e) 1
    go true = refl
    go false = refl

-- R1 to R4
pub ours_refuses : Refuses step_of
unfolding refused
ours_refuses c e =
    let f : (first_of (lines_of c e) ≡ 0 → ⊥) → refusal_of c e ≡ 0 → ⊥ = λ h z. h (lines_first c e ∙ z) in
    record {
      number = step_number c e ∙ sym (lines_first c e);
      untouched = λ h. ap (λ (s : Stepped). s.core) (step_refused c e (f h));
      answered = λ h. ap (λ (s : Stepped). s.answer) (step_refused c e (f h)) ∙ ap (λ (n : ℕ). says_no c n) (sym (lines_first c e));
    }
