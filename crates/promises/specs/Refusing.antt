-- First demand: what cannot be done is refused, with the number of the first line of R1's table that applies, and changes nothing.
use Rattle.std.specs.Prelude.{ℕ, ◌%◌, eqb, leb, ltb, Bool, not, true, List, [], ◌∷◌, ◌≡◌}
use Rattle.basis.specs.Choice.{both, pick}
use Rattle.change.specs.declared.Answer.{Answer}
use Rattle.rig_core.specs.Sound.{sound}
use Rattle.rig_core.specs.State.{vm_at}
use Rattle.rig_core.specs.declared.Core.{Core}
use Rattle.rig_core.specs.declared.Stepped.{Stepped}
use Rattle.event.specs.declared.Event.TheVariants.{Call, Copy, Extra, Fault, Restart, Shutdown, Start, Stop, Tick, Write}
use Rattle.event.specs.declared.Event.{Event}
use Rattle.history.specs.History.{AtEachState, Behaviour}

pub record Line : Type 0 where
  pub applies : Bool
  pub number : ℕ

abbrev pub line : Bool → ℕ → Line
line b n = record { applies = b; number = n }

abbrev pub not_started : Core → Line
not_started c = line (not (eqb c.clock.started 1)) 2

abbrev pub no_such_vm : Core → ℕ → Line
no_such_vm c v = line (not (ltb v c.config.count)) 3

abbrev pub not_ready : Core → ℕ → Line
not_ready c v = line (not (eqb (vm_at c v).standing 1)) 4

abbrev pub nobody_runs : Core → Line
nobody_runs c = line (eqb c.running 255) 5

-- R1, R4, R5: the lines of the table that speak of an event, from top to bottom
abbrev pub lines_by : Core → Event → List Line
lines_by c Start = line (eqb c.clock.started 1) 7 ∷ []
lines_by c (Tick at) = not_started c ∷ []
lines_by c (Stop v) = not_started c ∷ no_such_vm c v ∷ not_ready c v ∷ []
lines_by c (Shutdown v) = not_started c ∷ no_such_vm c v ∷ not_ready c v ∷ []
lines_by c (Restart v) = not_started c ∷ no_such_vm c v ∷ []
lines_by c (Extra v) = not_started c ∷ no_such_vm c v ∷ not_ready c v ∷ line (leb c.config.room c.queue.len) 6 ∷ []
lines_by c (Call s n at) = not_started c ∷ nobody_runs c ∷ []
lines_by c (Write o x) = not_started c ∷ nobody_runs c ∷ line (not (both (eqb (o % 4) 0) (leb o 36))) 8 ∷ []
lines_by c (Fault k d) = not_started c ∷ nobody_runs c ∷ line (not (both (leb 3 k) (leb k 5))) 9 ∷ []
lines_by c (Copy p w) = not_started c ∷ nobody_runs c ∷ []

-- R1: of every event, first of all
unfoldable pub lines_of : Core → Event → List Line
lines_of c e = line (not (sound c)) 1 ∷ lines_by c e

-- the number of the first line that applies, or 0
unfoldable pub first_of : List Line → ℕ
first_of [] = 0
first_of (l ∷ ls) = pick l.applies l.number (first_of ls)

-- R3: what a refusal with n answers: who runs and where, as they stand, and nothing else; nobody where the state is not sound
abbrev pub says_no : Core → ℕ → Answer
says_no c n =
    record {
      refusal = n;
      running = pick (eqb n 1) 255 c.running;
      address = pick (eqb n 1) 0 (vm_at c c.running).address;
      delivered = 255;
      notice = record { kind = 0; vm = 0; code = 0; detail = 0 };
      result = 0;
      removed = 0;
    }

-- the number is that of the first line that applies; an event with a number leaves the state (R2), and answers as R3 says
pub record RefusedAs (c : Core) (e : Event) (s : Stepped) : Type 0 where
  pub number : s.answer.refusal ≡ first_of (lines_of c e)
  pub untouched : (first_of (lines_of c e) ≡ 0 → ⊥) → s.core ≡ c
  pub answered : (first_of (lines_of c e) ≡ 0 → ⊥) → s.answer ≡ says_no c (first_of (lines_of c e))

-- in any state, sound or not, for any event
abbrev pub Refuses : Behaviour → Type 0
Refuses b = (c : Core) (e : Event) → RefusedAs c e (b c e)

-- in a run from fresh the state is sound (W1 to W13), so that line 1 never applies
abbrev pub StaysSound : Behaviour → Type 0
StaysSound = AtEachState (λ g ms k c. sound c ≡ true)
