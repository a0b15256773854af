-- The vectors of the rules as one table: X1 with the thirteen lines of X2, and P1 to P22.
use Rattle.std.specs.Prelude.{ℕ, ◌%◌, ◌+◌, ◌-◌, ltb, drop, get_or, replicate, take, List, map, [], ◌++◌, ◌∷◌}
use Rattle.basis.specs.Choice.{pick}
use Rattle.change.specs.declared.Answer.{Answer}
use Rattle.config.specs.declared.Config.{Config}
use Rattle.rig_core.specs.Events.{step_of}
use Rattle.rig_core.specs.State.{vm_at, with_vm}
use Rattle.rig_core.specs.declared.Core.{Core}
use Rattle.rig_core.specs.declared.Stepped.{Stepped}
use Rattle.event.specs.declared.Event.TheVariants.{Call, Extra, Fault, Restart, Start, Stop, Tick, Write}
use Rattle.event.specs.declared.Event.{Event}
use Rattle.guest.specs.Record.{blank, ready_standing}
use Rattle.guest.specs.declared.Status.{Status}
use Rattle.history.specs.History.{Moment, history, state_of}
use Rattle.image_reader.specs.Reader.{read_image}
use Rattle.queue.specs.Entries.{entries}
use Rattle.trials.specs.Copies.{bytes_at_first, bytes_with, copied, copy_shown, failed, piece}
use Rattle.trials.specs.Examples.{example, zeros}
use Rattle.window.specs.Pieces.{extent_of}
use Rattle.window.specs.declared.Extent.{Extent}

-- the rule, what the definitions give, and what the rule says
pub data Rule : Type 0 where
  InX1 InX2 : Rule
  InP : ℕ → Rule

pub record Vector : Type 0 where
  pub rule : Rule
  pub found : List (List ℕ)
  pub says : List (List ℕ)

abbrev vector : Rule → List ℕ → List ℕ → Vector
vector r f s = record { rule = r; found = f ∷ []; says = s ∷ [] }

-- X1: the image
abbrev pub example_image : List ℕ
example_image =
    0x01 ∷ 0x02 ∷ 0x01
    ∷ 0x02 ∷ 0x00 ∷ 0x10 ∷ 0x00 ∷ 0x00 ∷ 0x04 ∷ 0x10 ∷ 0x00 ∷ 0x00
    ∷ 0x02 ∷ 0x00 ∷ 0x20 ∷ 0x00 ∷ 0x00 ∷ 0x04 ∷ 0x20 ∷ 0x00 ∷ 0x00
    ∷ 0x03 ∷ 0x00 ∷ 0x02 ∷ 0x00
    ∷ 0x03 ∷ 0x01 ∷ 0x01 ∷ 0x00
    ∷ 0x03 ∷ 0xFF ∷ 0x01 ∷ 0x00
    ∷ 0x04
    ∷ []

-- the parts of what was read: fault and offset, counts, places
abbrev pub parts_of : Config → List (List ℕ)
parts_of g = (g.count ∷ g.room ∷ g.slots ∷ []) ∷ g.entries ∷ g.handlers ∷ g.owners ∷ g.durations ∷ []

-- X2: the events
abbrev pub example_events : List Event
example_events =
    Start ∷ Tick 0 ∷ Write 8 0x88 ∷ Write 32 0x80 ∷ Tick 0x1010 ∷ Call 1 0 0x1040 ∷ Call 4 0 0x1014 ∷ Call 4 0 0x1018
    ∷ Tick 0x1020 ∷ Tick 0x2008 ∷ Stop 2 ∷ Stop 0 ∷ Tick 0 ∷ []

-- the parts of an answer, in the order of N3: refusal, VM or 255, address, number delivered or 255, notice, result, number removed
abbrev pub line_of : Answer → List ℕ
line_of a = a.refusal ∷ a.running ∷ a.address ∷ a.delivered ∷ a.notice.kind ∷ a.result ∷ a.removed ∷ []

unfoldable pub lines_in : Config → List Event → List (List ℕ)
lines_in g es = map (λ (m : Moment). line_of m.answer) (history step_of g es)

-- event n of the run, counted from 1
abbrev pub example_line : ℕ → List ℕ
example_line n = get_or (lines_in (example 1) example_events) (n - 1) []

-- F1 to F10
abbrev pub fields_of : Status → List ℕ
fields_of s = s.since ∷ s.left ∷ s.enabled ∷ s.pending ∷ s.resume ∷ s.reason ∷ s.previous ∷ s.restore ∷ s.ontick ∷ s.running ∷ []

-- fault and offset
abbrev pub judged : List ℕ → List ℕ
judged bs = (read_image bs).fault ∷ (read_image bs).offset ∷ []

-- one VM, a queue of q, and one slot of lo + 256 * hi ticks
abbrev pub small_image : ℕ → ℕ → ℕ → List ℕ
small_image q lo hi = 1 ∷ 1 ∷ q ∷ 2 ∷ 0 ∷ 16 ∷ 0 ∷ 0 ∷ 4 ∷ 16 ∷ 0 ∷ 0 ∷ 3 ∷ 0 ∷ lo ∷ hi ∷ 4 ∷ []

-- VM 0 after a Call: standing, psIntPending, psIntResumeAddress, address, then refusal, delivered, and the notice
abbrev pub shown_by : Moment → List ℕ
shown_by m =
    (vm_at m.after 0).standing ∷ (vm_at m.after 0).status.pending ∷ (vm_at m.after 0).status.resume ∷ (vm_at m.after 0).address
    ∷ m.answer.refusal ∷ m.answer.delivered ∷ m.answer.notice.kind ∷ m.answer.notice.vm ∷ m.answer.notice.code ∷ m.answer.notice.detail ∷ []

-- the same, psIntEnabled being x and psIntPending y before it
unfoldable pub call_shown : ℕ → ℕ → Event → List ℕ
call_shown x y e = get_or (map shown_by (history step_of (example 1) (Start ∷ Tick 0 ∷ Write 8 x ∷ Write 12 y ∷ e ∷ []))) 4 []

-- the state after Start, with VM 0's ticks run at n
abbrev pub ran_state : ℕ → Core
ran_state n =
    with_vm (state_of step_of (example 1) (Start ∷ [])) 0
    (record { standing = ready_standing; address = 0x1000; status = blank; age = 0; ran = n })

abbrev pub ran_shown : Stepped → List ℕ
ran_shown s = s.answer.running ∷ (vm_at s.core 0).ran ∷ (vm_at s.core 0).status.running ∷ []

-- the number removed, and the entries left
abbrev pub removed_by : Moment → List ℕ
removed_by m = m.answer.removed ∷ entries m.after.queue

-- the same for event n of the run of P12, counted from 1, of which e is the sixth
unfoldable pub removed_shown : ℕ → Event → List ℕ
removed_shown n e = get_or (map removed_by (history step_of (example 4) (Start ∷ Tick 0 ∷ Extra 0 ∷ Extra 1 ∷ Call 4 0 0x1010 ∷ e ∷ []))) (n - 1) []

-- the queue counts when these events follow those of P12 (T10)
unfoldable pub counts_shown : List Event → List ℕ
counts_shown es = (state_of step_of (example 4) (Start ∷ Tick 0 ∷ Extra 0 ∷ Extra 1 ∷ Call 4 0 0x1010 ∷ es)).queue.counts

-- P17: the kth extent moves one byte
abbrev pub bytewise : ℕ → Extent
bytewise k = piece k (0x100 + k) 1

abbrev pub seven_bytes : List Extent
seven_bytes = bytewise 0 ∷ bytewise 1 ∷ bytewise 2 ∷ bytewise 3 ∷ bytewise 4 ∷ bytewise 5 ∷ bytewise 6 ∷ []

-- addresses and a length that no Copy may have
abbrev pub wild : Extent
wild = extent_of 0xffffffff 0 0xffffffff

-- X1, X2, P1 to P22, C7
unfoldable pub vectors : List Vector
vectors =
    record { rule = InX1; found = judged example_image ∷ parts_of (read_image example_image).config; says = (0 ∷ 0 ∷ []) ∷ parts_of (example 1) }
    ∷ record {
      rule = InX2;
      found = lines_in (example 1) example_events;
      says =
          (0 ∷ 255 ∷ 0 ∷ 255 ∷ 0 ∷ 0 ∷ 0 ∷ [])
          ∷ (0 ∷ 0 ∷ 0x1000 ∷ 255 ∷ 0 ∷ 0 ∷ 0 ∷ [])
          ∷ (0 ∷ 0 ∷ 0x1000 ∷ 255 ∷ 0 ∷ 0 ∷ 0 ∷ [])
          ∷ (0 ∷ 0 ∷ 0x1000 ∷ 255 ∷ 0 ∷ 0 ∷ 0 ∷ [])
          ∷ (0 ∷ 0 ∷ 0x1004 ∷ 7 ∷ 0 ∷ 0 ∷ 0 ∷ [])
          ∷ (0 ∷ 0 ∷ 0x1010 ∷ 255 ∷ 0 ∷ 0 ∷ 0 ∷ [])
          ∷ (0 ∷ 0 ∷ 0x1014 ∷ 255 ∷ 0 ∷ 0 ∷ 0 ∷ [])
          ∷ (0 ∷ 0 ∷ 0x1018 ∷ 255 ∷ 0 ∷ 1 ∷ 0 ∷ [])
          ∷ (0 ∷ 1 ∷ 0x2000 ∷ 255 ∷ 0 ∷ 0 ∷ 0 ∷ [])
          ∷ (0 ∷ 0 ∷ 0x1004 ∷ 7 ∷ 0 ∷ 0 ∷ 0 ∷ [])
          ∷ (3 ∷ 0 ∷ 0x1004 ∷ 255 ∷ 0 ∷ 0 ∷ 0 ∷ [])
          ∷ (0 ∷ 255 ∷ 0 ∷ 255 ∷ 1 ∷ 0 ∷ 0 ∷ [])
          ∷ (0 ∷ 255 ∷ 0 ∷ 255 ∷ 0 ∷ 0 ∷ 0 ∷ [])
          ∷ [];
    }
    ∷ vector (InP 1) (fields_of (vm_at (state_of step_of (example 1) (take 10 example_events)) 0).status) (4 ∷ 1 ∷ 0 ∷ 0 ∷ 0x1020 ∷ 7 ∷ 0x88 ∷ 0 ∷ 0x80 ∷ 3 ∷ [])
    ∷ vector (InP 2) (drop 2 (take 4 (example_line 5))) (0x1004 ∷ 7 ∷ [])
    ∷ vector (InP 3) (drop 5 (example_line 8)) (1 ∷ 0 ∷ [])
    ∷ vector (InP 4) (take 3 (example_line 11)) (3 ∷ 0 ∷ 0x1004 ∷ [])
    ∷ vector (InP 5) (take 2 (example_line 13)) (0 ∷ 255 ∷ [])
    ∷ vector (InP 6) (judged []) (20 ∷ 0 ∷ [])
    ∷ vector (InP 7) (judged (small_image 0 0xE8 3)) (0 ∷ 0 ∷ [])
    ∷ vector (InP 7) (judged (small_image 0 0xE9 3)) (25 ∷ 12 ∷ [])
    ∷ vector (InP 8) (judged (small_image 16 1 0)) (0 ∷ 0 ∷ [])
    ∷ vector (InP 8) (judged (small_image 17 1 0)) (22 ∷ 0 ∷ [])
    ∷ vector (InP 9) (call_shown 0x08 0 (Call 2 3 0x1030)) (1 ∷ 0 ∷ 0x1030 ∷ 0x1004 ∷ 0 ∷ 3 ∷ 0 ∷ 0 ∷ 0 ∷ 0 ∷ [])
    ∷ vector (InP 9) (call_shown 0x88 0x80 (Call 2 3 0x1030)) (1 ∷ 0x08 ∷ 0x1030 ∷ 0x1004 ∷ 0 ∷ 7 ∷ 0 ∷ 0 ∷ 0 ∷ 0 ∷ [])
    ∷ vector (InP 10) (call_shown 0 0 (Call 2 31 0x1030)) (1 ∷ 0x80000000 ∷ 0 ∷ 0x1030 ∷ 0 ∷ 255 ∷ 0 ∷ 0 ∷ 0 ∷ 0 ∷ [])
    ∷ vector (InP 10) (call_shown 0 0 (Call 2 32 0x1030)) (4 ∷ 0 ∷ 0 ∷ 0x1030 ∷ 0 ∷ 255 ∷ 3 ∷ 0 ∷ 2 ∷ 32 ∷ [])
    ∷ vector (InP 11) (ran_shown (step_of (ran_state 4294967295) (Tick 0))) (0 ∷ 0 ∷ 0 ∷ [])
    ∷ record {
      rule = InP 12;
      found = removed_shown 5 (Stop 0) ∷ map (removed_shown 6) (Stop 0 ∷ Restart 0 ∷ Fault 3 0 ∷ Call 3 0 0x1020 ∷ Call 2 32 0x1020 ∷ Call 5 0 0x1020 ∷ Stop 1 ∷ []);
      says = (0 ∷ 0 ∷ 1 ∷ 0 ∷ []) ∷ (2 ∷ 1 ∷ []) ∷ (2 ∷ 1 ∷ []) ∷ (2 ∷ 1 ∷ []) ∷ (2 ∷ 1 ∷ []) ∷ (2 ∷ 1 ∷ []) ∷ (2 ∷ 1 ∷ []) ∷ (1 ∷ 0 ∷ 0 ∷ []) ∷ [];
    }
    ∷ vector (InP 13) (counts_shown []) (2 ∷ 1 ∷ zeros 6)
    ∷ record {
      rule = InP 13;
      found = map (λ (e : Event). counts_shown (e ∷ [])) (Stop 0 ∷ Restart 0 ∷ Fault 3 0 ∷ Call 3 0 0x1020 ∷ Call 2 32 0x1020 ∷ Call 5 0 0x1020 ∷ []);
      says = replicate 6 (0 ∷ 1 ∷ zeros 6);
    }
    ∷ vector (InP 13) (counts_shown (Stop 1 ∷ [])) (2 ∷ zeros 7)
    ∷ vector (InP 13) (counts_shown (Tick 0 ∷ Tick 0 ∷ Tick 0 ∷ [])) (1 ∷ 1 ∷ zeros 6)
    ∷ record { rule = InP 14; found = copy_shown 1 (piece 0 0x10 0x40 ∷ []); says = copied (bytes_with 0x10 0x50 (λ i. i - 0x10)) }
    ∷ record { rule = InP 14; found = copy_shown 1 (piece 0x10 0 0x40 ∷ []); says = copied (bytes_with 0 0x40 (λ i. i + 0x10)) }
    ∷ record {
      rule = InP 15;
      found = copy_shown 2 (piece 0 0x40 4 ∷ piece 0x40 0x100 4 ∷ []);
      says = copied (bytes_with 0x40 0x104 (λ i. pick (ltb i 0x44) (i - 0x40) (pick (ltb i 0x100) (i % 251) (i - 0x100))));
    }
    ∷ record { rule = InP 16; found = copy_shown 1 (piece 0 0x80 256 ∷ []); says = copied (bytes_with 0x80 0x180 (λ i. (i - 0x80) % 251)) }
    ∷ record { rule = InP 16; found = copy_shown 1 (piece 0 0x80 257 ∷ []); says = failed 7 257 }
    ∷ record { rule = InP 17; found = copy_shown 8 (seven_bytes ++ (bytewise 7 ∷ [])); says = copied (bytes_with 0x100 0x108 (λ i. i - 0x100)) }
    ∷ record { rule = InP 17; found = copy_shown 9 (seven_bytes ++ (bytewise 7 ∷ [])); says = failed 6 9 }
    ∷ record { rule = InP 17; found = copy_shown 0 (wild ∷ wild ∷ []); says = copied bytes_at_first }
    ∷ record { rule = InP 18; found = copy_shown 1 (extent_of 0xffffffff 0 0 ∷ wild ∷ []); says = copied bytes_at_first }
    ∷ record { rule = InP 19; found = copy_shown 1 (piece 0x1fc 0 8 ∷ []); says = failed 3 0x400001fc }
    ∷ record { rule = InP 19; found = copy_shown 1 (piece 0 0x1fc 8 ∷ []); says = failed 3 0x400001fc }
    ∷ record { rule = InP 20; found = copy_shown 1 (piece 0x70 0x100 0x20 ∷ []); says = copied (bytes_with 0x100 0x120 (λ i. i - 0x90)) }
    ∷ record { rule = InP 21; found = copy_shown 1 (piece 0 0x180 4 ∷ []); says = failed 3 0x40000180 }
    ∷ record { rule = InP 21; found = copy_shown 1 (piece 0x180 0 4 ∷ []); says = copied (bytes_with 0 4 (λ i. (i + 0x180) % 251)) }
    ∷ record { rule = InP 22; found = copy_shown 8 (seven_bytes ++ (piece 0 0x40 257 ∷ [])); says = failed 7 257 }
    ∷ []
