-- What is printed for engineers behind an event's line: the whole state.
use Rattle.std.specs.Prelude.{min, ℕ, get_or, Bool, List, [], ◌++◌, ◌∷◌}
use Rattle.basis.specs.Choice.{pick}
use Rattle.basis.specs.Count.{joined}
use Rattle.change.specs.declared.Notice.{Notice}
use Rattle.rig_core.specs.declared.Core.{Core}
use Rattle.rig_core.specs.declared.Stepped.{Stepped}
use Rattle.guest.specs.Record.{fresh}
use Rattle.guest.specs.declared.Status.{Status}
use Rattle.guest.specs.declared.Vm.{Vm}
use Rattle.lines.specs.Text.{line_text}
use Rattle.lines.specs.Words.{address, choice, core_word, counts_word, notice_word, number, queue_word, two, vm_word}
use Rattle.queue.specs.declared.Queue.{Queue}
use Rattle.table.specs.declared.Clock.{Clock}
use Rattle.text.specs.Digits.{decimal}

-- N9: `notice VM CODE DATA`
unfoldable pub notice_text : Notice → List ℕ
notice_text t = notice_word ++ (two t.vm t.code 32 ++ number t.detail 10)

-- N9: `core STARTED TICKED SLOT LEFT RUNNING`
unfoldable pub clock_text : Clock → ℕ → List ℕ
clock_text k running = core_word ++ (two k.started k.ticked 32 ++ (two k.slot k.left 32 ++ choice running 10))

-- N9: the first n of some numbers, a space before each
abbrev pub item_text : ℕ → List ℕ
item_text v = (32 ∷ []) ++ decimal v

unfoldable pub items_text : List ℕ → ℕ → List ℕ
items_text items n = joined (λ k. item_text (get_or items k 0)) n

-- N9: `queue` and its entries
unfoldable pub queue_text : Queue → List ℕ
queue_text q = queue_word ++ (items_text q.items (min q.len 16) ++ (10 ∷ []))

-- N9: `counts` and the eight queue counts (T10)
unfoldable pub counts_text : List ℕ → List ℕ
counts_text counts = counts_word ++ (items_text counts 8 ++ (10 ∷ []))

-- five addresses, a space behind each
unfoldable pub five_text : ℕ → ℕ → ℕ → ℕ → ℕ → List ℕ
five_text v w x y z = address v 32 ++ (address w 32 ++ (address x 32 ++ (address y 32 ++ address z 32)))

-- F1 to F10
unfoldable pub fields_text : Status → List ℕ
fields_text f = five_text f.since f.left f.enabled f.pending f.resume ++ five_text f.reason f.previous f.restore f.ontick f.running

-- N9: `vm N STANDING ADDRESS F1 .. F10 AGE TICKSRUN`
unfoldable pub vm_text : ℕ → Vm → List ℕ
vm_text k v = vm_word ++ (two k v.standing 32 ++ (address v.address 32 ++ (fields_text v.status ++ two v.age v.ran 10)))

unfoldable pub vms_text : List Vm → List ℕ
vms_text vs = joined (λ k. vm_text k (get_or vs k fresh)) 8

-- N9: the whole state, by its parts
abbrev pub parts_text : Notice → Clock → ℕ → Queue → List Vm → List ℕ
parts_text t clock running queue vms = notice_text t ++ (clock_text clock running ++ (queue_text queue ++ (counts_text queue.counts ++ vms_text vms)))

unfoldable pub state_text : Notice → Core → List ℕ
state_text t c = parts_text t c.clock c.running c.queue c.vms

unfoldable pub states_text : Bool → Notice → Core → List ℕ
states_text states t c = pick states (state_text t c) []

-- N2, N9: the event with number n: its line, and the state if states are printed
unfoldable pub event_text : Bool → ℕ → Stepped → List ℕ
event_text states n d = line_text n d.answer ++ states_text states d.answer.notice d.core
