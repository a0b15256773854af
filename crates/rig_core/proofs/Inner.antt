-- An event where the core stands: refused by its row, or done.
use Prim.Native.Nat.{ℕ}
use borrow.Author.Tests.{eq-eqb, ne_eqb}
use lib.Dec.{eqb, leb, ltb}
use lib.ListN.{get_or, length, set}
use mathlib.Core.Bool.{Bool, false, not, true}
use mathlib.Core.List.{List}
use mathlib.Core.Path.{ap, refl, sym, ◌∙◌, ◌≡◌}
use native.Mathlib.Omega.{arith}
use Rattle.basis.proofs.Laws.{false_true}
use Rattle.basis.specs.Choice.{both, pick}
use Rattle.basis.specs.Nobody.{nobody}
use Rattle.change.specs.Answers.{no_notice}
use Rattle.change.specs.Changes.{called_from, copying_from, ticking_from}
use Rattle.change.specs.declared.Answer.{Answer}
use Rattle.change.specs.declared.Change.{Change}
use Rattle.config.specs.Sizes.{is_spare}
use Rattle.copies.specs.declared.Failure.{Failure}
use Rattle.rig_core.specs.Changes.{answering, change_at, changed_by}
use Rattle.rig_core.specs.Events.{done, failure_of, inner_of, step_of, tick_clock, tick_queue, tick_turn}
use Rattle.rig_core.specs.Refusals.{refusal_of, refused, row_of}
use Rattle.rig_core.specs.Sound.{sound}
use Rattle.rig_core.specs.State.{ready_at, vm_at, with_clock, with_queue, with_running, with_vms}
use Rattle.rig_core.specs.declared.Core.{Core}
use Rattle.rig_core.specs.declared.Stepped.{Stepped}
use Rattle.event.specs.Kinds.{is_copy, is_extra, is_start, is_tick, of_master, of_running, subject, wants_ready}
use Rattle.event.specs.declared.Event.TheVariants.{Call, Copy, Extra, Fault, Restart, Shutdown, Start, Stop, Tick, Write}
use Rattle.event.specs.declared.Event.{Event}
use Rattle.guest.specs.Record.{fresh, is_ready, saved_at}
use Rattle.guest.specs.declared.Delivery.{Delivery}
use Rattle.guest.specs.declared.Vm.{Vm}
use Rattle.logic.specs.Changing.{change_from, place_from}
use Rattle.logic.specs.Rows.{row_from, stray_fault, stray_write}
use Rattle.queue.specs.Entries.{entries, front_of, popped, served}
use Rattle.queue.specs.declared.Queue.{Queue}
use Rattle.queue.specs.declared.Served.{Served}
use Rattle.table.specs.Position.{next_clock}
use Rattle.table.specs.declared.Clock.{Clock}
use Rattle.vms.proofs.Laws.{turn_served}
use Rattle.vms.proofs.Modulo.{entered_law, runner_law, turn_address}
use Rattle.vms.proofs.Records.{passed_length}
use Rattle.vms.specs.Records.{aged_all}
use Rattle.vms.specs.Tick.{Turn, entering, number_of, passed, runner_of, saving, turn, turn_by}
use Rattle.window.specs.declared.Pieces.{Pieces}
use Rattle.window.specs.declared.Window.{Window}

-- ---- refused, or done

module _ (c : Core) (e : Event) (n : ℕ) (row : n ≡ row_of c e) where
  inner_refused : (n ≡ 0 → ⊥) → refused c n ≡ inner_of c e
  unfolding inner_of
  inner_refused h = rw (← row, ne_eqb n 0 h)

  -- R2, R3
  pub refused_core : (n ≡ 0 → ⊥) → c ≡ (inner_of c e).core
  unfolding refused
  refused_core h = ap (λ (s : Stepped). s.core) (inner_refused h)

  pub refused_answer : (n ≡ 0 → ⊥) → (a : Answer) → a ≡ (refused c n).answer → a ≡ (inner_of c e).answer
  refused_answer h a f = f ∙ ap (λ (s : Stepped). s.answer) (inner_refused h)

  inner_done : n ≡ 0 → done c e ≡ inner_of c e
  unfolding inner_of
  inner_done h = rw (← row, eq-eqb n 0 h)

  pub done_core : n ≡ 0 → (f : Event) → e ≡ f → (x : Core) → x ≡ (done c f).core → x ≡ (inner_of c e).core
  done_core h f i x g = (rw (← i) at g) ∙ ap (λ (s : Stepped). s.core) (inner_done h)

  pub done_answer : n ≡ 0 → (f : Event) → e ≡ f → (a : Answer) → a ≡ (done c f).answer → a ≡ (inner_of c e).answer
  done_answer h f i a g = (rw (← i) at g) ∙ ap (λ (s : Stepped). s.answer) (inner_done h)

-- T8: the core that `apply` leaves, with its answer, is the event by value
pub applied : (c : Core) (e : Event) (d : Core) (a : Answer) → d ≡ (inner_of c e).core → a ≡ (inner_of c e).answer → record { core = d; answer = a } ≡ inner_of c e
applied c e d a h k = rw (h, k)

-- R1: on a sound state the inner event is the event; any other is refused with 1
pub step_sound : (c : Core) (e : Event) → sound c ≡ true → step_of c e ≡ inner_of c e
unfolding step_of inner_of refusal_of
step_sound c e h = rw h

-- R1, row 1
pub step_unsound : (c : Core) (e : Event) → sound c ≡ false → step_of c e ≡ refused c 1
unfolding step_of refusal_of
step_unsound c e h = rw h

module _ (c : Core) (e : Event) (b : Bool) (r : Stepped) (test : b ≡ sound c) where
  pub step_goes : b ≡ true → r ≡ inner_of c e → r ≡ step_of c e
  step_goes h f = f ∙ sym (step_sound c e (sym test ∙ h))

  pub step_stays : b ≡ false → r ≡ refused c 1 → r ≡ step_of c e
  step_stays h f = f ∙ sym (step_unsound c e (sym test ∙ h))

-- ---- a tick

-- the state and the answer after a tick
abbrev ticked : Core → Clock → Queue → Turn → Stepped
ticked c k q t = answering (with_vms (with_queue (with_running (with_clock c k) t.who) q) t.vms) t.number no_notice 0 0

aged_length : (running at count : ℕ) (l : List Vm) → length (aged_all count (saving running at l)) ≡ length l
unfolding passed
aged_length running at count l = passed_length running at count l

-- a turn is what its parts are
turn_of : (t : Turn) (vms : List Vm) (who address number : ℕ) → vms ≡ t.vms → who ≡ t.who → address ≡ t.address → number ≡ t.number → record { vms = vms; who = who; address = address; number = number } ≡ t
turn_of t vms who address number a b c d = rw (a, b, c, d)

-- the records of a tick, who runs and where, and what is delivered (D6 to D9, A2)
turn_total : (running at count owner head left who h : ℕ) (handlers : List ℕ) (v l m : List Vm) (b : Bool) (vm : Vm) (d : Change) (q : Queue) → length m ≡ 8
    → l ≡ saving running at v → m ≡ aged_all count l → b ≡ is_ready (get_or m owner fresh)
    → who ≡ pick (is_spare owner) head (pick (ltb owner 8) (pick b owner nobody) nobody) → vm ≡ get_or m who fresh → h ≡ get_or handlers who 0
    → d ≡ ticking_from q who vm left h
    → record { vms = set m who d.vm; who = who; address = (get_or (set m who d.vm) who fresh).address; number = d.delivered } ≡ turn running at count owner head left handlers v
unfolding turn turn_by entering passed
turn_total running at count owner head left who h handlers v l m b vm d q long hl hm hb hwho hvm hh hd =
    turn_of t (set m who d.vm) who _ d.delivered stored chosen shown told
  where
    e : Delivery
    e = entering who left handlers m

    t : Turn
    t = turn running at count owner head left handlers v

    past : m ≡ passed running at count v
    past = hm ∙ ap (aged_all count) hl

    law : record { vms = set m who e.vm; who = who; address = pick (ltb who 8) e.vm.address 0; number = number_of e.number } ≡ t
    law =
        entered_law m handlers who who left (pick (ltb who 8) e.vm.address 0) (number_of e.number) e long (λ f. refl) refl refl refl
        ∙ ap (λ (k : ℕ). turn_by k left handlers m) (runner_law m owner owner head who b long (λ f. refl) hb hwho)
        ∙ ap (λ (k : List Vm). turn_by (runner_of owner head k) left handlers k) past

    entered : d.vm ≡ e.vm
    entered = rw (hd, hvm, hh)

    stored : set m who d.vm ≡ t.vms
    stored = ap (set m who) entered ∙ ap (λ (x : Turn). x.vms) law

    chosen : who ≡ t.who
    chosen = ap (λ (x : Turn). x.who) law

    shown : (get_or (set m who d.vm) who fresh).address ≡ t.address
    shown = ap (λ (k : List Vm). (get_or k who fresh).address) stored ∙ ap (λ (k : ℕ). (get_or t.vms k fresh).address) chosen ∙ sym (turn_address running at count owner head left handlers v)

    delivered : d.delivered ≡ number_of e.number
    delivered = rw (hd, hvm, hh)

    told : d.delivered ≡ t.number
    told = delivered ∙ ap (λ (x : Turn). x.number) law

tick_parts : (c : Core) (at owner head : ℕ) (k : Clock) (t : Turn) (q : Queue)
    → k ≡ next_clock c.config.slots c.config.durations c.clock → owner ≡ get_or c.config.owners k.slot 0
    → head ≡ front_of (entries c.queue) → t ≡ turn c.running at c.config.count owner head k.left c.config.handlers c.vms
    → q ≡ pick (eqb owner nobody) (popped c.queue) c.queue
    → ticked c k q t ≡ done c (Tick at)
unfolding done tick_turn tick_queue tick_clock
tick_parts c at owner head k t q hk ho hh ht hq = rw (hq, ht, ho, hh, hk)

-- a tick as the code makes it: the queue says who is served, and what is left
pub tick_law : (c : Core) (at owner who h : ℕ) (l m : List Vm) (k : Clock) (s : Served) (v vm : Vm) (b : Bool) (d : Change) → length c.vms ≡ 8
    → l ≡ saving c.running at c.vms → m ≡ aged_all c.config.count l
    → k ≡ next_clock c.config.slots c.config.durations c.clock → owner ≡ get_or c.config.owners k.slot 0
    → s ≡ served (eqb owner nobody) c.queue → v ≡ get_or m owner fresh → b ≡ is_ready v
    → who ≡ pick (is_spare owner) s.vm (pick (ltb owner 8) (pick b owner nobody) nobody)
    → vm ≡ get_or m who fresh → h ≡ get_or c.config.handlers who 0 → d ≡ ticking_from s.queue who vm k.left h
    → changed_by (with_vms (with_clock c k) m) d ≡ done c (Tick at)
tick_law c at owner who h l m k s v vm b d long hl hm hk ho hs hv hb hwho hvm hh hd =
    here ∙ tick_parts c at owner (front_of (entries c.queue)) k t s.queue hk ho refl turned (ap (λ (x : Served). x.queue) hs)
  where
    t : Turn
    t = record { vms = set m who d.vm; who = who; address = (get_or (set m who d.vm) who fresh).address; number = d.delivered }

    wide : length m ≡ 8
    wide = ap length (hm ∙ ap (aged_all c.config.count) hl) ∙ aged_length c.running at c.config.count c.vms ∙ long

    turned : t ≡ turn c.running at c.config.count owner (front_of (entries c.queue)) k.left c.config.handlers c.vms
    turned =
        turn_total c.running at c.config.count owner s.vm k.left who h c.config.handlers c.vms l m b vm d s.queue wide hl hm (hb ∙ ap is_ready hv) hwho hvm hh hd
        ∙ ap (λ (x : Served). turn c.running at c.config.count owner x.vm k.left c.config.handlers c.vms) hs
        ∙ turn_served c.vms c.config.handlers c.running at c.config.count owner (front_of (entries c.queue)) nobody k.left

    here : changed_by (with_vms (with_clock c k) m) d ≡ ticked c k s.queue t
    here = rw hd

-- ---- an event that is about one VM

-- the row asks for readiness of the VM that the master names alone
pub row_is : (c : Core) (e : Event) → row_from e c.clock.started c.config.count c.running (ready_at c (place_from e c.running)) c.config.room c.queue.len ≡ row_of c e
unfolding row_of
row_is c Start = refl
row_is c (Tick a) = refl
row_is c (Stop v) = refl
row_is c (Shutdown v) = refl
row_is c (Restart v) = refl
row_is c (Extra v) = refl
row_is c (Call x y z) = refl
row_is c (Write x y) = refl
row_is c (Fault x y) = refl
row_is c (Copy p w) = refl

-- no row of these has the number of an unsound state
not_first : (a b c d e f g h : Bool) → ◌≡◌ {A = ℕ} (pick a 7 (pick b 2 (pick c 3 (pick d 4 (pick e 6 (pick f 5 (pick g 8 (pick h 9 0)))))))) 1 → ⊥
not_first true b c d e f g h z = absurd (omega arith)
not_first false true c d e f g h z = absurd (omega arith)
not_first false false true d e f g h z = absurd (omega arith)
not_first false false false true e f g h z = absurd (omega arith)
not_first false false false false true f g h z = absurd (omega arith)
not_first false false false false false true g h z = absurd (omega arith)
not_first false false false false false false true h z = absurd (omega arith)
not_first false false false false false false false true z = absurd (omega arith)
not_first false false false false false false false false z = absurd (omega arith)

pub not_1 : (c : Core) (e : Event) → row_of c e ≡ 1 → ⊥
unfolding row_of
not_1 c e =
    not_first (both (is_start e) (eqb c.clock.started 1)) (both (not (is_start e)) (not (eqb c.clock.started 1))) (both (of_master e) (not (ltb (subject e) c.config.count)))
    (both (wants_ready e) (not (ready_at c (subject e)))) (both (is_extra e) (leb c.config.room c.queue.len)) (both (of_running e) (eqb c.running nobody)) (stray_write e) (stray_fault e)

-- the row as the code finds it
pub row_law : (c : Core) (e : Event) (i n : ℕ) (vm : Vm) (ready : Bool) → i ≡ place_from e c.running → vm ≡ vm_at c i → ready ≡ is_ready vm
    → n ≡ row_from e c.clock.started c.config.count c.running ready c.config.room c.queue.len → n ≡ row_of c e
row_law c e i n vm ready hi hv hr hn = hn ∙ rw (hr, hv, hi) (row_is c e)

-- a change is of the VM that it is given
place_pick : (v : ℕ) (b : Bool) (x y : Change) → x.place ≡ v → y.place ≡ v → (pick b x y).place ≡ v
place_pick v true x y e f = e
place_pick v false x y e f = f

pub change_place : (e : Event) (v : ℕ) (vm : Vm) (running : ℕ) (queue : Queue) (noRoom : Bool) (left entry handler : ℕ) → (change_from e v vm running queue noRoom left entry handler).place ≡ v
unfolding change_from called_from
change_place Start v vm running queue noRoom left entry handler = refl
change_place (Tick a) v vm running queue noRoom left entry handler = refl
change_place (Stop x) v vm running queue noRoom left entry handler = refl
change_place (Shutdown x) v vm running queue noRoom left entry handler = refl
change_place (Restart x) v vm running queue noRoom left entry handler = refl
change_place (Extra x) v vm running queue noRoom left entry handler = refl
change_place (Call service argument next) v vm running queue noRoom left entry handler =
    place_pick v (eqb service 0) _ _ refl
    (place_pick v (eqb service 1) _ _ refl
    (place_pick v (eqb service 2) _ _ (place_pick v (leb argument 31) _ _ refl refl)
    (place_pick v (eqb service 3) _ _ refl
    (place_pick v (eqb service 4) _ _ (place_pick v noRoom _ _ refl refl) refl))))
change_place (Write x y) v vm running queue noRoom left entry handler = refl
change_place (Fault x y) v vm running queue noRoom left entry handler = refl
change_place (Copy p w) v vm running queue noRoom left entry handler = refl

-- such an event, and no other, is done by its change
pub plain : (c : Core) (e : Event) → is_tick e ≡ false → is_start e ≡ false → is_copy e ≡ false → changed_by c (change_at c e (place_from e c.running)) ≡ done c e
unfolding done change_from
plain c Start t s k = false_true (sym s)
plain c (Tick a) t s k = false_true (sym t)
plain c (Stop v) t s k = refl
plain c (Shutdown v) t s k = refl
plain c (Restart v) t s k = refl
plain c (Extra v) t s k = refl
plain c (Call x y z) t s k = refl
plain c (Write x y) t s k = refl
plain c (Fault x y) t s k = refl
plain c (Copy p w) t s k = false_true (sym k)

-- the arm of all events but Start, Tick and Copy
pub other_arm : (c : Core) (e : Event) → (e ≡ Start → ⊥) → ((at : ℕ) → e ≡ Tick at → ⊥) → ((p : Pieces) (w : Window) → e ≡ Copy p w → ⊥) → changed_by c (change_at c e (place_from e c.running)) ≡ done c e
other_arm c Start s t k = absurd (s refl)
other_arm c (Tick a) s t k = absurd (t a refl)
other_arm c (Stop v) s t k = plain c (Stop v) refl refl refl
other_arm c (Shutdown v) s t k = plain c (Shutdown v) refl refl refl
other_arm c (Restart v) s t k = plain c (Restart v) refl refl refl
other_arm c (Extra v) s t k = plain c (Extra v) refl refl refl
other_arm c (Call x y z) s t k = plain c (Call x y z) refl refl refl
other_arm c (Write x y) s t k = plain c (Write x y) refl refl refl
other_arm c (Fault x y) s t k = plain c (Fault x y) refl refl refl
other_arm c (Copy p w) s t k = absurd (k p w refl)

-- ---- a Copy

-- a Copy as the code makes it: the failure, and the change of the VM that runs
pub copy_law : (c : Core) (p : Pieces) (w : Window) (vm saved : Vm) (f : Failure) (d : Change)
    → vm ≡ vm_at c c.running → saved ≡ saved_at p.next vm → f ≡ failure_of c w p
    → d ≡ copying_from c.running c.queue c.running saved f.code f.detail → changed_by c d ≡ done c (Copy p w)
unfolding done
copy_law c p w vm saved f d hvm hs hf hd = rw (hd, hs, hvm, hf)
