-- What the rules say of one event, with everything before it as variables, and what two outcomes that fit it have in common.
use Prim.Native.Nat.{suc, zero, ℕ, ◌%◌, ◌+◌, ◌<◌, ◌^◌}
use borrow.Author.Tests.{eqb-true}
use lib.Dec.{eqb}
use mathlib.Core.Bool.{Bool, false, not, true}
use mathlib.Core.List.{List, [], ◌++◌, ◌∷◌}
use mathlib.Core.Path.{ap, refl, subst, sym, ◌∙◌, ◌≡◌}
use Rattle.basis.specs.Choice.{both, pick}
use Rattle.change.specs.declared.Answer.{Answer}
use Rattle.change.specs.declared.Notice.{Notice}
use Rattle.config.specs.Ranges.{Given}
use Rattle.config.specs.declared.Config.{Config}
use Rattle.rig_core.specs.Sound.{sound}
use Rattle.rig_core.specs.State.{fresh_core, vm_at}
use Rattle.rig_core.specs.declared.Core.{Core}
use Rattle.rig_core.specs.declared.Stepped.{Stepped}
use Rattle.core_laws.proofs.Facts.{len_most, queue_padded, sound_is, ticked_not}
use Rattle.event.specs.Kinds.{is_tick}
use Rattle.event.specs.declared.Event.TheVariants.{Call, Copy, Extra, Fault, Restart, Shutdown, Start, Stop, Tick, Write}
use Rattle.event.specs.declared.Event.{Event}
use Rattle.history.proofs.More.{count_more, moments_more, state_more, told_more}
use Rattle.history.specs.History.{AtEachState, Behaviour, Moment, history, moment_of, next, state_of, ticking, ticks_after, ticks_of, told, went}
use Rattle.history.specs.Moments.{begins, ran_in, tells_error}
use Rattle.history.specs.Queueing.{Effect, Keep, Remove, affected, effect, effect_by, of_service, removed_from}
use Rattle.history.specs.Telling.{queue_after, queue_in, standing_after, standing_by, started_after}
use Rattle.promises.proofs.Only.Parts.{clock_same, left_one, slot_one}
use Rattle.promises.specs.Answering.{RemovesOf, TellsOf}
use Rattle.promises.specs.Delivering.{DeliversOf}
use Rattle.promises.specs.Demands.{Rules}
use Rattle.promises.specs.Framing.{Field, FrameOf, StartsOf, StoresOf, moves_by, names_by, value_of}
use Rattle.promises.specs.Refusing.{RefusedAs}
use Rattle.promises.specs.Timing.{ClocksOf, ShowsOf, TableOf, age_in, ran_since}
use Rattle.promises.specs.Tracing.{RunsOf, TracedOf}
use Rattle.queue.proofs.Counted.{counted_one}
use Rattle.queue.proofs.Meaning.{of_entries}
use Rattle.queue.specs.Entries.{Counted, entries, holding}
use Rattle.table.specs.Place.{Stands}

-- ---- what the rules say of the outcome s of the event e, after the history ms with k accepted ticks, in the state c

pub record Fits (g : Config) (ms : List Moment) (k : ℕ) (c : Core) (e : Event) (s : Stepped) : Type 0 where
  pub refused : RefusedAs c e s
  pub sound : sound s.core ≡ true
  pub table : TableOf g (ms ++ (moment_of k c e s ∷ [])) (ticks_after (moment_of k c e s)) s.core
  pub clocks : ClocksOf g (ms ++ (moment_of k c e s ∷ [])) (ticks_after (moment_of k c e s)) s.core
  pub traced : TracedOf g (ms ++ (moment_of k c e s ∷ [])) (ticks_after (moment_of k c e s)) s.core
  pub tells : TellsOf g ms (moment_of k c e s)
  pub removing : RemovesOf g ms (moment_of k c e s)
  pub shows : ShowsOf g ms (moment_of k c e s)
  pub delivers : DeliversOf g ms (moment_of k c e s)
  pub starts : StartsOf g ms (moment_of k c e s)
  pub runs : RunsOf g ms (moment_of k c e s)
  pub stores : StoresOf g ms (moment_of k c e s)
  pub framed : FrameOf g ms (moment_of k c e s)

-- a sentence about each state, of the state after one event more
later : (P : Config → List Moment → ℕ → Core → Type 0) (b : Behaviour) → AtEachState P b → (g : Config) → Given g → (es : List Event) (e : Event)
    → P g (history b g es ++ (next b g es e ∷ [])) (ticks_after (next b g es e)) (b (state_of b g es) e).core
later P b h g d es e =
    subst (λ (ms : List Moment). P g ms (ticks_after (next b g es e)) (b (state_of b g es) e).core) (moments_more b es 0 (fresh_core g) e)
    (subst (λ (k : ℕ). P g (history b g (es ++ (e ∷ []))) k (b (state_of b g es) e).core) (count_more b es 0 (fresh_core g) e)
    (subst (λ (c : Core). P g (history b g (es ++ (e ∷ []))) (ticks_of b g (es ++ (e ∷ []))) c) (state_more b es (fresh_core g) e) (h g d (es ++ (e ∷ [])))))

-- the outcome of each event of a behaviour that keeps the rules
pub rules_fit : (b : Behaviour) → Rules b → (g : Config) → Given g → (es : List Event) (e : Event) → Fits g (history b g es) (ticks_of b g es) (state_of b g es) e (b (state_of b g es) e)
rules_fit b r g d es e =
    record {
      refused = r.refuses (state_of b g es) e;
      sound = later (λ g ms k c. sound c ≡ true) b r.stays_sound g d es e;
      table = later TableOf b r.table g d es e;
      clocks = later ClocksOf b r.clocks g d es e;
      traced = later TracedOf b r.traced g d es e;
      tells = r.tells g d es e;
      removing = r.removing g d es e;
      shows = r.shows g d es e;
      delivers = r.delivers g d es e;
      starts = r.starts g d es e;
      runs = r.runs g d es e;
      stores = r.stores g d es e;
      framed = r.framed g d es e;
    }

-- ---- two outcomes of an event that is accepted

-- of the answer only the notice tells how a VM stands
standing_told : (v r : ℕ) (a b : Answer) (e : Event) (i : ℕ) → tells_error a ≡ tells_error b → standing_by v r a e i ≡ standing_by v r b e i
standing_told v r a b Start i h = refl
standing_told v r a b (Tick at) i h = refl
standing_told v r a b (Stop x) i h = refl
standing_told v r a b (Shutdown x) i h = refl
standing_told v r a b (Restart x) i h = refl
standing_told v r a b (Extra x) i h = refl
standing_told v r a b (Call x n at) i h = refl
standing_told v r a b (Write o x) i h = refl
standing_told v r a b (Fault x d) i h = refl
standing_told v r a b (Copy p w) i h = ap (λ (x : Bool). pick (both x (eqb r v)) 4 i) h

pub record Two (g : Config) (ms : List Moment) (k : ℕ) (c : Core) (e : Event) (s t : Stepped) : Type 0 where
  pub one : Fits g ms k c e s
  pub two : Fits g ms k c e t
  pub went_one : went (moment_of k c e s) ≡ true
  pub went_two : went (moment_of k c e t) ≡ true

module _ {g : Config} {ms : List Moment} {k : ℕ} {c : Core} {e : Event} {s t : Stepped} (w : Two g ms k c e s t) where
  abbrev m : Moment
  m = moment_of k c e s

  abbrev n : Moment
  n = moment_of k c e t

  same_went : went m ≡ went n
  same_went = w.went_one ∙ sym w.went_two

  pub same_ticking : ticking m ≡ ticking n
  same_ticking = ap (λ (x : Bool). both x (is_tick e)) same_went

  pub same_begins : (v : ℕ) → begins v m ≡ begins v n
  unfolding begins
  same_begins v = rw (w.went_one, w.went_two)

  same_error : tells_error s.answer ≡ tells_error t.answer
  same_error = ap (λ (x : Notice). eqb x.kind 3) (w.one.tells.notice w.went_one ∙ sym (w.two.tells.notice w.went_two))

  -- the answers tell the same end
  stands_same : (v r i : ℕ) → standing_by v r s.answer e i ≡ standing_by v r t.answer e i
  stands_same v r i = standing_told v r s.answer t.answer e i same_error

  pub same_running : s.core.running ≡ t.core.running
  same_running = go (is_tick e) refl
    where
      go : (b : Bool) → is_tick e ≡ b → s.core.running ≡ t.core.running
      go true z = w.one.runs.tick (rw (w.went_one, z)) ∙ sym (w.two.runs.tick (rw (w.went_two, z)))
      go false z =
          w.one.runs.other w.went_one z
          ∙ ap (λ (i : ℕ). pick (not (eqb i 1)) 255 c.running) (stands_same c.running c.running 1)
          ∙ sym (w.two.runs.other w.went_two z)

  pub told_running : s.answer.running ≡ t.answer.running
  told_running = w.one.tells.running ∙ same_running ∙ sym w.two.tells.running

  pub same_result : s.answer.result ≡ t.answer.result
  same_result = w.one.tells.result w.went_one ∙ sym (w.two.tells.result w.went_two)

  -- what the history tells goes on in the same way
  told_same : {A : Type 0} (f : Moment → A → A) (a : A) → f m (told f a ms) ≡ f n (told f a ms) → told f a (ms ++ (m ∷ [])) ≡ told f a (ms ++ (n ∷ []))
  told_same f a h = told_more f a ms m ∙ h ∙ sym (told_more f a ms n)

  -- ---- the queue

  same_effect : effect g m ≡ effect g n
  unfolding effect
  same_effect = rw (w.went_one, w.went_two) (go e)
    where
      go : (e : Event) → effect_by g (moment_of k c e s) e ≡ effect_by g (moment_of k c e t) e
      go Start = refl
      go (Tick at) = refl
      go (Stop v) = refl
      go (Shutdown v) = refl
      go (Restart v) = refl
      go (Extra v) = refl
      go (Call i j at) = ap (of_service c.running i j) same_result
      go (Write o v) = refl
      go (Fault i d) = refl
      go (Copy p x) = ap (λ (b : Bool). pick b (Remove c.running) Keep) same_error

  same_entries : entries s.core.queue ≡ entries t.core.queue
  unfolding queue_after
  same_entries = w.one.traced.queue ∙ told_same (queue_after g) [] (ap (λ (f : Effect). affected f (queue_in g ms)) same_effect) ∙ sym w.two.traced.queue

  -- a queue is its entries, with zeros behind them (W5), and its counts
  padded : (u : Stepped) → Fits g ms k c e u → u.core.queue ≡ holding (entries u.core.queue) u.core.queue.counts
  padded u r = let h = sound_is u.core r.sound in of_entries u.core.queue r.traced.places.items (len_most u.core h) (queue_padded u.core h)

  -- which are those of the entries (W13)
  same_counts : s.core.queue.counts ≡ t.core.queue.counts
  same_counts =
      counted_one s.core.queue.counts t.core.queue.counts (entries t.core.queue) w.one.traced.places.counts w.two.traced.places.counts
      (subst (λ (l : List ℕ). Counted s.core.queue.counts l) same_entries (sound_is s.core w.one.sound).counted)
      (sound_is t.core w.two.sound).counted

  pub same_queue : s.core.queue ≡ t.core.queue
  same_queue =
      padded s w.one ∙ ap (λ (l : List ℕ). holding l s.core.queue.counts) same_entries ∙ ap (holding (entries t.core.queue)) same_counts ∙ sym (padded t w.two)

  pub same_removed : s.answer.removed ≡ t.answer.removed
  same_removed = w.one.removing.count ∙ ap (λ (f : Effect). removed_from f (queue_in g ms)) same_effect ∙ sym w.two.removing.count

  -- ---- the clock

  same_count : ticks_after m ≡ ticks_after n
  same_count = ap (λ (x : Bool). pick x (k + 1) k) same_ticking

  same_started : s.core.clock.started ≡ t.core.clock.started
  unfolding started_after
  same_started = w.one.traced.started ∙ told_same started_after 0 (rw (w.went_one, w.went_two)) ∙ sym w.two.traced.started

  clock_by : (i : ℕ) → ticks_after m ≡ i → ticks_after n ≡ i → Stands g i s.core.clock → Stands g i t.core.clock → s.core.clock ≡ t.core.clock
  clock_by zero a b h j =
      let u = w.one.table.unentered a in
      let v = w.two.table.unentered b in
      clock_same s.core.clock t.core.clock same_started
      (ticked_not s.core (sound_is s.core w.one.sound) h ∙ sym (ticked_not t.core (sound_is t.core w.two.sound) j))
      (u.0 ∙ sym v.0) (u.1 ∙ sym v.1)
  clock_by (suc i) a b h j =
      clock_same s.core.clock t.core.clock same_started
      (eqb-true s.core.clock.ticked 1 h.ticked ∙ sym (eqb-true t.core.clock.ticked 1 j.ticked))
      (slot_one g i s.core.clock t.core.clock h j) (left_one g i s.core.clock t.core.clock h j)

  pub same_clock : s.core.clock ≡ t.core.clock
  same_clock = clock_by (ticks_after m) refl (sym same_count) w.one.table.stands (subst (λ (i : ℕ). Stands g i t.core.clock) (sym same_count) w.two.table.stands)

  -- ---- a VM's standing and counts

  pub same_standing : (v : ℕ) → v < g.count → (vm_at s.core v).standing ≡ (vm_at t.core v).standing
  unfolding standing_after
  same_standing v l = w.one.traced.standing v l ∙ told_same (standing_after v) 0 (rw (w.went_one, w.went_two) (stands_same v c.running _)) ∙ sym (w.two.traced.standing v l)

  same_ran_in : (v : ℕ) → ran_in v m ≡ ran_in v n
  same_ran_in v = rw (same_ticking, told_running)

  pub age_told : (v : ℕ) → age_in v (ms ++ (m ∷ [])) % 2 ^ 32 ≡ age_in v (ms ++ (n ∷ [])) % 2 ^ 32
  age_told v = ap (λ (i : ℕ). i % 2 ^ 32) (told_same _ 0 (rw (same_begins v, same_ticking)))

  pub ran_told : (v : ℕ) → ran_since v (ms ++ (m ∷ [])) % 2 ^ 32 ≡ ran_since v (ms ++ (n ∷ [])) % 2 ^ 32
  ran_told v = ap (λ (i : ℕ). i % 2 ^ 32) (told_same _ 0 (rw (same_begins v, same_ran_in v)))

  pub same_age : (v : ℕ) → v < g.count → (vm_at s.core v).age ≡ (vm_at t.core v).age
  same_age v l = w.one.clocks.age v l ∙ age_told v ∙ sym (w.two.clocks.age v l)

  pub same_ran : (v : ℕ) → v < g.count → (vm_at s.core v).ran ≡ (vm_at t.core v).ran
  same_ran v l = w.one.clocks.ran v l ∙ ran_told v ∙ sym (w.two.clocks.ran v l)

-- ---- a VM's fields and address

-- the field f of v is the same in two states, and so is where v goes on
abbrev pub SameField : ℕ → Core → Core → Field → Type 0
SameField v c d f = value_of f (vm_at c v).status ≡ value_of f (vm_at d v).status

pub record Alike (v : ℕ) (c d : Core) : Type 0 where
  pub fields : (f : Field) → SameField v c d f
  pub address : (vm_at c v).address ≡ (vm_at d v).address

module _ {g : Config} {ms : List Moment} {k : ℕ} {c : Core} {e : Event} {s t : Stepped} (w : Two g ms k c e s t) (v : ℕ) (l : v < g.count) where
  -- what the event names in neither
  pub unnamed : (f : Field) → names_by v (moment_of k c e s) e f ≡ false → names_by v (moment_of k c e t) e f ≡ false → SameField v s.core t.core f
  unnamed f a b = w.one.framed.fields w.went_one v l f a ∙ sym (w.two.framed.fields w.went_two v l f b)

  pub unmoved : moves_by v (moment_of k c e s) e ≡ false → moves_by v (moment_of k c e t) e ≡ false → (vm_at s.core v).address ≡ (vm_at t.core v).address
  unmoved a b = w.one.framed.address w.went_one v l a ∙ sym (w.two.framed.address w.went_two v l b)
