-- Every event keeps W1 to W13.
use Prim.Native.Nat.{ℕ, ◌+◌, ◌-◌, ◌<◌, ◌≤◌}
use borrow.Author.Tests.{eqb-false, eqb-true, le-ltb, leb-false}
use lib.Dec.{eqb, ltb}
use lib.ListN.{get_or, length, length-append, set}
use lib.Seq.{get_or-set_other, get_or-set_same}
use mathlib.Core.Bool.{Bool, false, true}
use mathlib.Core.List.{List, [], ◌++◌, ◌∷◌}
use mathlib.Core.Logic.{inl, inr, ◌⊎◌}
use mathlib.Core.Path.{refl, subst, sym, ◌∙◌, ◌≡◌}
use native.Mathlib.Decide.{ℕ_discrete}
use native.Mathlib.Omega.{arith}
use Rattle.basis.proofs.Laws.{false_true, pick_case}
use Rattle.basis.specs.Choice.{pick}
use Rattle.basis.specs.Nobody.{nobody}
use Rattle.change.specs.Changes.{queue_without, running_without}
use Rattle.change.specs.declared.Change.{Change}
use Rattle.config.specs.Sizes.{entry_at, handler_at, is_spare}
use Rattle.rig_core.specs.Changes.{changed_by, replaced}
use Rattle.rig_core.specs.Events.{called, done, failure_of, start_core, step_of, tick_clock, tick_core, tick_owner, tick_queue, tick_turn}
use Rattle.rig_core.specs.Refusals.{row_of}
use Rattle.rig_core.specs.Sound.{Sound, sound}
use Rattle.rig_core.specs.State.{Shaped, full, owner_now, ready_at, vm_at}
use Rattle.rig_core.specs.declared.Core.{Core}
use Rattle.core_laws.proofs.Facts.{count_most, entries_len, entries_ready, ready_below, room_most, running_below, sound_is, sound_of}
use Rattle.core_laws.proofs.Refused.{refused_core}
use Rattle.core_laws.proofs.View.{call_case, copy_case, row_call, row_copy, row_extra, row_fault, row_restart, row_shutdown, row_start, row_stop, row_tick, row_write, step_case}
use Rattle.core_laws.specs.Run.{run}
use Rattle.event.specs.declared.Event.TheVariants.{Call, Copy, Extra, Fault, Restart, Shutdown, Start, Stop, Tick, Write}
use Rattle.event.specs.declared.Event.{Event}
use Rattle.guest.proofs.Facts.{deliver_standing, pend_standing, write_standing}
use Rattle.guest.specs.Deliver.{back_from, deliver}
use Rattle.guest.specs.Record.{ended_as, fresh, is_ready, last_standing, pend, saved_at, started_at}
use Rattle.guest.specs.Write.{write}
use Rattle.guest.specs.declared.Vm.{Vm}
use Rattle.queue.proofs.Counted.{counted_cleared, counted_lowered, counted_raised}
use Rattle.queue.proofs.Lists.{pad_at, past_at}
use Rattle.queue.proofs.Meaning.{all_append, all_at, all_map, all_others, all_others_not, all_rest, entries_of_lem, others_length, pushed_done, rest_length}
use Rattle.queue.specs.Entries.{All, Counted, cleared, entries, front_of, holding, lowered, others, popped, pushed, raised, rest}
use Rattle.queue.specs.declared.Queue.{Queue}
use Rattle.table.proofs.Moves.{OnTable, next_on_table, next_started, next_ticked}
use Rattle.table.specs.Position.{has_ticked, is_started}
use Rattle.vms.proofs.Laws.{each_at}
use Rattle.vms.proofs.Records.{ready_stays, turn_other, turn_standing, turn_who}
use Rattle.vms.specs.Records.{started_all}
use Rattle.vms.specs.Tick.{runner_of}

-- ---- the queue over the VM records

-- W3, W4, W5, W13
pub record Queued (room : ℕ) (l : List Vm) (q : Queue) : Type 0 where
  pub few : q.len ≤ room
  pub ready : (k : ℕ) → k < q.len → is_ready (get_or l (get_or q.items k 0) fresh) ≡ true
  pub padded : (k : ℕ) → q.len ≤ k → k < 16 → get_or q.items k 0 ≡ 0
  pub counted : Counted q.counts (entries q)

pub queued_now : (c : Core) → Sound c → Queued c.config.room c.vms c.queue
queued_now c s = record { few = s.few; ready = s.queued; padded = s.padded; counted = s.counted }

-- other records, with the entries ready in them
pub queued_in : (room : ℕ) (l m : List Vm) (q : Queue) → ((k : ℕ) → is_ready (get_or l k fresh) ≡ true → is_ready (get_or m k fresh) ≡ true) → Queued room l q → Queued room m q
queued_in room l m q h w = record { few = w.few; ready = λ k i. h (get_or q.items k 0) (w.ready k i); padded = w.padded; counted = w.counted }

-- the queue of a list, with its counts
pub queued_list : (room : ℕ) (l : List Vm) (m counts : List ℕ) → length m ≤ room → All (λ x. is_ready (get_or l x fresh) ≡ true) m → Counted counts m → Queued room l (holding m counts)
queued_list room l m counts h a n =
    record {
      few = h;
      ready = λ k i. rw (pad_at m (16 - length m) k) (all_at (λ x. is_ready (get_or l x fresh) ≡ true) m a k i);
      padded = λ k i j. pad_at m (16 - length m) k ∙ past_at m k i;
      counted = rw (entries_of_lem m counts) n;
    }

all_both : (p r : ℕ → Type 0) (l : List ℕ) → All p l → All r l → All (λ x. p x × r x) l
all_both p r [] a b = tt
all_both p r (x ∷ l) a b = ((a.0, b.0), all_both p r l a.1 b.1)

module _ (c : Core) (p : Shaped c) (s : Sound c) where
  -- D14, D18: without the entries of v, whose record is another
  pub without_queued : (v : ℕ) (vm : Vm) → Queued c.config.room (set c.vms v vm) (queue_without c.queue v)
  without_queued v vm =
      queued_list c.config.room (set c.vms v vm) (others v (entries c.queue)) (cleared v c.queue.counts)
      (omega (arith, others_length v (entries c.queue), entries_len c p s, s.few))
      (all_map _ _
      (λ x h. rw (get_or-set_other c.vms v x vm fresh (eqb-false x v h.1)) h.0)
      (others v (entries c.queue))
      (all_both (λ x. ready_at c x ≡ true) (λ x. eqb x v ≡ false) (others v (entries c.queue)) (all_others _ v (entries c.queue) (entries_ready c p s)) (all_others_not v (entries c.queue))))
      (counted_cleared c.queue.counts (entries c.queue) p.places.counts s.counted v)

  -- D20: one entry more
  pub pushed_queued : (v : ℕ) → ready_at c v ≡ true → c.queue.len < c.config.room → Queued c.config.room c.vms (pushed v c.queue)
  pushed_queued v r h =
      let i : c.queue.len < 16 = omega (arith, room_most c s) in
      let e : length (entries c.queue ++ (v ∷ [])) ≡ c.queue.len + 1 = length-append (entries c.queue) (v ∷ []) ∙ omega (arith, entries_len c p s) in
      subst (λ (q : Queue). Queued c.config.room c.vms q) (sym (pushed_done v c.queue i))
      (queued_list c.config.room c.vms (entries c.queue ++ (v ∷ [])) (raised v c.queue.counts) (omega arith) (all_append _ (entries c.queue) v (entries_ready c p s) r)
      (counted_raised c.queue.counts (entries c.queue) p.places.counts s.counted v (omega (arith, entries_len c p s))))

  -- D7: the oldest entry leaves in a spare slot
  pub tick_queued : Queued c.config.room c.vms (tick_queue c)
  unfolding tick_queue popped
  tick_queued =
      pick_case (λ (q : Queue). Queued c.config.room c.vms q) (is_spare (tick_owner c)) _ _
      (λ h. queued_list c.config.room c.vms (rest (entries c.queue)) (lowered (front_of (entries c.queue)) c.queue.counts) (omega (arith, rest_length (entries c.queue), entries_len c p s, s.few)) (all_rest _ (entries c.queue) (entries_ready c p s))
      (counted_lowered c.queue.counts (entries c.queue) p.places.counts s.counted))
      (λ h. queued_now c s)

-- ---- one record replaced

-- a VM of the configuration has another record; who ran goes on or nobody does; the queue is sound over the new records
pub replaced_sound : (c : Core) → length c.vms ≡ 8 → Sound c → is_started c.clock ≡ true → (v : ℕ) → v < c.config.count → (vm : Vm) → vm.standing ≤ last_standing
    → (r : ℕ) → ((r ≡ nobody → ⊥) → (r ≡ c.running) × (is_ready (get_or (set c.vms v vm) r fresh) ≡ true))
    → (q : Queue) → Queued c.config.room (set c.vms v vm) q → Sound (replaced c v vm r q)
replaced_sound c n s on v l vm m r run q w =
    record {
      legal = s.legal;
      rest = λ k h i. get_or-set_other c.vms v k vm fresh (λ e. omega arith) ∙ s.rest k h i;
      few = w.few;
      queued = w.ready;
      padded = w.padded;
      first = still;
      unstarted = λ h. false_true (sym h ∙ on);
      slot = s.slot;
      left = s.left;
      ready = λ h. (run h).1;
      named = λ h. subst (λ (x : ℕ). (owner_now c ≡ x) ⊎ (owner_now c ≡ nobody)) (sym (run h).0) (s.named (λ e. h ((run h).0 ∙ e)));
      flags = s.flags;
      standings = known;
      counted = w.counted;
    }
  where
    still : has_ticked c.clock ≡ false → r ≡ nobody
    still h =
        elim (ℕ_discrete r nobody) [
          | yes e ↦ e
          | no e ↦ (run e).0 ∙ s.first h
        ]

    known : (k : ℕ) → k < 8 → (get_or (set c.vms v vm) k fresh).standing ≤ last_standing
    known k h =
        elim (ℕ_discrete k v) [
          | yes e ↦ (let i : v < length c.vms = omega (arith, count_most c s) in rw (e, get_or-set_same c.vms v vm fresh i) m)
          | no e ↦ rw (get_or-set_other c.vms v k vm fresh e) (s.standings k h)
        ]

-- Stop, Fault, Call 3, a Call or a Copy that fails: the VM is no longer ready, its entries leave, and it runs no more
pub ended_sound : (c : Core) → Shaped c → Sound c → is_started c.clock ≡ true → (v : ℕ) → v < c.config.count → (vm : Vm) → vm.standing ≤ last_standing
    → Sound (replaced c v vm (running_without c.running v) (queue_without c.queue v))
unfolding running_without
ended_sound c p s on v l vm m =
    replaced_sound c p.records s on v l vm m (pick (eqb c.running v) nobody c.running) (go (eqb c.running v) refl)
    (queue_without c.queue v) (without_queued c p s v vm)
  where
    go : (b : Bool) → eqb c.running v ≡ b → (pick b nobody c.running ≡ nobody → ⊥)
        → (pick b nobody c.running ≡ c.running) × (is_ready (get_or (set c.vms v vm) (pick b nobody c.running) fresh) ≡ true)
    go true e h = absurd (h refl)
    go false e h = (refl, rw (get_or-set_other c.vms v c.running vm fresh (eqb-false c.running v e)) (s.ready h))

-- Shutdown, Restart, Extra, Write, and a Call or a Copy that goes on: the VM is ready after it, and who ran goes on
pub renewed_sound : (c : Core) → length c.vms ≡ 8 → Sound c → is_started c.clock ≡ true → (v : ℕ) → v < c.config.count → (vm : Vm) → is_ready vm ≡ true
    → (q : Queue) → Queued c.config.room (set c.vms v vm) q → Sound (replaced c v vm c.running q)
renewed_sound c n s on v l vm r q w =
    let i : v < length c.vms = omega (arith, count_most c s) in
    let one = eqb-true vm.standing 1 r in
    replaced_sound c n s on v l vm (omega arith) c.running (λ h. (refl, ready_stays c.vms v vm i r c.running (s.ready h))) q w

-- the same with the queue over the records before
renewed_over : (c : Core) → length c.vms ≡ 8 → Sound c → is_started c.clock ≡ true → (v : ℕ) → v < c.config.count → (vm : Vm) → is_ready vm ≡ true
    → (q : Queue) → Queued c.config.room c.vms q → Sound (replaced c v vm c.running q)
renewed_over c n s on v l vm r q w =
    let i : v < length c.vms = omega (arith, count_most c s) in
    renewed_sound c n s on v l vm r q (queued_in c.config.room c.vms (set c.vms v vm) q (ready_stays c.vms v vm i r) w)

-- ---- Start

-- D1, D2
pub start_sound : (c : Core) → length c.vms ≡ 8 → Sound c → is_started c.clock ≡ false → Sound (start_core c)
unfolding start_core
start_sound c n s off =
    let u = s.unstarted off in
    record {
      legal = s.legal;
      rest = past;
      few = s.few;
      queued = λ k h. absurd (omega (arith, u.1));
      padded = s.padded;
      first = λ h. u.2;
      unstarted = λ h. false_true (sym h);
      slot = s.slot;
      left = s.left;
      ready = λ h. absurd (h u.2);
      named = λ h. absurd (h u.2);
      flags = (omega arith, s.flags.1);
      standings = known;
      counted = s.counted;
    }
  where
    at_place : (k : ℕ) → k < 8 → get_or (started_all c.config.count c.config.entries c.vms) k fresh ≡ pick (ltb k c.config.count) (started_at (entry_at c.config k)) (vm_at c k)
    at_place k h = each_at (λ i v. started_at (get_or c.config.entries i 0)) c.vms c.config.count k (omega arith)

    past : (k : ℕ) → c.config.count ≤ k → k < 8 → get_or (started_all c.config.count c.config.entries c.vms) k fresh ≡ fresh
    past k h i = at_place k i ∙ rw (le-ltb k c.config.count h) (s.rest k h i)

    known : (k : ℕ) → k < 8 → (get_or (started_all c.config.count c.config.entries c.vms) k fresh).standing ≤ last_standing
    known k h = rw (at_place k h) (pick_case (λ (w : Vm). w.standing ≤ last_standing) (ltb k c.config.count) _ _ (λ t. omega arith) (λ t. s.standings k h))

-- ---- Tick

front_of_lem : (p : ℕ → Type 0) (l : List ℕ) → All p l → (front_of l ≡ nobody → ⊥) → p (front_of l)
unfolding front_of
front_of_lem p [] a h = absurd (h refl)
front_of_lem p (x ∷ l) a h = a.0

-- D6, D7: whom a tick runs is ready, and the slot names it or is spare
pub runner_facts : (c : Core) → Shaped c → Sound c → (owner : ℕ) → (runner_of owner (front_of (entries c.queue)) c.vms ≡ nobody → ⊥)
    → (ready_at c (runner_of owner (front_of (entries c.queue)) c.vms) ≡ true) × ((owner ≡ runner_of owner (front_of (entries c.queue)) c.vms) ⊎ (owner ≡ nobody))
unfolding runner_of
runner_facts c p s owner =
    pick_case Q (is_spare owner) _ _
    (λ h n. (front_of_lem (λ x. ready_at c x ≡ true) (entries c.queue) (entries_ready c p s) n, inr (eqb-true owner nobody h)))
    (λ h. pick_case Q (is_ready (get_or c.vms owner fresh)) _ _ (λ r n. (r, inl refl)) (λ r n. absurd (n refl)))
  where
    Q : ℕ → Type 0
    Q who = (who ≡ nobody → ⊥) → (ready_at c who ≡ true) × ((owner ≡ who) ⊎ (owner ≡ nobody))

on_table_now : (c : Core) → Sound c → has_ticked c.clock ≡ true → OnTable c.config c.clock
on_table_now c s h = let w = s.left h in record { slot = s.slot h; some = w.0; most = w.1 }

pub tick_on_table : (c : Core) → Sound c → OnTable c.config (tick_clock c)
unfolding tick_clock
tick_on_table c s = next_on_table c.config s.legal c.clock (on_table_now c s)

pub tick_ticked : (c : Core) → (tick_clock c).ticked ≡ 1
unfolding tick_clock
tick_ticked c = next_ticked c.config.slots c.config.durations c.clock

pub tick_started : (c : Core) → (tick_clock c).started ≡ c.clock.started
unfolding tick_clock
tick_started c = next_started c.config.slots c.config.durations c.clock

-- D6, D7: whom a tick runs
abbrev pub tick_runner : Core → ℕ
tick_runner c = runner_of (tick_owner c) (front_of (entries c.queue)) c.vms

pub tick_who : (c : Core) (at : ℕ) → (tick_turn c at).who ≡ tick_runner c
unfolding tick_turn
tick_who c at = turn_who c.running at c.config.count (tick_owner c) (front_of (entries c.queue)) (tick_clock c).left c.config.handlers c.vms

pub tick_standing : (c : Core) (at k : ℕ) → (get_or (tick_turn c at).vms k fresh).standing ≡ (vm_at c k).standing
unfolding tick_turn
tick_standing c at k = turn_standing c.running at c.config.count (tick_owner c) (front_of (entries c.queue)) (tick_clock c).left c.config.handlers c.vms k

pub tick_other : (c : Core) (at k : ℕ) → (k ≡ c.running → ⊥) → (k ≡ tick_runner c → ⊥) → c.config.count ≤ k → get_or (tick_turn c at).vms k fresh ≡ vm_at c k
unfolding tick_turn
tick_other c at k = turn_other c.running at c.config.count (tick_owner c) (front_of (entries c.queue)) (tick_clock c).left c.config.handlers c.vms k

-- readiness is what it was
pub tick_ready : (c : Core) (at k : ℕ) → is_ready (get_or (tick_turn c at).vms k fresh) ≡ ready_at c k
tick_ready c at k = rw (tick_standing c at k)

-- whom a tick runs is a VM of the configuration
pub tick_below : (c : Core) → Shaped c → Sound c → (tick_runner c ≡ nobody → ⊥) → tick_runner c < c.config.count
tick_below c p s h = ready_below c p.records s (tick_runner c) (runner_facts c p s (tick_owner c) h).0

module _ (c : Core) (p : Shaped c) (s : Sound c) (on : is_started c.clock ≡ true) (at : ℕ) where
  -- a number from the VM count up to 7 is neither nobody nor a VM of the configuration
  no_vm : (k r : ℕ) → c.config.count ≤ k → k < 8 → ((r ≡ nobody → ⊥) → r < c.config.count) → k ≡ r → ⊥
  no_vm k r h i f e =
      let n : r ≡ nobody → ⊥ = λ z. omega arith in
      let l = f n in
      omega arith

  pub tick_sound : Sound (tick_core c at)
  tick_sound =
      let k = tick_on_table c s in
      let w = queued_in c.config.room c.vms (tick_turn c at).vms (tick_queue c) (λ k h. tick_ready c at k ∙ h) (tick_queued c p s) in
      let who = tick_who c at in
      record {
        legal = s.legal;
        rest = λ i h l. tick_other c at i (no_vm i c.running h l (running_below c p.records s)) (no_vm i (tick_runner c) h l (tick_below c p s)) h ∙ s.rest i h l;
        few = w.few;
        queued = w.ready;
        padded = w.padded;
        first = λ h. false_true (sym h ∙ rw (tick_ticked c));
        unstarted = λ h. false_true (sym h ∙ rw (tick_started c) on);
        slot = λ h. k.slot;
        left = λ h. (k.some, k.most);
        ready = λ h. rw who (tick_ready c at (tick_runner c) ∙ (runner_facts c p s (tick_owner c) (λ e. h (who ∙ e))).0);
        named = λ h. rw who (runner_facts c p s (tick_owner c) (λ e. h (who ∙ e))).1;
        flags = (omega (arith, tick_started c, s.flags.0), omega (arith, tick_ticked c));
        standings = λ i h. rw (tick_standing c at i) (s.standings i h);
        counted = w.counted;
      }

-- ---- every event

module _ (c : Core) (p : Shaped c) (s : Sound c) where
  -- the record of the VM that runs, changed but ready
  goes_on : is_started c.clock ≡ true → (c.running ≡ nobody → ⊥) → (vm : Vm) → vm.standing ≡ (vm_at c c.running).standing
      → (q : Queue) → Queued c.config.room c.vms q → Sound (replaced c c.running vm c.running q)
  goes_on on h vm e q w =
      renewed_over c p.records s on c.running (running_below c p.records s h) vm (rw e (s.ready h)) q w

  ends : is_started c.clock ≡ true → (c.running ≡ nobody → ⊥) → (vm : Vm) → vm.standing ≤ last_standing
      → Sound (replaced c c.running vm (running_without c.running c.running) (queue_without c.queue c.running))
  ends on h vm m = ended_sound c p s on c.running (running_below c p.records s h) vm m

  pub call_sound : is_started c.clock ≡ true → (c.running ≡ nobody → ⊥) → (service argument next : ℕ)
      → Sound (changed_by c (called c c.running service argument (saved_at next (vm_at c c.running)))).core
  call_sound on h service argument next =
      let vm : Vm = saved_at next (vm_at c c.running) in
      let hd : ℕ = handler_at c.config c.running in
      call_case (λ (d : Change). Sound (changed_by c d).core) c.running c.queue (full c) hd c.running service argument vm
      (λ z. goes_on on h (deliver hd vm).vm (deliver_standing hd vm) c.queue (queued_now c s))
      (λ z. goes_on on h (deliver hd (back_from vm)).vm (deliver_standing hd (back_from vm)) c.queue (queued_now c s))
      (λ z l. goes_on on h (deliver hd (pend argument vm)).vm (deliver_standing hd (pend argument vm) ∙ pend_standing argument vm) c.queue (queued_now c s))
      (λ z l. ends on h (ended_as 4 vm) (omega arith))
      (λ z. ends on h (ended_as 3 vm) (omega arith))
      (λ z l. goes_on on h vm refl c.queue (queued_now c s))
      (λ z l. goes_on on h vm refl (pushed c.running c.queue) (pushed_queued c p s c.running (s.ready h) (leb-false c.config.room c.queue.len l)))
      (λ z. ends on h (ended_as 4 vm) (omega arith))

  pub done_sound : (e : Event) → row_of c e ≡ 0 → Sound (done c e).core
  unfolding done
  done_sound Start r = start_sound c p.records s (row_start c r)
  done_sound (Tick at) r = tick_sound c p s (row_tick c at r) at
  done_sound (Stop v) r = let a = row_stop c v r in ended_sound c p s a.0 v a.1 (ended_as 2 (vm_at c v)) (omega arith)
  done_sound (Shutdown v) r =
      let a = row_shutdown c v r in
      renewed_over c p.records s a.0 v a.1 (pend 11 (vm_at c v)) (rw (pend_standing 11 (vm_at c v)) a.2) c.queue (queued_now c s)
  done_sound (Restart v) r =
      let a = row_restart c v r in
      renewed_sound c p.records s a.0 v a.1 (started_at (entry_at c.config v)) refl (queue_without c.queue v) (without_queued c p s v (started_at (entry_at c.config v)))
  done_sound (Extra v) r =
      let a = row_extra c v r in
      renewed_over c p.records s a.0 v a.1 (vm_at c v) a.2 (pushed v c.queue) (pushed_queued c p s v a.2 a.3)
  done_sound (Call k n a) r = let b = row_call c k n a r in call_sound b.0 b.1 k n a
  done_sound (Write o x) r =
      let a = row_write c o x r in
      goes_on a.0 a.1 (write o x (vm_at c c.running)) (write_standing o x (vm_at c c.running)) c.queue (queued_now c s)
  done_sound (Fault k d) r = let a = row_fault c k d r in ends a.0 a.1 (ended_as 4 (vm_at c c.running)) (omega arith)
  done_sound (Copy q w) r =
      let a = row_copy c q w r in
      let vm : Vm = saved_at q.next (vm_at c c.running) in
      copy_case (λ (d : Change). Sound (changed_by c d).core) c.running c.queue c.running vm (failure_of c w q).code (failure_of c w q).detail
      (λ z. goes_on a.0 a.1 vm refl c.queue (queued_now c s))
      (λ z. ends a.0 a.1 (ended_as 4 vm) (omega arith))

-- W1 to W13: every event keeps them
pub step_facts : (c : Core) (e : Event) → Shaped c → Sound c → Sound (step_of c e).core
step_facts c e p s =
    step_case c e (λ x. Sound x.core)
    (λ n q h. subst (λ (d : Core). Sound d) (sym (refused_core c n)) s)
    (λ y r. done_sound c p s e r)

pub sound_step : (c : Core) (e : Event) → Shaped c → sound c ≡ true → sound (step_of c e).core ≡ true
sound_step c e p h = sound_of (step_of c e).core (step_facts c e p (sound_is c h))
