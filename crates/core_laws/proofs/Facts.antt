-- The test `sound` says what the record `Sound` says: W1 to W13 as facts; and facts that follow on sound states.
use Prim.Native.Nat.{ℕ, ◌<◌, ◌≤◌}
use borrow.Author.Tests.{eq-eqb, eqb-false, eqb-true, le-leb, le-ltb, leb-true, lt-ltb, ltb-false, ltb-true, ne_eqb, not-true}
use lib.Dec.{eqb, leb, ltb}
use lib.ListN.{get_or-eq_default, get_or, length}
use mathlib.Core.Bool.{Bool, false, not, true}
use mathlib.Core.Logic.{inl, inr, ◌⊎◌, ⊎_elim}
use mathlib.Core.Path.{refl, sym, ◌∙◌, ◌≡◌}
use native.Mathlib.Decide.{dec_lt, ℕ_discrete}
use native.Mathlib.Omega.{arith}
use Rattle.basis.proofs.Bounds.{within_is, within_of}
use Rattle.basis.proofs.Laws.{both_left, both_of, both_right, either_is, either_left, either_right, every_is, every_of, false_true}
use Rattle.basis.specs.Choice.{either}
use Rattle.basis.specs.Nobody.{nobody}
use Rattle.config.proofs.Legality.{legal_is, legal_of}
use Rattle.config.specs.Sizes.{duration_at, is_spare, legal}
use Rattle.rig_core.specs.Sound.{Sound, config_sound, counts_true, few_queued, idle_at_first, left_sound, none_ready, nothing_begun, numbers_known, places_empty, queued_ready, rest_sound, runner_named, runner_ready, slot_sound, sound, standings_known, start_sound}
use Rattle.rig_core.specs.State.{Shaped, idle, owner_now, ready_at, vm_at}
use Rattle.rig_core.specs.declared.Core.{Core}
use Rattle.guest.proofs.Facts.{fresh_is, fresh_of}
use Rattle.guest.specs.Record.{fresh, last_standing}
use Rattle.queue.proofs.Counted.{counted_is, counted_of_lem, entries_few, entries_none}
use Rattle.queue.proofs.Lists.{take_at_in}
use Rattle.queue.proofs.Meaning.{all_map, all_of, entries_length, of_entries}
use Rattle.queue.specs.Entries.{All, entries, entries_of, holding, padded_of}
use Rattle.table.specs.Position.{has_ticked, is_started}
use Rattle.vms.specs.Records.{rest_fresh}

-- ---- from a test to a fact and back

-- unless a holds, b does
unless_is : (a b : Bool) → either a b ≡ true → a ≡ false → b ≡ true
unless_is true b e h = false_true (sym h)
unless_is false b e h = e

unless_of : (a b : Bool) → (a ≡ false → b ≡ true) → either a b ≡ true
unless_of true b h = refl
unless_of false b h = h refl

-- where a holds, b does
where_is : (a b : Bool) → either (not a) b ≡ true → a ≡ true → b ≡ true
where_is true b e h = e
where_is false b e h = false_true h

where_of : (a b : Bool) → (a ≡ true → b ≡ true) → either (not a) b ≡ true
where_of true b h = h refl
where_of false b h = refl

not_of : (a : Bool) → a ≡ false → not a ≡ true
not_of a e = rw e

-- W11, of the VM that runs
named_is : (o r : ℕ) → either (eqb o r) (is_spare o) ≡ true → (o ≡ r) ⊎ (o ≡ nobody)
named_is o r e = ⊎_elim (λ h. inl (eqb-true o r h)) (λ h. inr (eqb-true o nobody h)) (either_is (eqb o r) (eqb o nobody) e)

named_of : (o r : ℕ) → (o ≡ r) ⊎ (o ≡ nobody) → either (eqb o r) (is_spare o) ≡ true
named_of o r = ⊎_elim (λ h. either_left (eqb o r) (eqb o nobody) (eq-eqb o r h)) (λ h. either_right (eqb o r) (eqb o nobody) (eq-eqb o nobody h))

-- ---- W1 to W13 as the tests that `sound` joins

record Tests (c : Core) : Type 0 where
  legal : config_sound c ≡ true
  rest : rest_sound c ≡ true
  few : few_queued c ≡ true
  queued : queued_ready c ≡ true
  padded : places_empty c ≡ true
  first : idle_at_first c ≡ true
  begun : start_sound c ≡ true
  slot : slot_sound c ≡ true
  left : left_sound c ≡ true
  ready : runner_ready c ≡ true
  named : runner_named c ≡ true
  numbers : numbers_known c ≡ true
  counted : counts_true c ≡ true

tests_is : (c : Core) → sound c ≡ true → Tests c
unfolding sound
tests_is c e =
    let e1 = both_right (config_sound c) _ e in
    let e2 = both_right (rest_sound c) _ e1 in
    let e3 = both_right (few_queued c) _ e2 in
    let e4 = both_right (queued_ready c) _ e3 in
    let e5 = both_right (places_empty c) _ e4 in
    let e6 = both_right (idle_at_first c) _ e5 in
    let e7 = both_right (start_sound c) _ e6 in
    let e8 = both_right (slot_sound c) _ e7 in
    let e9 = both_right (left_sound c) _ e8 in
    let e10 = both_right (runner_ready c) _ e9 in
    let e11 = both_right (runner_named c) _ e10 in
    record {
      legal = both_left (config_sound c) _ e;
      rest = both_left (rest_sound c) _ e1;
      few = both_left (few_queued c) _ e2;
      queued = both_left (queued_ready c) _ e3;
      padded = both_left (places_empty c) _ e4;
      first = both_left (idle_at_first c) _ e5;
      begun = both_left (start_sound c) _ e6;
      slot = both_left (slot_sound c) _ e7;
      left = both_left (left_sound c) _ e8;
      ready = both_left (runner_ready c) _ e9;
      named = both_left (runner_named c) _ e10;
      numbers = both_left (numbers_known c) _ e11;
      counted = both_right (numbers_known c) _ e11;
    }

tests_of : (c : Core) → Tests c → sound c ≡ true
unfolding sound
tests_of c t =
    both_of (config_sound c) _ t.legal
    (both_of (rest_sound c) _ t.rest
    (both_of (few_queued c) _ t.few
    (both_of (queued_ready c) _ t.queued
    (both_of (places_empty c) _ t.padded
    (both_of (idle_at_first c) _ t.first
    (both_of (start_sound c) _ t.begun
    (both_of (slot_sound c) _ t.slot
    (both_of (left_sound c) _ t.left
    (both_of (runner_ready c) _ t.ready
    (both_of (runner_named c) _ t.named
    (both_of (numbers_known c) _ t.numbers
    t.counted)))))))))))

-- ---- the test and the facts

unstarted_is : (c : Core) → nothing_begun c ≡ true
    → ((k : ℕ) → k < 8 → ready_at c k ≡ false) × (c.queue.len ≡ 0) × (c.running ≡ nobody) × (has_ticked c.clock ≡ false)
unfolding none_ready
unstarted_is c e =
    let e1 = both_right (none_ready c) _ e in
    let e2 = both_right (eqb c.queue.len 0) _ e1 in (
      λ k h. not-true (ready_at c k) (every_is _ 8 (both_left (none_ready c) _ e) k h),
      eqb-true c.queue.len 0 (both_left (eqb c.queue.len 0) _ e1),
      eqb-true c.running nobody (both_left (idle c) _ e2),
      not-true (has_ticked c.clock) (both_right (idle c) _ e2),
    )

unstarted_of : (c : Core) → ((k : ℕ) → k < 8 → ready_at c k ≡ false) × (c.queue.len ≡ 0) × (c.running ≡ nobody) × (has_ticked c.clock ≡ false)
    → nothing_begun c ≡ true
unfolding none_ready
unstarted_of c u =
    both_of (none_ready c) _ (every_of _ 8 (λ k h. not_of (ready_at c k) (u.0 k h)))
    (both_of (eqb c.queue.len 0) _ (eq-eqb c.queue.len 0 u.1)
    (both_of (idle c) _ (eq-eqb c.running nobody u.2) (not_of (has_ticked c.clock) u.3)))

-- a state that passes the test keeps W1 to W13
pub sound_is : (c : Core) → sound c ≡ true → Sound c
unfolding queued_ready standings_known rest_fresh padded_of
sound_is c e =
    let t = tests_is c e in
    let n = both_right (leb c.clock.started 1) _ t.numbers in
    record {
      legal = legal_is c.config t.legal;
      rest = λ k h l. fresh_is (vm_at c k) (unless_is (ltb k c.config.count) _ (every_is _ 8 t.rest k l) (le-ltb k c.config.count h));
      few = leb-true c.queue.len c.config.room t.few;
      queued = every_is _ c.queue.len t.queued;
      padded = λ k h l. eqb-true (get_or c.queue.items k 0) 0 (unless_is (ltb k c.queue.len) _ (every_is _ 16 t.padded k l) (le-ltb k c.queue.len h));
      first = λ h. eqb-true c.running nobody (unless_is (has_ticked c.clock) _ t.first h);
      unstarted = λ h. unstarted_is c (unless_is (is_started c.clock) _ t.begun h);
      slot = λ h. ltb-true c.clock.slot c.config.slots (where_is (has_ticked c.clock) _ t.slot h);
      left = λ h. within_is 1 (duration_at c.config c.clock.slot) c.clock.left (where_is (has_ticked c.clock) _ t.left h);
      ready = λ h. unless_is (idle c) _ t.ready (ne_eqb c.running nobody h);
      named = λ h. named_is (owner_now c) c.running (unless_is (idle c) _ t.named (ne_eqb c.running nobody h));
      flags = (leb-true c.clock.started 1 (both_left (leb c.clock.started 1) _ t.numbers), leb-true c.clock.ticked 1 (both_left (leb c.clock.ticked 1) _ n));
      standings = λ k h. leb-true (vm_at c k).standing last_standing (every_is _ 8 (both_right (leb c.clock.ticked 1) _ n) k h);
      counted = counted_is c.queue t.counted;
    }

-- and a state that keeps W1 to W13 passes it: nothing beyond them is asked (W14)
pub sound_of : (c : Core) → Sound c → sound c ≡ true
unfolding queued_ready standings_known rest_fresh padded_of
sound_of c s =
    tests_of c
    (record {
      legal = legal_of c.config s.legal;
      rest = every_of _ 8 (λ k h. unless_of (ltb k c.config.count) _ (λ l. fresh_of (vm_at c k) (s.rest k (ltb-false k c.config.count l) h)));
      few = le-leb c.queue.len c.config.room s.few;
      queued = every_of _ c.queue.len s.queued;
      padded = every_of _ 16 (λ k h. unless_of (ltb k c.queue.len) _ (λ l. eq-eqb (get_or c.queue.items k 0) 0 (s.padded k (ltb-false k c.queue.len l) h)));
      first = unless_of (has_ticked c.clock) _ (λ h. eq-eqb c.running nobody (s.first h));
      begun = unless_of (is_started c.clock) _ (λ h. unstarted_of c (s.unstarted h));
      slot = where_of (has_ticked c.clock) _ (λ h. lt-ltb c.clock.slot c.config.slots (s.slot h));
      left = where_of (has_ticked c.clock) _ (λ h. (let w = s.left h in within_of 1 (duration_at c.config c.clock.slot) c.clock.left w.0 w.1));
      ready = unless_of (idle c) _ (λ h. s.ready (eqb-false c.running nobody h));
      named = unless_of (idle c) _ (λ h. named_of (owner_now c) c.running (s.named (eqb-false c.running nobody h)));
      numbers = both_of (leb c.clock.started 1) _ (le-leb c.clock.started 1 s.flags.0)
          (both_of (leb c.clock.ticked 1) _ (le-leb c.clock.ticked 1 s.flags.1)
          (every_of _ 8 (λ k h. le-leb (vm_at c k).standing last_standing (s.standings k h))));
      counted = counted_of_lem c.queue s.counted;
    })

-- ---- what follows on sound states

-- W1: a state whose configuration is not legal is not sound
pub illegal_unsound : (c : Core) → legal c.config ≡ false → sound c ≡ false
unfolding sound
illegal_unsound c h = rw h

module _ (c : Core) (s : Sound c) where
  -- S1, S2: so no VM of the configuration is the number for nobody, and every queue has its places
  pub count_most : c.config.count ≤ 8
  count_most = s.legal.vms.1

  pub room_most : c.config.room ≤ 16
  room_most = s.legal.queue

  pub len_most : c.queue.len ≤ 16
  len_most = let a = s.few in let b = s.legal.queue in omega arith

  -- W5: the places past the entries
  pub queue_padded : padded_of c.queue ≡ true
  unfolding padded_of
  queue_padded = every_of _ 16 (λ k h. unless_of (ltb k c.queue.len) _ (λ l. eq-eqb (get_or c.queue.items k 0) 0 (s.padded k (ltb-false k c.queue.len l) h)))

  -- W12: a flag that is not 1 is 0
  pub started_not : is_started c.clock ≡ false → c.clock.started ≡ 0
  started_not h = let n = eqb-false c.clock.started 1 h in let f = s.flags.0 in omega arith

  pub ticked_not : has_ticked c.clock ≡ false → c.clock.ticked ≡ 0
  ticked_not h = let n = eqb-false c.clock.ticked 1 h in let f = s.flags.1 in omega arith

  -- W6, W7: where a VM runs the core has ticked, and where it has ticked it is started
  pub ticked_started : has_ticked c.clock ≡ true → is_started c.clock ≡ true
  ticked_started h = go (is_started c.clock) refl
    where
      go : (b : Bool) → is_started c.clock ≡ b → b ≡ true
      go true f = refl
      go false f = false_true (sym (s.unstarted f).3 ∙ h)

  pub runs_ticked : (c.running ≡ nobody → ⊥) → has_ticked c.clock ≡ true
  runs_ticked h = go (has_ticked c.clock) refl
    where
      go : (b : Bool) → has_ticked c.clock ≡ b → b ≡ true
      go true f = refl
      go false f = absurd (h (s.first f))

  pub runs_started : (c.running ≡ nobody → ⊥) → is_started c.clock ≡ true
  runs_started h = ticked_started (runs_ticked h)

module _ (c : Core) (n : length c.vms ≡ 8) (s : Sound c) where
  -- W2: records past the VM count are fresh, and there is none past the eighth
  pub past_fresh : (k : ℕ) → c.config.count ≤ k → vm_at c k ≡ fresh
  past_fresh k h =
      elim (dec_lt k 8) [
        | yes l ↦ s.rest k h l
        | no l ↦ (let g : length c.vms ≤ k = omega arith in get_or-eq_default c.vms fresh g)
      ]

  -- so a VM that is ready is one of the configuration
  pub ready_below : (v : ℕ) → ready_at c v ≡ true → v < c.config.count
  ready_below v r =
      elim (dec_lt v c.config.count) [
        | yes l ↦ l
        | no l ↦ (let h : c.config.count ≤ v = omega arith in false_true (rw (past_fresh v h) at r))
      ]

  -- the VM that runs is one of the configuration
  pub running_below : (c.running ≡ nobody → ⊥) → c.running < c.config.count
  running_below h = ready_below c.running (s.ready h)

  pub running_who : (c.running ≡ nobody) ⊎ (c.running < c.config.count)
  running_who =
      elim (ℕ_discrete c.running nobody) [
        | yes e ↦ inl e
        | no e ↦ inr (running_below e)
      ]

  -- T3, W12: every standing is known, past the eight records too
  pub standing_most : (k : ℕ) → (vm_at c k).standing ≤ last_standing
  standing_most k =
      elim (dec_lt k 8) [
        | yes l ↦ s.standings k l
        | no l ↦ (let g : length c.vms ≤ k = omega arith in rw (get_or-eq_default c.vms fresh g) (omega arith))
      ]

  -- nobody is no VM
  pub nobody_unready : ready_at c nobody ≡ false
  nobody_unready = (let m = count_most c s in let g : length c.vms ≤ nobody = omega arith in rw (get_or-eq_default c.vms fresh g))

module _ (c : Core) (p : Shaped c) (s : Sound c) where
  pub queue_is_entries : c.queue ≡ holding (entries c.queue) c.queue.counts
  queue_is_entries = of_entries c.queue p.places.items (len_most c s) (queue_padded c s)

  pub entries_len : length (entries c.queue) ≡ c.queue.len
  entries_len = entries_length c.queue p.places.items (len_most c s)

  -- W4: each entry names a VM that is ready, so one of the configuration
  pub entries_ready : All (λ x. ready_at c x ≡ true) (entries c.queue)
  entries_ready =
      all_of _ (entries c.queue)
      (λ k h. (let l : k < c.queue.len = omega (arith, entries_len) in rw (take_at_in c.queue.len c.queue.items k l) (s.queued k l)))

  pub entries_below : All (λ x. x < c.config.count) (entries c.queue)
  entries_below = all_map _ _ (λ x r. ready_below c p.records s x r) (entries c.queue) entries_ready

  -- W13: a number past the VM count has no entry, so its count is 0
  pub past_uncounted : (v : ℕ) → c.config.count ≤ v → v < 8 → get_or c.queue.counts v 0 ≡ 0
  past_uncounted v h i = s.counted v i ∙ entries_none v (entries c.queue) (all_map _ _ (λ x l. omega arith) (entries c.queue) entries_below)

  -- W7, W13: before Start all counts are 0
  pub unstarted_uncounted : is_started c.clock ≡ false → (v : ℕ) → v < 8 → get_or c.queue.counts v 0 ≡ 0
  unstarted_uncounted h v i =
      let z : entries_of v (entries c.queue) ≡ 0 = omega (arith, entries_few v (entries c.queue), entries_len, (s.unstarted h).1) in
      s.counted v i ∙ z
