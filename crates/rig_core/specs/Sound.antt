-- A sound state: one rule for each of W1 to W13.
use Rattle.std.specs.Prelude.{ℕ, ◌<◌, ◌≤◌, eqb, leb, ltb, get_or, Bool, false, not, true, ◌⊎◌, ◌≡◌}
use Rattle.basis.specs.Bounds.{within}
use Rattle.basis.specs.Choice.{both, either}
use Rattle.basis.specs.Count.{every}
use Rattle.basis.specs.Nobody.{nobody}
use Rattle.config.specs.Sizes.{Legal, duration_at, is_spare, legal}
use Rattle.rig_core.specs.State.{idle, owner_now, ready_at, vm_at}
use Rattle.rig_core.specs.declared.Core.{Core}
use Rattle.guest.specs.Record.{fresh, last_standing, standing_known}
use Rattle.queue.specs.Entries.{Counted, counted_of, entries, padded_of}
use Rattle.table.specs.Position.{has_ticked, is_started}
use Rattle.vms.specs.Records.{rest_fresh}

-- W1
abbrev pub config_sound : Core → Bool
config_sound c = legal c.config

-- W2
abbrev pub rest_sound : Core → Bool
rest_sound c = rest_fresh c.config.count c.vms

-- W3
abbrev pub few_queued : Core → Bool
few_queued c = leb c.queue.len c.config.room

-- W4
unfoldable pub queued_ready : Core → Bool
queued_ready c = every (λ k. ready_at c (get_or c.queue.items k 0)) c.queue.len

-- W5
abbrev pub places_empty : Core → Bool
places_empty c = padded_of c.queue

-- W6
abbrev pub idle_at_first : Core → Bool
idle_at_first c = either (has_ticked c.clock) (idle c)

-- W7
unfoldable pub none_ready : Core → Bool
none_ready c = every (λ k. not (ready_at c k)) 8

abbrev pub nothing_begun : Core → Bool
nothing_begun c = both (none_ready c) (both (eqb c.queue.len 0) (both (idle c) (not (has_ticked c.clock))))

abbrev pub start_sound : Core → Bool
start_sound c = either (is_started c.clock) (nothing_begun c)

-- W8
abbrev pub slot_sound : Core → Bool
slot_sound c = either (not (has_ticked c.clock)) (ltb c.clock.slot c.config.slots)

-- W9
abbrev pub left_sound : Core → Bool
left_sound c = either (not (has_ticked c.clock)) (within 1 (duration_at c.config c.clock.slot) c.clock.left)

-- W10
abbrev pub runner_ready : Core → Bool
runner_ready c = either (idle c) (ready_at c c.running)

-- W11
abbrev pub runner_named : Core → Bool
runner_named c = either (idle c) (either (eqb (owner_now c) c.running) (is_spare (owner_now c)))

-- W12
unfoldable pub standings_known : Core → Bool
standings_known c = every (λ k. standing_known (vm_at c k)) 8

abbrev pub numbers_known : Core → Bool
numbers_known c = both (leb c.clock.started 1) (both (leb c.clock.ticked 1) (standings_known c))

-- W13
abbrev pub counts_true : Core → Bool
counts_true c = counted_of c.queue

-- W1 to W13, and no more (W14)
unfoldable pub sound : Core → Bool
sound c =
    both (config_sound c)
    (both (rest_sound c)
    (both (few_queued c)
    (both (queued_ready c)
    (both (places_empty c)
    (both (idle_at_first c)
    (both (start_sound c)
    (both (slot_sound c)
    (both (left_sound c)
    (both (runner_ready c)
    (both (runner_named c)
    (both (numbers_known c)
    (counts_true c))))))))))))

-- W1 to W13 as facts
pub record Sound (c : Core) : Type 0 where
  pub legal : Legal c.config
  pub rest : (k : ℕ) → c.config.count ≤ k → k < 8 → vm_at c k ≡ fresh
  pub few : c.queue.len ≤ c.config.room
  pub queued : (k : ℕ) → k < c.queue.len → ready_at c (get_or c.queue.items k 0) ≡ true
  pub padded : (k : ℕ) → c.queue.len ≤ k → k < 16 → get_or c.queue.items k 0 ≡ 0
  pub first : has_ticked c.clock ≡ false → c.running ≡ nobody
  pub unstarted : is_started c.clock ≡ false
      → ((k : ℕ) → k < 8 → ready_at c k ≡ false) × (c.queue.len ≡ 0) × (c.running ≡ nobody) × (has_ticked c.clock ≡ false)
  pub slot : has_ticked c.clock ≡ true → c.clock.slot < c.config.slots
  pub left : has_ticked c.clock ≡ true → (1 ≤ c.clock.left) × (c.clock.left ≤ duration_at c.config c.clock.slot)
  pub ready : (c.running ≡ nobody → ⊥) → ready_at c c.running ≡ true
  pub named : (c.running ≡ nobody → ⊥) → (owner_now c ≡ c.running) ⊎ (owner_now c ≡ nobody)
  pub flags : (c.clock.started ≤ 1) × (c.clock.ticked ≤ 1)
  pub standings : (k : ℕ) → k < 8 → (vm_at c k).standing ≤ last_standing
  pub counted : Counted c.queue.counts (entries c.queue)
