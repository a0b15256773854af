-- Laws of the tests that the soundness test is made of.
use Prim.Native.Nat.{ℕ, ◌≤◌}
use borrow.Author.Tests.{le-leb, lt-leb}
use lib.Dec.{eqb, leb, ltb}
use lib.ListN.{get_or-eq_default, get_or-map, get_or, length}
use mathlib.Core.Bool.{Bool, false, not, true}
use mathlib.Core.List.{List}
use mathlib.Core.Path.{ap, refl, sym, ◌∙◌, ◌≡◌}
use native.Mathlib.Decide.{dec_lt}
use native.Mathlib.Omega.{arith}
use Rattle.basis.proofs.Laws.{both_assoc, both_no, both_yes, every_same}
use Rattle.basis.specs.Bounds.{within}
use Rattle.basis.specs.Choice.{both, either}
use Rattle.basis.specs.Count.{every}
use Rattle.basis.specs.Nobody.{nobody}
use Rattle.checks.specs.Sound.{nothing_from, ready_of, sound_from}
use Rattle.checks.specs.Standings.{none_in, ready_in}
use Rattle.config.proofs.Legality.{legal_is}
use Rattle.config.specs.Sizes.{duration_at, is_spare, legal, owner_at}
use Rattle.config.specs.declared.Config.{Config}
use Rattle.guest.specs.Record.{fresh, last_standing, standing_known}
use Rattle.guest.specs.declared.Vm.{Vm}
use Rattle.queue.specs.Entries.{counted_of, padded_of}
use Rattle.queue.specs.declared.Queue.{Queue}
use Rattle.table.specs.Position.{has_ticked, is_started}
use Rattle.table.specs.declared.Clock.{Clock}
use Rattle.vms.specs.Records.{rest_fresh, standings_of}

pub start_ticked : (t s i n q r : Bool) → t ≡ true → r ≡ s → r ≡ both (either t i) (either s (both n (both q (both i (not t)))))
start_ticked t s i n q r e f = rw (e, f) (go s i n q)
  where
    go : (s i n q : Bool) → s ≡ either s (both n (both q (both i false)))
    go true i n q = refl
    go false true true true = refl
    go false true true false = refl
    go false true false q = refl
    go false false true true = refl
    go false false true false = refl
    go false false false q = refl

pub start_idle : (t s i n q a r : Bool) → t ≡ false → i ≡ true → s ≡ false → a ≡ n → r ≡ both a q → r ≡ both (either t i) (either s (both n (both q (both i (not t)))))
start_idle t s i n q a r e f g h k = rw (e, f, g) (k ∙ rw h (go n q))
  where
    go : (n q : Bool) → both n q ≡ both n (both q true)
    go true true = refl
    go true false = refl
    go false q = refl

pub ready_past : (l : List ℕ) (i : ℕ) (r : Bool) → length l ≤ i → r ≡ false → r ≡ ready_in l i
ready_past l i r h e = e ∙ rw (get_or-eq_default l 0 h)

-- readiness by the list of standings
ready_is : (l : List Vm) (i : ℕ) → ready_of l i ≡ ready_in (standings_of l) i
ready_is l i = ap (λ (n : ℕ). eqb n 1) (sym (get_or-map (λ (v : Vm). v.standing) l i fresh))

-- the standing of a VM, by the list of standings
standing_is : (l : List Vm) (i : ℕ) → get_or (standings_of l) i 0 ≡ (get_or l i fresh).standing
standing_is l i = get_or-map (λ (v : Vm). v.standing) l i fresh

regroup : (r a b c d e f g h i k : Bool) → both r (both (both a (both b c)) (both (both d e) (both (both f g) (both (both h i) k)))) ≡ both r (both a (both b (both c (both d (both e (both f (both g (both h (both i k)))))))))
regroup r a b c d e f g h i k = simp both_assoc

-- where the queue's size is legal, that it has 16 places says nothing
queue_16 : (len room : ℕ) (x : Bool) → room ≤ 16 → both (leb len 16) (both (leb len room) x) ≡ both (leb len room) x
queue_16 len room x h =
    elim (dec_lt room len) [
      | yes l ↦ rw (lt-leb len room l) (both_no (leb len 16))
      | no l ↦ rw (le-leb len room (omega arith), le-leb len 16 (omega arith))
    ]

-- the tests of the code, in its order, are W1 to W13
module _ (g : Config) (clock : Clock) (running : ℕ) (queue : Queue) (vms : List Vm) (s : List ℕ) (rest queued begun placed ready runs known counted a : Bool) (duration owner : ℕ)
    (hs : s ≡ standings_of vms)
    (h1 : rest ≡ rest_fresh g.count vms)
    (h2 : queued ≡ both (leb queue.len 16) (both (leb queue.len g.room) (both (every (λ k. ready_in s (get_or queue.items k 0)) queue.len) (padded_of queue))))
    (h3 : begun ≡ both (either (has_ticked clock) (eqb running nobody)) (either (is_started clock) (both (none_in s) (both (eqb queue.len 0) (both (eqb running nobody) (not (has_ticked clock)))))))
    (hd : duration ≡ duration_at g clock.slot)
    (h4 : placed ≡ both (either (not (has_ticked clock)) (ltb clock.slot g.slots)) (either (not (has_ticked clock)) (within 1 duration clock.left)))
    (ho : owner ≡ owner_at g clock.slot)
    (hr : ready ≡ ready_in s running)
    (h5 : runs ≡ both (either (eqb running nobody) ready) (either (eqb running nobody) (either (eqb owner running) (is_spare owner))))
    (h6 : known ≡ both (leb clock.started 1) (both (leb clock.ticked 1) (every (λ j. leb (get_or s j 0) last_standing) 8)))
    (h7 : counted ≡ counted_of queue)
    (h : a ≡ both rest (both queued (both begun (both placed (both runs (both known counted))))))
  where
    joined_law : legal g ≡ true → a ≡ sound_from g clock running queue vms
    unfolding sound_from none_in
    joined_law l =
        let q : every (λ k. ready_in (standings_of vms) (get_or queue.items k 0)) queue.len ≡ every (λ k. ready_of vms (get_or queue.items k 0)) queue.len =
        every_same _ _ (λ k. sym (ready_is vms (get_or queue.items k 0))) queue.len in
        let n : every (λ k. not (ready_in (standings_of vms) k)) 8 ≡ every (λ k. not (ready_of vms k)) 8 = every_same _ _ (λ k. ap not (sym (ready_is vms k))) 8 in
        let m : every (λ j. leb (get_or (standings_of vms) j 0) last_standing) 8 ≡ every (λ k. standing_known (get_or vms k fresh)) 8 =
        every_same _ _ (λ k. ap (λ (x : ℕ). leb x last_standing) (standing_is vms k)) 8 in
        h ∙ rw (h1, h2 ∙ queue_16 queue.len g.room _ (legal_is g l).queue, h3, h4, h5, h6, h7, hr, hd, ho, hs, q, n, m, ← ready_is vms running, l)
        (regroup (rest_fresh g.count vms) (leb queue.len g.room) (every (λ k. ready_of vms (get_or queue.items k 0)) queue.len) (padded_of queue)
        (either (has_ticked clock) (eqb running nobody)) (either (is_started clock) (nothing_from clock running queue vms))
        (either (not (has_ticked clock)) (ltb clock.slot g.slots)) (either (not (has_ticked clock)) (within 1 (duration_at g clock.slot) clock.left))
        (either (eqb running nobody) (ready_of vms running)) (either (eqb running nobody) (either (eqb (owner_at g clock.slot) running) (is_spare (owner_at g clock.slot))))
        (both (both (leb clock.started 1) (both (leb clock.ticked 1) (every (λ k. standing_known (get_or vms k fresh)) 8))) (counted_of queue)))

    parts_law : (t : Bool) → t ≡ legal g → both a t ≡ sound_from g clock running queue vms
    unfolding sound_from
    parts_law true e = both_yes a ∙ joined_law (sym e)
    parts_law false e = both_no a ∙ rw (← e)

    pub parts_yes : (t : Bool) → a ≡ true → t ≡ legal g → t ≡ sound_from g clock running queue vms
    parts_yes t y e = rw y at (parts_law t e)

    pub parts_no : (x : Bool) → a ≡ false → x ≡ false → x ≡ sound_from g clock running queue vms
    parts_no x y z = z ∙ (rw y at (parts_law (legal g) refl))
