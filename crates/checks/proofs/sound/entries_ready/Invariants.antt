-- The entries below `k` are tested.
use Prim.Native.Nat.{◌-◌, ◌≤◌}
use lib.ListN.{get_or}
use mathlib.Core.Path.{◌≡◌}
use Rattle.basis.specs.Count.{every}
use Rattle.checks.specs.Standings.{ready_in}
use Rattle.checks.proofs.sound.entries_ready.Given as goal

abbrev pub invariant-loop-k : goal.invariant-loop-k
invariant-loop-k l = (l.k ≤ l.n) × (l.ok ≡ every (λ j. ready_in l.standings (get_or l.items j 0)) l.k)

abbrev pub decreases-loop-k : goal.decreases-loop-k
decreases-loop-k l = l.n - l.k
