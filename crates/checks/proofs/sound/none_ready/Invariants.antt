-- The standings below `k` are tested.
use Prim.Native.Nat.{◌-◌, ◌≤◌}
use lib.Dec.{eqb}
use mathlib.Core.Bool.{not}
use mathlib.Core.Path.{◌≡◌}
use Rattle.basis.specs.Count.{every}
use Rattle.checks.specs.Standings.{ready_in}
use Rattle.checks.proofs.sound.none_ready.Given as goal

abbrev pub invariant-loop-k : goal.invariant-loop-k
invariant-loop-k l = (l.k ≤ 8) × (eqb l.bits 0 ≡ every (λ j. not (ready_in l.standings j)) l.k)

abbrev pub decreases-loop-k : goal.decreases-loop-k
decreases-loop-k l = 8 - l.k
