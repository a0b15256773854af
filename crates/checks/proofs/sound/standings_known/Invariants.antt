-- The standings below `k` are tested.
use Prim.Native.Nat.{◌-◌, ◌≤◌}
use lib.Dec.{eqb, leb}
use lib.ListN.{get_or}
use mathlib.Core.Path.{◌≡◌}
use Rattle.basis.specs.Count.{every}
use Rattle.guest.specs.Record.{last_standing}
use Rattle.checks.proofs.sound.standings_known.Given as goal

abbrev pub invariant-loop-k : goal.invariant-loop-k
invariant-loop-k l = (l.k ≤ 8) × (eqb l.bits 0 ≡ every (λ j. leb (get_or l.standings j 0) last_standing) l.k)

abbrev pub decreases-loop-k : goal.decreases-loop-k
decreases-loop-k l = 8 - l.k
