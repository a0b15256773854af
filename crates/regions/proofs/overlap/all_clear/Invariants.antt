-- The regions below `i` are clear of those before them.
use Prim.Native.Nat.{◌*◌, ◌+◌, ◌/◌}
use Rattle.basis.specs.Count.{every}
use Rattle.regions.specs.Beside.{clear}
use Rattle.regions.specs.Rules.{last_at, start_at}
use mathlib.Core.Path.{◌≡◌}
use Rattle.regions.proofs.overlap.all_clear.Given as goal

abbrev pub invariant-loop-i : goal.invariant-loop-i
invariant-loop-i l = l.ok ≡ every (λ k. every (λ j. clear (start_at l.r k) (last_at l.r k) (start_at l.r j) (last_at l.r j)) ((k / 8 + 1) * 8)) l.i
