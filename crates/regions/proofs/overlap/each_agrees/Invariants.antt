-- The regions below `i` agree with all.
use Rattle.basis.specs.Choice.{either}
use Rattle.basis.specs.Count.{every}
use Rattle.regions.specs.Rules.{alike_all, holder_at, last_at, may_write, permission_at, start_at}
use mathlib.Core.Bool.{not, true}
use mathlib.Core.Path.{◌≡◌}
use Rattle.regions.proofs.overlap.each_agrees.Given as goal

abbrev pub invariant-loop-i : goal.invariant-loop-i
invariant-loop-i l = true ≡ every (λ j. either (not (may_write (permission_at l.r j))) (alike_all l.r.count l.r.holders l.r.starts l.r.lasts (holder_at l.r j) (start_at l.r j) (last_at l.r j))) l.i
