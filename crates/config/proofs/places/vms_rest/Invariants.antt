-- The loop has joined the places below `k` that are past the count.
use Rattle.std.proofs.Common.{◌≡◌, ◌-◌, ◌≤◌, eqb, get_or}
use Rattle.basis.specs.Bounds.{empty_past}
use Rattle.basis.specs.Count.{every}
use Rattle.config.proofs.places.vms_rest.Given as goal

abbrev pub invariant-loop-k : goal.invariant-loop-k
invariant-loop-k l = (l.k ≤ 8) × (eqb l.bits 0 ≡ every (λ j. empty_past l.count j (get_or l.entries j 0) (get_or l.handlers j 0)) l.k)

abbrev pub decreases-loop-k : goal.decreases-loop-k
decreases-loop-k l = 8 - l.k
