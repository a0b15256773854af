-- Each VM below `v` has a slot.
use Rattle.std.proofs.Common.{◌≡◌, ◌-◌, ◌≤◌, true, eqb, get_or}
use Rattle.basis.specs.Count.{every, some}
use Rattle.config.proofs.places.each_served.Given as goal

abbrev pub invariant-loop-v : goal.invariant-loop-v
invariant-loop-v l = (l.v ≤ l.count) × (true ≡ every (λ w. some (λ k. eqb (get_or l.owners k 0) w) l.slots) l.v)

abbrev pub decreases-loop-v : goal.decreases-loop-v
decreases-loop-v l = l.count - l.v
