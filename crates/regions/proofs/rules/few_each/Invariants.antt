-- The VMs below `v` are tested.
use Rattle.basis.specs.Count.{every}
use Rattle.regions.specs.Rules.{held}
use lib.Dec.{leb}
use mathlib.Core.Path.{◌≡◌}
use Rattle.regions.proofs.rules.few_each.Given as goal

abbrev pub invariant-loop-v : goal.invariant-loop-v
invariant-loop-v l = l.ok ≡ every (λ v. leb (held l.r.holders v l.r.count) 8) l.v
