-- The regions below `k` are tested.
use Rattle.regions.specs.Rules.{alike_all}
use mathlib.Core.Path.{◌≡◌}
use Rattle.regions.proofs.overlap.alike_all.Given as goal

abbrev pub invariant-loop-k : goal.invariant-loop-k
invariant-loop-k l = l.ok ≡ alike_all l.k l.r.holders l.r.starts l.r.lasts l.region.holder l.region.start l.region.last
