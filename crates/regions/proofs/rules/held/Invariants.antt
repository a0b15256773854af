-- The regions below `k` are counted.
use Prim.Native.Nat.{◌≤◌}
use Rattle.regions.specs.Rules.{held}
use mathlib.Core.Path.{◌≡◌}
use Rattle.regions.proofs.rules.held.Given as goal

abbrev pub invariant-loop-k : goal.invariant-loop-k
invariant-loop-k l = (l.m ≡ held l.numbers l.v l.k) × (l.m ≤ l.k)
