-- Booleans as numbers, and counts over a history.
use Prim.Native.Nat.{suc, ℕ, ◌+◌}
use mathlib.Core.Bool.{Bool, false, true}
use mathlib.Core.List.{List, [], ◌∷◌}
use mathlib.Core.Path.{refl, ◌≡◌}
use native.Mathlib.Omega.{arith}
use Rattle.basis.specs.Choice.{pick}
use Rattle.history.specs.History.{Moment, times}

-- a test as a number
abbrev pub num : Bool → ℕ
num b = pick b 1 0

pub times_cons : (p : Moment → Bool) (m : Moment) (ms : List Moment) → times p (m ∷ ms) ≡ num (p m) + times p ms
unfolding times
times_cons p m ms = go (p m)
  where
    go : (b : Bool) → pick b (suc (times p ms)) (times p ms) ≡ num b + times p ms
    go true = omega arith
    go false = omega arith

pub times_nil : (p : Moment → Bool) → times p [] ≡ 0
unfolding times
times_nil p = refl
