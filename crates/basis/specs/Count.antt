-- Tests, changes and lists over the numbers below n.
use Rattle.std.specs.Prelude.{ℕ, zero, suc, Bool, true, false, List, [], ◌++◌}
use Rattle.basis.specs.Choice.{both, either, pick}

-- p holds of each number below n
unfoldable pub every : (ℕ → Bool) → ℕ → Bool
every p zero = true
every p (suc n) = both (p n) (every p n)

-- p holds of some number below n
unfoldable pub some : (ℕ → Bool) → ℕ → Bool
some p zero = false
some p (suc n) = either (p n) (some p n)

-- how many numbers below n there are of which p holds
unfoldable pub how_many : (ℕ → Bool) → ℕ → ℕ
how_many p zero = zero
how_many p (suc n) = pick (p n) (suc (how_many p n)) (how_many p n)

-- a after f 0, f 1, .. f (n - 1), in this order
unfoldable pub up_to : {A : Type 0} → (ℕ → A → A) → A → ℕ → A
up_to f a zero = a
up_to f a (suc n) = f n (up_to f a n)

-- f 0, f 1, .. f (n - 1), one behind the other
unfoldable pub joined : (ℕ → List ℕ) → ℕ → List ℕ
joined f zero = []
joined f (suc n) = joined f n ++ f n
