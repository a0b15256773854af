-- A buffer into which bytes were put.
use Rattle.std.specs.Prelude.{ℕ, ◌+◌, set, List, [], ◌∷◌}

-- l with vs stored from place i on; every other byte is as it was
unfoldable pub put_all : List ℕ → ℕ → List ℕ → List ℕ
put_all l i [] = l
put_all l i (v ∷ vs) = put_all (set l i v) (i + 1) vs
