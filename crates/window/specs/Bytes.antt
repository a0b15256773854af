-- The bytes of a memory, and some of them copied (D36).
use Rattle.std.specs.Prelude.{ℕ, ◌+◌, drop, take, List, ◌++◌}

-- the first n of s stand from place `to` on; every other byte stays
abbrev pub put : ℕ → ℕ → List ℕ → List ℕ → List ℕ
put to n s m = take to m ++ take n s ++ drop (to + n) m

-- D36: n bytes from place `from`, as they stand, go to place `to`; every other byte stays
unfoldable pub copied : ℕ → ℕ → ℕ → List ℕ → List ℕ
copied from to n m = put to n (drop from m) m
