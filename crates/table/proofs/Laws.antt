-- The test of the code for a slot after this one.
use Prim.Native.Nat.{ℕ, ◌+◌, ◌<◌, ◌≤◌}
use borrow.Author.Tests.{le-ltb, lt-ltb}
use lib.Dec.{ltb}
use mathlib.Core.Bool.{false, true}
use mathlib.Core.Path.{◌≡◌}
use native.Mathlib.Omega.{arith}

pub next_slot : (i n a b : ℕ) → (a ≡ i) × (a < 256) → (b ≡ n) × (b < 256) → a + 1 < b → ltb (i + 1) n ≡ true
next_slot i n a b e f h = lt-ltb (i + 1) n (omega arith)

pub first_slot : (i n a b : ℕ) → (a ≡ i) × (a < 256) → (b ≡ n) × (b < 256) → b ≤ a + 1 → ltb (i + 1) n ≡ false
first_slot i n a b e f h = le-ltb (i + 1) n (omega arith)
