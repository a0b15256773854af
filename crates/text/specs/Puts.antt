-- What a function that puts text into a buffer does.
use Rattle.std.specs.Prelude.{ℕ, ◌+◌, length, List, ◌≡◌}
use Rattle.basis.specs.Buffer.{put_all}

-- m is l with vs stored from place i on, and j is the place behind vs
pub record Puts (vs l : List ℕ) (i : ℕ) (m : List ℕ) (j : ℕ) : Type 0 where
  pub bytes : m ≡ put_all l i vs
  pub next : j ≡ i + length vs
