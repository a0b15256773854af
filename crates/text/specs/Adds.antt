-- What a method that puts text on a page does.
use Rattle.std.specs.Prelude.{ℕ, ◌+◌, ◌≤◌, length, List, ◌≡◌}
use Rattle.text.specs.Puts.{Puts}
use Rattle.text.specs.declared.page.Page.{Page}

-- n more bytes fit on the page
abbrev pub Room : ℕ → Page → Type 0
Room n p = p.used + n ≤ length p.bytes.now

-- the page q is p with vs, at most n bytes, behind what was used; it is over the same buffer, which keeps its length
pub record Adds (vs : List ℕ) (n : ℕ) (p q : Page) : Type 0 where
  pub puts : Puts vs p.bytes.now p.used q.bytes.now q.used
  pub within : q.used ≤ p.used + n
  pub keeps : length q.bytes.now ≡ length p.bytes.now
  pub same : q.bytes.ghost_name ≡ p.bytes.ghost_name
