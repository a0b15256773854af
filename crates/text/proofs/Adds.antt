-- Laws of text put on a page.
use Prim.Native.Nat.{ℕ, ◌+◌, ◌≤◌}
use lib.ListN.{length}
use mathlib.Core.List.{List, ◌++◌}
use mathlib.Core.Path.{◌∙◌, ◌≡◌}
use native.Mathlib.Omega.{arith}
use Rattle.text.proofs.Puts.{puts_length, puts_one, puts_then}
use Rattle.text.specs.Adds.{Adds}
use Rattle.text.specs.Puts.{Puts}
use Rattle.text.specs.declared.page.Page.{Page}

-- one text behind the other is one text
pub adds_then : {xs ys : List ℕ} {m n : ℕ} {p q r : Page} → Adds xs m p q → Adds ys n q r → Adds (xs ++ ys) (m + n) p r
adds_then a b = record {
  puts = puts_then a.puts b.puts;
  within = omega (arith, a.within, b.within);
  keeps = b.keeps ∙ a.keeps;
  same = b.same ∙ a.same;
}

-- a text that was put into the page's buffer
pub adds : {vs : List ℕ} (n : ℕ) (p q : Page) → Puts vs p.bytes.now p.used q.bytes.now q.used → length vs ≤ n → q.bytes.ghost_name ≡ p.bytes.ghost_name → Adds vs n p q
adds n p q h k e = record { puts = h; within = omega (arith, h.next, k); keeps = puts_length h; same = e }

pub adds_most : {vs : List ℕ} {m n : ℕ} {p q : Page} → Adds vs m p q → m ≤ n → Adds vs n p q
adds_most a h = record { puts = a.puts; within = omega (arith, a.within, h); keeps = a.keeps; same = a.same }

-- no second content of the buffer and no second number of bytes used meet what is said
pub adds_one : {vs : List ℕ} {n : ℕ} {p q q' : Page} → Adds vs n p q → Adds vs n p q' → (q.bytes.now ≡ q'.bytes.now) × (q.used ≡ q'.used)
adds_one a b = puts_one a.puts b.puts

-- the buffer that a page lent is at the end what the page was
pub puts_as : {vs l m m' : List ℕ} {i j : ℕ} → Puts vs l i m j → m' ≡ m → Puts vs l i m' j
puts_as p e = rw e p
