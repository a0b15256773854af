-- Laws of the parts of a line and of a state, as the code puts them.
use Prim.Native.Nat.{ℕ, ◌*◌, ◌+◌}
use borrow.Author.Tests.{eq-eqb, ne_eqb}
use mathlib.Core.List.{List, []}
use mathlib.Core.Path.{refl, ◌≡◌}
use native.Mathlib.Nat.{suc-mul}
use native.Mathlib.Numerals.{add-one}
use native.Mathlib.Omega.{arith}
use Rattle.basis.specs.Buffer.{put_all}
use Rattle.basis.specs.Count.{joined}
use Rattle.basis.specs.Nobody.{nobody}
use Rattle.lines.specs.Text.{where_text}
use Rattle.lines.specs.Words.{address, choice, dash, number}
use Rattle.text.proofs.Adds.{adds_most, adds_then}
use Rattle.text.specs.Adds.{Adds}
use Rattle.text.specs.Puts.{Puts}
use Rattle.text.specs.declared.page.Page.{Page}

module _ {p q : Page} where
  -- one or the other
  pub choice_none : (v after : ℕ) → v ≡ nobody → Adds (dash after) 2 p q → Adds (choice v after) 11 p q
  unfolding choice
  choice_none v after e a = rw (eq-eqb v nobody e) (adds_most a (omega arith))

  -- N4: a pseudo-interrupt 0 is a number
  pub choice_some : (v after : ℕ) → (v ≡ nobody → ⊥) → Adds (number v after) 11 p q → Adds (choice v after) 11 p q
  unfolding choice
  choice_some v after e a = rw (ne_eqb v nobody e) a

  pub where_none : (v at : ℕ) → v ≡ nobody → Adds (dash 32) 2 p q → Adds (where_text v at) 9 p q
  unfolding where_text
  where_none v at e a = rw (eq-eqb v nobody e) (adds_most a (omega arith))

  pub where_some : (v at : ℕ) → (v ≡ nobody → ⊥) → Adds (address at 32) 9 p q → Adds (where_text v at) 9 p q
  unfolding where_text
  where_some v at e a = rw (ne_eqb v nobody e) a

-- nothing is put
pub puts_none : (l : List ℕ) (i : ℕ) → Puts [] l i l i
unfolding put_all
puts_none l i = record { bytes = refl; next = omega arith }

pub adds_none : (n : ℕ) (p : Page) → Adds [] n p p
adds_none n p = record { puts = puts_none p.bytes.now p.used; within = omega arith; keeps = refl; same = refl }

-- a loop that puts the texts f 0, f 1, .. one behind the other, each of at most w bytes
module _ (f : ℕ → List ℕ) (w : ℕ) where
  pub joined_none : (p : Page) → Adds (joined f 0) (0 * w) p p
  unfolding joined
  joined_none p = adds_none (0 * w) p

  pub joined_more : {p q r : Page} {k : ℕ} → Adds (joined f k) (k * w) p q → Adds (f k) w q r → Adds (joined f (k + 1)) ((k + 1) * w) p r
  unfolding joined
  joined_more {p} {q} {r} {k} a b = rw (add-one k, suc-mul k w) (adds_then a b)
