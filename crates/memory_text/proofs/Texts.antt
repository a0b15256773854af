-- The rows of a window, as the code puts them (N27).
use Prim.Native.Nat.{ℕ, ◌*◌, ◌+◌, ◌-◌, ◌<◌}
use borrow.Author.Tests.{eq-eqb, ne_eqb}
use lib.Dec.{eqb}
use lib.ListN.{drop, get_or, take}
use mathlib.Core.Bool.{Bool, false, true}
use mathlib.Core.List.{List}
use mathlib.Core.Path.{ap, refl, sym, ◌∙◌, ◌≡◌}
use native.Mathlib.Omega.{arith}
use Rattle.basis.proofs.Laws.{every_end, every_is, every_more, every_none, false_true, same_test}
use Rattle.basis.specs.Choice.{both}
use Rattle.basis.specs.Count.{every}
use Rattle.lines.proofs.Texts.{adds_none}
use Rattle.memory_text.specs.Memory.{is_blank, row_line, row_of, row_text}
use Rattle.text.specs.Adds.{Adds}
use Rattle.text.specs.declared.page.Page.{Page}

-- the first n bytes of a row are zero
abbrev pub blank_to : List ℕ → ℕ → Bool
blank_to row n = every (λ i. eqb (get_or row i 0) 0) n

pub blank_none : (row : List ℕ) → true ≡ blank_to row 0
blank_none row = every_none (λ i. eqb (get_or row i 0) 0) true refl

pub blank_more : (row : List ℕ) (n : ℕ) → true ≡ blank_to row n → get_or row n 0 ≡ 0 → true ≡ blank_to row (n + 1)
blank_more row n e h = every_more (λ i. eqb (get_or row i 0) 0) n true true e (sym (ap (λ b. both b true) (eq-eqb (get_or row n 0) 0 h)))

pub blank_end : (row : List ℕ) (n : ℕ) → true ≡ blank_to row n → n ≡ 32 → true ≡ is_blank row
unfolding is_blank
blank_end row n e h = every_end (λ i. eqb (get_or row i 0) 0) n 32 true e h

-- one byte that is not zero
pub blank_not : (row : List ℕ) (n : ℕ) → n < 32 → (get_or row n 0 ≡ 0 → ⊥) → false ≡ is_blank row
unfolding is_blank
blank_not row n h f =
    same_test false (is_blank row) (λ e. false_true e) (λ e. sym (ne_eqb (get_or row n 0) 0 f) ∙ every_is (λ i. eqb (get_or row i 0) 0) 32 e n h)

-- the slice that the code takes is the row
row_is : (m : List ℕ) (k : ℕ) → take (32 * k + 32 - 32 * k) (drop (32 * k) m) ≡ row_of m k
row_is m k = let e : 32 * k + 32 - 32 * k ≡ 32 = omega arith in ap (λ (n : ℕ). take n (drop (32 * k) m)) e

module _ {p q : Page} (m : List ℕ) (k : ℕ) (x : Bool) (h : x ≡ is_blank (take (32 * k + 32 - 32 * k) (drop (32 * k) m))) where
  pub row_shown : x ≡ false → Adds (row_line (1073741824 + 32 * k) (take (32 * k + 32 - 32 * k) (drop (32 * k) m))) 81 p q → Adds (row_text m k) 81 p q
  unfolding row_text
  row_shown e a = rw (← row_is m k, ← h, e) a

module _ (m : List ℕ) (k : ℕ) (x : Bool) (h : x ≡ is_blank (take (32 * k + 32 - 32 * k) (drop (32 * k) m))) where
  pub row_none : {p : Page} → x ≡ true → Adds (row_text m k) 81 p p
  unfolding row_text
  row_none {p} e = rw (← row_is m k, ← h, e) (adds_none 81 p)
