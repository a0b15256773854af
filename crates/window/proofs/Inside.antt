-- Bytes in the window, and the bounds of an extent that fits.
use Prim.Native.Nat.{ℕ, ◌+◌, ◌-◌, ◌<◌, ◌≤◌}
use borrow.Author.Tests.{le-leb, leb-true, lt-leb, ne_eqb}
use lib.Dec.{eqb, leb}
use mathlib.Core.Bool.{Bool, false, true}
use mathlib.Core.Logic.{◌≢◌}
use mathlib.Core.Path.{sym, ◌≡◌}
use native.Mathlib.Decide.{dec_le}
use native.Mathlib.Omega.{arith}
use Rattle.basis.proofs.Laws.{both_left, both_right, false_true}
use Rattle.basis.specs.Choice.{either}
use Rattle.window.specs.Pieces.{fits, inside}
use Rattle.window.specs.declared.Extent.{Extent}
use Rattle.window.specs.declared.Window.{Window}

module _ (w : Window) (a n : ℕ) where
  -- the ways of the code: below the base, past the end, and else by what is left of the window
  pub inside_low : a < w.base → false ≡ inside w a n
  unfolding inside
  inside_low h = rw (lt-leb w.base a h)

  pub inside_far : w.base ≤ a → w.size < a - w.base → leb (a - w.base) w.size ≡ inside w a n
  unfolding inside
  inside_far h g = rw (lt-leb (a - w.base) w.size g, le-leb w.base a h, lt-leb (a + n) (w.base + w.size) (omega arith))

  pub inside_is : w.base ≤ a → a - w.base ≤ w.size → leb n (w.size - (a - w.base)) ≡ inside w a n
  unfolding inside
  inside_is h g =
      rw (le-leb w.base a h)
      (elim (dec_le n (w.size - (a - w.base))) [
        | yes i ↦ rw (le-leb n (w.size - (a - w.base)) i, le-leb (a + n) (w.base + w.size) (omega arith))
        | no i ↦ rw (lt-leb n (w.size - (a - w.base)) (omega arith), lt-leb (a + n) (w.base + w.size) (omega arith))
      ])

  -- D32 as facts
  pub inside_bounds : inside w a n ≡ true → (w.base ≤ a) × (a + n ≤ w.base + w.size)
  unfolding inside
  inside_bounds e =
      (leb-true w.base a (both_left (leb w.base a) _ e), leb-true (a + n) (w.base + w.size) (both_right (leb w.base a) _ e))

-- where an extent that fits lies, if it has bytes
pub record Bounds (w : Window) (x : Extent) : Type 0 where
  pub few : x.length ≤ 256
  pub from : w.base ≤ x.source
  pub from_end : x.source + x.length ≤ w.base + w.size
  pub to : w.base ≤ x.destination
  pub to_end : x.destination + x.length ≤ w.base + w.size

pub fits_bounds : (w : Window) (x : Extent) → fits w x ≡ true → x.length ≢ 0 → Bounds w x
unfolding fits
fits_bounds w x e h =
    let f = both_part (eqb x.length 0) (ne_eqb x.length 0 h) e in
    let g = both_right (leb x.length 256) _ f in
    let s = inside_bounds w x.source x.length (both_left (inside w x.source x.length) _ g) in
    let d = inside_bounds w x.destination x.length (both_right (inside w x.source x.length) _ g) in
    record { few = leb-true x.length 256 (both_left (leb x.length 256) _ f); from = s.0; from_end = s.1; to = d.0; to_end = d.1 }
  where
    both_part : {c : Bool} (b : Bool) → b ≡ false → either b c ≡ true → c ≡ true
    both_part true i j = false_true (sym i)
    both_part false i j = j
