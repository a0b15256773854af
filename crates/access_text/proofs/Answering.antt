-- From what was tested to the answer of the rules, and what `put` leaves in the buffer (N22 to N25).
use Prim.Native.Nat.{ℕ, ◌%◌, ◌+◌, ◌/◌, ◌<◌, ◌≤◌}
use borrow.Author.Tests.{eq-eqb, le-ltb, lt-ltb, ltb-true, ne_eqb}
use lib.Dec.{leb, ltb}
use lib.ListN.{length}
use mathlib.Core.Bool.{Bool, false, true}
use mathlib.Core.List.{List, ◌++◌}
use mathlib.Core.Path.{refl, sym, ◌∙◌, ◌≡◌}
use native.Mathlib.Omega.{arith}
use Rattle.access_text.specs.Queries.{access_text, answers_text, enough, longest, rest_text, shown_in}
use Rattle.basis.proofs.Laws.{both_left, both_right, false_true}
use Rattle.basis.specs.Bounds.{within}
use Rattle.basis.specs.Buffer.{put_all}
use Rattle.basis.specs.Choice.{both}
use Rattle.config.proofs.Query.{access_known}
use Rattle.config.specs.Sizes.{access, legal}
use Rattle.config.specs.declared.Config.{Config}
use Rattle.image_reader.specs.Reader.{read_image}
use Rattle.image_reader.specs.Reading.{Reading}
use Rattle.lines.proofs.Texts.{adds_none}
use Rattle.lines.specs.Text.{cut_text, refused_text}
use Rattle.lines.specs.Words.{long_line}
use Rattle.grants.specs.Access.{allowed}
use Rattle.text.proofs.Adds.{adds_most}
use Rattle.text.specs.Adds.{Adds}
use Rattle.text.specs.Puts.{Puts}
use Rattle.text.specs.declared.page.Page.{Page}

-- H10: what is asked first
module _ (g : Config) (v address size way : ℕ) (t k m b : Bool) (ht : t ≡ legal g) (hk : k ≡ within 1 3 way) (hm : m ≡ both (ltb v g.count) k) (hb : b ≡ both t m) where
  pub answer_asked : (r : Bool) → b ≡ true → r ≡ both (leb g.regions.count 64) (allowed g.regions v address size way) → r ≡ access g v address size way
  answer_asked r e f =
      let all = sym hb ∙ e in
      let rest = sym hm ∙ both_right t m all in
      access_known g v address size way k t r (ltb-true v g.count (both_left (ltb v g.count) k rest)) hk (both_right (ltb v g.count) k rest) ht (both_left t m all) f

  pub answer_no : b ≡ false → false ≡ access g v address size way
  unfolding access
  answer_no e =
      sym (go (legal g) (ltb v g.count) (within 1 3 way) (rw (ht, hm, hk) at (sym hb ∙ e)))
    where
      go : (x y z : Bool) → both x (both y z) ≡ false → both x (both y (both z (allowed g.regions v address size way))) ≡ false
      go true true true e = false_true (sym e)
      go true true false e = refl
      go true false z e = refl
      go false y z e = refl

-- N24: no bytes behind the last whole record, or some
pub rest_none : (p : Page) (size : ℕ) → size % 10 ≡ 0 → Adds (rest_text size) 64 p p
unfolding rest_text
rest_none p size e = rw (eq-eqb (size % 10) 0 e) (adds_none 64 p)

pub rest_cut : {p q : Page} (size : ℕ) → (size % 10 ≡ 0 → ⊥) → Adds (cut_text (size / 10 + 1)) 15 p q → Adds (rest_text size) 64 p q
unfolding rest_text
rest_cut size h a = rw (ne_eqb (size % 10) 0 h) (adds_most a (omega arith))

-- a buffer that is too short stays
pub shown_none : {b : List ℕ} (image queries : List ℕ) → length b < enough → Puts (shown_in (length b) image queries) b 0 b 0
unfolding shown_in put_all
shown_none {b} image queries h = rw (lt-ltb (length b) enough h) (record { bytes = refl; next = refl })

module _ {b m : List ℕ} {j : ℕ} (image queries : List ℕ) (room : enough ≤ length b) {r : Reading} (k : r ≡ read_image image) where
  pub shown_refused : (r.fault ≡ 0 → ⊥) → Puts (refused_text r.fault r.offset) b 0 m j → Puts (shown_in (length b) image queries) b 0 m j
  unfolding shown_in access_text
  shown_refused h p = rw (le-ltb (length b) enough room, ← k, ne_eqb r.fault 0 h) p

  pub shown_long : r.fault ≡ 0 → longest < length queries → Puts long_line b 0 m j → Puts (shown_in (length b) image queries) b 0 m j
  unfolding shown_in access_text
  shown_long h l p = rw (le-ltb (length b) enough room, ← k, eq-eqb r.fault 0 h, lt-ltb longest (length queries) l) p

  pub shown_answers : r.fault ≡ 0 → length queries ≤ longest → Puts (answers_text r.config queries (length queries / 10) ++ rest_text (length queries)) b 0 m j
      → Puts (shown_in (length b) image queries) b 0 m j
  unfolding shown_in access_text
  shown_answers h l p = rw (le-ltb (length b) enough room, ← k, eq-eqb r.fault 0 h, le-ltb longest (length queries) l) p
