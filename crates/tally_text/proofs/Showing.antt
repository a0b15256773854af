-- What `put` leaves in the buffer: nothing, a refused image, or the figures.
use Prim.Native.Nat.{ℕ, ◌<◌, ◌≤◌}
use borrow.Author.Tests.{eq-eqb, le-ltb, lt-ltb, ne_eqb}
use lib.ListN.{length}
use mathlib.Core.List.{List}
use mathlib.Core.Path.{refl, ◌≡◌}
use Rattle.basis.specs.Buffer.{put_all}
use Rattle.basis.specs.Numbers.{Bytes}
use Rattle.config.proofs.Legality.{legal_is}
use Rattle.image_laws.proofs.Theorems.{read_legal, read_whole}
use Rattle.image_reader.specs.Reader.{read_image}
use Rattle.image_reader.specs.Reading.{Reading}
use Rattle.lines.specs.Text.{refused_text}
use Rattle.tally.specs.declared.Tally.{Tally}
use Rattle.tally_text.specs.Shown.{enough, shown_in, shown_text, tally_text}
use Rattle.text.specs.Puts.{Puts}

-- an accepted image has at most eight VMs
pub count_few : (image : List ℕ) {r : Reading} → Bytes image → r ≡ read_image image → r.fault ≡ 0 → r.config.count ≤ 8
count_few image {r} y k h =
    let e : (read_image image).fault ≡ 0 = rw (← k) h in
    let few : (read_image image).config.count ≤ 8 = (legal_is (read_image image).config (read_legal image (read_image image).config y (read_whole image e))).vms.1 in
    rw k few

-- a buffer that is too short stays
pub shown_none : {b : List ℕ} (image : List ℕ) (t : Tally) → length b < enough → Puts (shown_in (length b) image t) b 0 b 0
unfolding shown_in put_all
shown_none {b} image t h = rw (lt-ltb (length b) enough h) (record { bytes = refl; next = refl })

module _ {b m : List ℕ} {j : ℕ} (image : List ℕ) (t : Tally) (room : enough ≤ length b) {r : Reading} (k : r ≡ read_image image) where
  pub shown_refused : (r.fault ≡ 0 → ⊥) → Puts (refused_text r.fault r.offset) b 0 m j → Puts (shown_in (length b) image t) b 0 m j
  unfolding shown_in shown_text
  shown_refused h p = rw (le-ltb (length b) enough room, ← k, ne_eqb r.fault 0 h) p

  pub shown_figures : r.fault ≡ 0 → Puts (tally_text r.config.count t) b 0 m j → Puts (shown_in (length b) image t) b 0 m j
  unfolding shown_in shown_text
  shown_figures h p = rw (le-ltb (length b) enough room, ← k, eq-eqb r.fault 0 h) p
