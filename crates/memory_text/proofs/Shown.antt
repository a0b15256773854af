-- What `put` leaves in the buffer: the window, or nothing (N28).
use Prim.Native.Nat.{ℕ, ◌<◌, ◌≤◌}
use borrow.Author.Tests.{eq-eqb, le-leb, le-ltb, lt-leb, lt-ltb, ne_eqb}
use lib.ListN.{length}
use mathlib.Core.List.{List}
use mathlib.Core.Path.{◌≡◌}
use Rattle.rig_core.specs.State.{fresh_core}
use Rattle.events.specs.Log.{events_from, longest}
use Rattle.image_reader.specs.Reader.{read_image}
use Rattle.image_reader.specs.Reading.{Reading}
use Rattle.lines.proofs.Texts.{puts_none}
use Rattle.memory_text.specs.Memory.{enough, is_run, memory_by, shown_in, window_after, window_part, window_text, window_with}
use Rattle.text.specs.Puts.{Puts}

-- a buffer that is too short stays
pub shown_short : (b image log memory : List ℕ) → length b < enough → Puts (shown_in (length b) image log memory) b 0 b 0
unfolding shown_in
shown_short b image log memory h = rw (lt-ltb (length b) enough h) (puts_none b 0)

module _ (b image log memory : List ℕ) (room : enough ≤ length b) (r : Reading) (k : r ≡ read_image image) where
  -- no run, and so no window
  pub shown_refused : (r.fault ≡ 0 → ⊥) → Puts (shown_in (length b) image log memory) b 0 b 0
  unfolding shown_in window_part is_run
  shown_refused h = rw (le-ltb (length b) enough room, ← k, ne_eqb r.fault 0 h) (puts_none b 0)

  pub shown_long : r.fault ≡ 0 → longest < length log → Puts (shown_in (length b) image log memory) b 0 b 0
  unfolding shown_in window_part is_run
  shown_long h l = rw (le-ltb (length b) enough room, ← k, eq-eqb r.fault 0 h, lt-leb (length log) longest l) (puts_none b 0)

  -- the window that the run left
  pub shown_window : (x m n : List ℕ) (j : ℕ) → r.fault ≡ 0 → length log ≤ longest → x ≡ window_with memory → m ≡ memory_by (fresh_core r.config) (events_from log 0) x
      → Puts (window_text m) b 0 n j → Puts (shown_in (length b) image log memory) b 0 n j
  unfolding shown_in window_part is_run window_after
  shown_window x m n j h l e f p = rw (le-ltb (length b) enough room, ← k, eq-eqb r.fault 0 h, le-leb (length log) longest l, ← e, ← f) p
