-- The text of a filling, and then the text from the place that it reached, is the text from the place where it began.
use Prim.Native.Nat.{suc, zero, ℕ, ◌+◌, ◌-◌, ◌≤◌}
use lib.Dec.{ltb}
use lib.ListN.{length, take}
use mathlib.Core.Bool.{Bool}
use mathlib.Core.List.{List, append_assoc, append-nil, ◌++◌}
use mathlib.Core.Path.{ap, refl, sym, ◌∙◌, ◌≡◌}
use Rattle.basis.proofs.Buffer.{put_all_length}
use Rattle.basis.proofs.Laws.{pick_case}
use Rattle.basis.specs.Buffer.{put_all}
use Rattle.text.proofs.Puts.{take_put_all}
use native.Mathlib.Omega.{arith}
use Rattle.replay.specs.declared.Turn.{Turn}
use Rattle.rig_core.specs.declared.Core.{Core}
use Rattle.events.specs.Reader.{read_at}
use Rattle.events.specs.declared.Next.TheVariants.{End, Refuse, Take}
use Rattle.events.specs.declared.Next.{Next}
use Rattle.lines.specs.Text.{cut_text, refused_text}
use Rattle.lines.specs.Words.{long_line}
use Rattle.replay.specs.Piece.{Filled, Piece, enough, goes_on, piece_at, piece_by, pieces_by, stage_piece}
use Rattle.replay.specs.Run.{Stepping, log_text, text_by, text_from}
use Rattle.replay.specs.declared.Place.{Place}
use Rattle.replay.specs.declared.Stage.TheVariants.{Ended, Long, Refused, Running}
use Rattle.replay.specs.declared.Stage.{Stage}
use Rattle.replay_laws.proofs.Lines.{log_cut, log_end, log_take}
use Rattle.replay_laws.specs.Fillings.{fillings}
use Rattle.state_lines.specs.State.{event_text}

module _ (f : Stepping) (states : Bool) (s : List ℕ) where
  abbrev Split : List ℕ → Piece → Type 0
  Split whole x = x.text ++ text_from f states s x.place ≡ whole

  pieces_split : (k : ℕ) (c : Core) (at n left : ℕ) → Split (log_text f states s c at n) (pieces_by f states s k c at n left)
  unfolding pieces_by piece_at text_by
  pieces_split zero c at n left = refl
  pieces_split (suc k) c at n left =
      pick_case (Split (log_text f states s c at n)) (goes_on n left) _ _ (λ t. go (λ d to rest. pieces_split k d to (n + 1) rest) (read_at s at) refl) (λ t. refl)
    where
      go : ((d : Core) (to rest : ℕ) → Split (log_text f states s d to (n + 1)) (pieces_by f states s k d to (n + 1) rest))
          → (r : Next) → read_at s at ≡ r → Split (log_text f states s c at n) (piece_at f states c at n left r (λ d to rest. pieces_by f states s k d to (n + 1) rest))
      go more (Take e to) q =
          let v = event_text states n (f c e) in
          let x = pieces_by f states s k (f c e).core to (n + 1) (left - length v) in
          append_assoc v x.text (text_from f states s x.place)
          ∙ ap (λ (t : List ℕ). v ++ t) (more (f c e).core to (left - length v))
          ∙ sym (log_take f states s c at n to e (f c e) q refl)
      go more End q = sym (log_end f states s c at n q)
      go more (Refuse r o) q = append-nil (cut_text n) ∙ sym (log_cut f states s c at n r o q)

  -- one filling
  pub piece_split : (size : ℕ) (p : Place) → (piece_by f states s size p).text ++ text_from f states s (piece_by f states s size p).place ≡ text_from f states s p
  unfolding piece_by stage_piece text_by
  piece_split size p = pick_case (Split (text_from f states s p)) (ltb size enough) _ _ (λ t. refl) (λ t. go p.stage)
    where
      go : (g : Stage) → Split (text_by f states s p.core p.at p.number g) (stage_piece f states s size p.core p.at p.number g)
      go (Refused fault offset) = append-nil (refused_text fault offset)
      go Long = append-nil long_line
      go Running = pieces_split (suc (length s)) p.core p.at p.number size
      go Ended = refl

  -- any number of them
  pub fillings_split : (size k : ℕ) (p : Place) → (fillings f states s size k p).text ++ text_from f states s (fillings f states s size k p).place ≡ text_from f states s p
  unfolding fillings
  fillings_split size zero p = refl
  fillings_split size (suc k) p =
      let x = piece_by f states s size p in
      let y = fillings f states s size k x.place in
      append_assoc x.text y.text (text_from f states s y.place)
      ∙ ap (λ (t : List ℕ). x.text ++ t) (fillings_split size k x.place)
      ∙ piece_split size p

-- what the code put: the piece's text stands at the buffer's front, as far as the answer says
pub filled_front : (g : Piece) (b m : List ℕ) (t : Turn) → Filled g b m t → take t.used m ≡ g.text
filled_front g b m t h =
    let w : length g.text ≤ length b = rw (h.turn, h.buffer, put_all_length b 0 g.text) at h.within in
    let e : length g.text ≡ 0 + length g.text = omega arith in
    rw (h.turn, h.buffer) (ap (λ (k : ℕ). take k (put_all b 0 g.text)) e ∙ take_put_all b 0 g.text (omega arith))
