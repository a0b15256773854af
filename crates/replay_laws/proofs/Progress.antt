-- Each filling of a buffer that is long enough takes a record or comes to the end, so that no more of them are needed than the log has bytes, and one.
use Prim.Native.Nat.{suc, zero, ℕ, ◌+◌, ◌-◌, ◌<◌, ◌≤◌}
use borrow.Author.Tests.{le-leb, le-ltb, lt-ltb}
use lib.Dec.{leb, ltb}
use lib.ListN.{length}
use mathlib.Core.Bool.{Bool, true}
use mathlib.Core.List.{List}
use mathlib.Core.Logic.{inl, inr, ⊎_elim, ◌⊎◌}
use mathlib.Core.Path.{refl, ◌≡◌}
use native.Mathlib.Omega.{arith}
use Rattle.basis.proofs.Laws.{both_of, pick_case}
use Rattle.rig_core.specs.declared.Core.{Core}
use Rattle.events.proofs.Theorems.{take_inside}
use Rattle.events.specs.Reader.{read_at}
use Rattle.events.specs.declared.Next.TheVariants.{End, Refuse, Take}
use Rattle.events.specs.declared.Next.{Next}
use Rattle.replay.specs.Piece.{Piece, enough, goes_on, piece_at, piece_by, pieces_by, stage_piece}
use Rattle.replay.specs.Run.{Stepping}
use Rattle.replay.specs.declared.Place.{Place}
use Rattle.replay.specs.declared.Stage.TheVariants.{Ended, Running}
use Rattle.replay_laws.specs.Fillings.{fillings}
use Rattle.state_lines.specs.State.{event_text}

-- a place in the log s at which a run goes on, not before `from`. A record has a byte at least, so an event's number is at most its place and one
pub record On (s : List ℕ) (from : ℕ) (p : Place) : Type 0 where
  pub stage : p.stage ≡ Running
  pub past : from ≤ p.at
  pub inside : p.at ≤ length s
  pub counted : p.number ≤ p.at + 1

-- the run is at its end, or goes on from `from` or from behind it
abbrev pub Went : List ℕ → ℕ → Place → Type 0
Went s from p = (p.stage ≡ Ended) ⊎ On s from p

sooner : {s : List ℕ} {from to : ℕ} {p : Place} → from ≤ to → Went s to p → Went s from p
sooner h = ⊎_elim inl (λ x. inr (record { stage = x.stage; past = omega (arith, x.past); inside = x.inside; counted = x.counted }))

on_here : (s : List ℕ) (c : Core) (at n : ℕ) → at ≤ length s → n ≤ at + 1 → On s at (record { core = c; at = at; number = n; stage = Running })
on_here s c at n h i = record { stage = refl; past = omega arith; inside = h; counted = i }

module _ (f : Stepping) (states : Bool) (s : List ℕ) where
  -- what stands at a place: the end, or an event that leads on
  taken : (c : Core) (at n left : ℕ) (go : Core → ℕ → ℕ → Piece) → ((d : Core) (to rest : ℕ) → at < to → to ≤ length s → Went s to (go d to rest).place)
      → (r : Next) → read_at s at ≡ r → Went s (at + 1) (piece_at f states c at n left r go).place
  unfolding piece_at
  taken c at n left go more (Take e to) q =
      let i = take_inside s at e to q in
      sooner (omega (arith, i.0)) (more (f c e).core to (left - length (event_text states n (f c e))) i.0 i.1)
  taken c at n left go more End q = inl refl
  taken c at n left go more (Refuse r o) q = inl refl

  went : (k : ℕ) (c : Core) (at n left : ℕ) → at ≤ length s → n ≤ at + 1 → Went s at (pieces_by f states s k c at n left).place
  unfolding pieces_by
  went zero c at n left h i = inr (on_here s c at n h i)
  went (suc k) c at n left h i =
      pick_case (λ (x : Piece). Went s at x.place) (goes_on n left) _ _
      (λ t. sooner (omega arith) (taken c at n left _ (λ d to rest x y. went k d to (n + 1) rest y (omega arith)) (read_at s at) refl))
      (λ t. inr (on_here s c at n h i))

  -- with room for one event the place reached is another
  went_on : (k : ℕ) (c : Core) (at n left : ℕ) → at ≤ length s → n ≤ at + 1 → goes_on n left ≡ true → Went s (at + 1) (pieces_by f states s (suc k) c at n left).place
  unfolding pieces_by
  went_on k c at n left h i g = rw g (taken c at n left _ (λ d to rest x y. went k d to (n + 1) rest y (omega arith)) (read_at s at) refl)

  module _ (size : ℕ) (roomy : 2048 ≤ size) where
    -- one filling: it reaches the end, or a place further on
    pub piece_goes : (from : ℕ) (p : Place) → length s < 4294967294 → On s from p → Went s (p.at + 1) (piece_by f states s size p).place
    unfolding piece_by stage_piece goes_on
    piece_goes from p l h =
        let g : goes_on p.number size ≡ true = both_of (ltb p.number 4294967295) (leb enough size) (lt-ltb p.number 4294967295 (omega (arith, h.counted, h.inside))) (le-leb enough size roomy) in
        rw (le-ltb size enough roomy, h.stage) (went_on (length s) p.core p.at p.number size h.inside h.counted g)

    -- the end stays
    pub fillings_stay : (k : ℕ) (p : Place) → p.stage ≡ Ended → (fillings f states s size k p).place.stage ≡ Ended
    unfolding fillings piece_by stage_piece
    fillings_stay zero p e = e
    fillings_stay (suc k) p e = fillings_stay k (piece_by f states s size p).place (rw (le-ltb size enough roomy, e))

    pub fillings_end : (k from : ℕ) (p : Place) → length s < 4294967294 → On s from p → length s < p.at + k → (fillings f states s size k p).place.stage ≡ Ended
    unfolding fillings
    fillings_end zero from p l h m = absurd (omega (arith, h.inside))
    fillings_end (suc k) from p l h m =
        ⊎_elim
        (λ e. fillings_stay k (piece_by f states s size p).place e)
        (λ x. fillings_end k (p.at + 1) (piece_by f states s size p).place l x (omega (arith, x.past)))
        (piece_goes from p l h)
