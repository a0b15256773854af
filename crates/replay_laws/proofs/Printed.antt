-- Filling again and again comes to the end, and what was put, one text after the other, is the text of the whole run.
use Prim.Native.Nat.{suc, zero, ℕ, ◌<◌, ◌≤◌}
use borrow.Author.Tests.{le-ltb, ltb-false}
use lib.Dec.{eqb, ltb}
use lib.ListN.{length}
use mathlib.Core.Bool.{Bool, false, true}
use mathlib.Core.List.{List, append-nil, ◌++◌}
use mathlib.Core.Path.{refl, sym, ◌∙◌, ◌≡◌}
use native.Mathlib.Omega.{arith}
use Rattle.basis.specs.Numbers.{Bytes}
use Rattle.rig_core.specs.Events.{inner_of, step_of}
use Rattle.events.specs.Log.{longest}
use Rattle.image_reader.specs.Reader.{read_image}
use Rattle.replay.specs.Piece.{enough, piece_by, stage_piece}
use Rattle.replay.specs.Run.{Stepping, is_over, judged_as, run_by, run_text, start_of, state_run_text, text_by, text_from}
use Rattle.replay.specs.declared.Place.{Place}
use Rattle.replay.specs.declared.Stage.TheVariants.{Ended}
use Rattle.replay_laws.proofs.Pieces.{fillings_split}
use Rattle.replay_laws.proofs.Progress.{fillings_end, fillings_stay}
use Rattle.replay_laws.proofs.Whole.{runs_alike}
use Rattle.replay_laws.specs.Fillings.{fillings, printed}

-- nothing is printed from the end on
ended_text : (f : Stepping) (states : Bool) (s xs : List ℕ) (p : Place) → p.stage ≡ Ended → xs ++ text_from f states s p ≡ xs
unfolding text_by
ended_text f states s xs p e = rw e (append-nil xs)

-- the last filling
over_by : (states : Bool) (image log : List ℕ) (size k : ℕ) → 2048 ≤ size → 0 < k → (length log ≤ longest → length log < k) → (printed states image log size k).place.stage ≡ Ended
unfolding start_of judged_as fillings piece_by stage_piece
over_by states image log size zero r z h = absurd (omega arith)
over_by states image log size (suc k) r z h = go (eqb (read_image image).fault 0) refl (ltb longest (length log)) refl
  where
    go : (a : Bool) → eqb (read_image image).fault 0 ≡ a → (b : Bool) → ltb longest (length log) ≡ b → (printed states image log size (suc k)).place.stage ≡ Ended
    go false e b i = fillings_stay inner_of states log size r k _ (rw (le-ltb size enough r, e))
    go true e true i = fillings_stay inner_of states log size r k _ (rw (le-ltb size enough r, e, i))
    go true e false i =
        let w = ltb-false longest (length log) i in
        fillings_end inner_of states log size r (suc k) 0 (start_of image log) (omega (arith, w))
        (record { stage = rw (e, i); past = omega arith; inside = omega arith; counted = omega arith }) (omega (arith, h w))

-- the run is over, and the texts of the fillings, one after the other, are the text of the rules
abbrev pub AllPrinted : Bool → List ℕ → List ℕ → ℕ → ℕ → Type 0
AllPrinted states image log size k = ((printed states image log size k).text ≡ run_by step_of states image log) × (is_over (printed states image log size k).place.stage ≡ true)

all_by : (states : Bool) (image log : List ℕ) (size k : ℕ) → Bytes image → (printed states image log size k).place.stage ≡ Ended → AllPrinted states image log size k
unfolding is_over
all_by states image log size k b e =
    let p = printed states image log size k in
    (sym (ended_text inner_of states log p.text p.place e) ∙ fillings_split inner_of states log size k (start_of image log) ∙ runs_alike states image log b, rw e)

-- N1 to N7, for every image, every log and every buffer of 2,048 bytes or more: it is so after more fillings than the log has bytes
pub all_printed : (states : Bool) (image log : List ℕ) (size k : ℕ) → Bytes image → 2048 ≤ size → length log < k → AllPrinted states image log size k
all_printed states image log size k b r h = all_by states image log size k b (over_by states image log size k r (omega arith) (λ w. h))

-- and after 60,001 of them whatever the log
pub turns_enough : (states : Bool) (image log : List ℕ) (size k : ℕ) → Bytes image → 2048 ≤ size → longest < k → AllPrinted states image log size k
turns_enough states image log size k b r h = all_by states image log size k b (over_by states image log size k r (omega arith) (λ w. omega arith))

-- as `runlog` and `statelog` print
pub runlog_printed : (image log : List ℕ) (size k : ℕ) → Bytes image → 2048 ≤ size → length log < k → (printed false image log size k).text ≡ run_text image log
runlog_printed image log size k b r h = (all_printed false image log size k b r h).0

-- N9
pub statelog_printed : (image log : List ℕ) (size k : ℕ) → Bytes image → 2048 ≤ size → length log < k → (printed true image log size k).text ≡ state_run_text image log
statelog_printed image log size k b r h = (all_printed true image log size k b r h).0
