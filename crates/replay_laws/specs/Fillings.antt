-- A run that is printed by filling a buffer again and again.
use Rattle.std.specs.Prelude.{suc, zero, ℕ, Bool, List, []}
use Rattle.rig_core.specs.Events.{inner_of}
use Rattle.replay.specs.Piece.{Piece, and_then, piece_by}
use Rattle.replay.specs.Run.{Stepping, start_of}
use Rattle.replay.specs.declared.Place.{Place}

-- k fillings of a buffer of so many bytes, from a place of a run on: their texts one after the other, and the place reached
unfoldable pub fillings : Stepping → Bool → List ℕ → ℕ → ℕ → Place → Piece
fillings f states s size zero p = record { text = []; place = p }
fillings f states s size (suc k) p = and_then (piece_by f states s size p).text (fillings f states s size k (piece_by f states s size p).place)

-- what k calls of `fill` print for an image and a log, from the beginning on
abbrev pub printed : Bool → List ℕ → List ℕ → ℕ → ℕ → Piece
printed states image log size k = fillings inner_of states log size k (start_of image log)
