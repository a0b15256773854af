-- The Copies of P14 to P22: what is told of one, and the window after it.
use Rattle.std.specs.Prelude.{suc, zero, ℕ, ◌%◌, ◌+◌, leb, ltb, get_or, List, [], map, ◌∷◌}
use Rattle.std.specs.List.{range_with_len}
use Rattle.basis.specs.Choice.{both, pick}
use Rattle.rig_core.specs.Events.{step_of}
use Rattle.rig_core.specs.Memory.{memory_after}
use Rattle.rig_core.specs.State.{vm_at}
use Rattle.rig_core.specs.declared.Core.{Core}
use Rattle.rig_core.specs.declared.Stepped.{Stepped}
use Rattle.event.specs.declared.Event.TheVariants.{Copy, Start, Tick}
use Rattle.event.specs.declared.Event.{Event}
use Rattle.history.specs.History.{state_of}
use Rattle.trials.specs.Examples.{copy_example}
use Rattle.window.specs.Pieces.{extent_of, no_extent}
use Rattle.window.specs.declared.Extent.{Extent}
use Rattle.window.specs.declared.Pieces.{Pieces}

-- a count, the next address 0x1010, and up to eight extents, with zeros behind them
abbrev pub asking : ℕ → List Extent → Pieces
asking n xs = record { count = n; next = 0x1010; extents = map (λ k. get_or xs k no_extent) (range_with_len 0 8) }

-- with a window of 512 bytes
abbrev pub copy_of : ℕ → List Extent → Event
copy_of n xs = Copy (asking n xs) (record { base = 0x40000000; size = 512 })

-- an extent, its addresses counted from the window's base on
abbrev pub piece : ℕ → ℕ → ℕ → Extent
piece source destination n = extent_of (0x40000000 + source) (0x40000000 + destination) n

-- n numbers, from number k on
unfoldable pub tabled : (ℕ → ℕ) → ℕ → ℕ → List ℕ
tabled f k zero = []
tabled f k (suc n) = f k ∷ tabled f (suc k) n

-- the window at first, and with f in the places from `from` up to `to`
abbrev pub bytes_with : ℕ → ℕ → (ℕ → ℕ) → List ℕ
bytes_with from to f = tabled (λ i. pick (both (leb from i) (ltb i to)) (f i) (i % 251)) 0 512

abbrev pub bytes_at_first : List ℕ
bytes_at_first = bytes_with 0 0 (λ i. 0)

abbrev pub copy_state : Core
copy_state = state_of step_of copy_example (Start ∷ Tick 0 ∷ [])

-- refusal, the standing of VM 0 and its run address, and the notice
abbrev pub copy_told : Stepped → List ℕ
copy_told s =
    s.answer.refusal ∷ (vm_at s.core 0).standing ∷ (vm_at s.core 0).address
    ∷ s.answer.notice.kind ∷ s.answer.notice.vm ∷ s.answer.notice.code ∷ s.answer.notice.detail ∷ []

-- what is told of a Copy, and the window after it
unfoldable pub copy_shown : ℕ → List Extent → List (List ℕ)
copy_shown n xs = copy_told (step_of copy_state (copy_of n xs)) ∷ memory_after copy_state (copy_of n xs) bytes_at_first ∷ []

-- it is done, and these are the bytes
abbrev pub copied : List ℕ → List (List ℕ)
copied bytes = (0 ∷ 1 ∷ 0x1010 ∷ 0 ∷ 0 ∷ 0 ∷ 0 ∷ []) ∷ bytes ∷ []

-- VM 0 is in error, and no byte was moved
abbrev pub failed : ℕ → ℕ → List (List ℕ)
failed code detail = (0 ∷ 4 ∷ 0x1010 ∷ 3 ∷ 0 ∷ code ∷ detail ∷ []) ∷ bytes_at_first ∷ []
