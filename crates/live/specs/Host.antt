-- What a host gets: the core of an image, and the answer to an event that it hands over as numbers.
use Rattle.std.specs.Prelude.{ℕ, List, Option, Some, None}
use Rattle.basis.specs.Choice.{unless}
use Rattle.rig_core.specs.Events.{inner_of, step_of}
use Rattle.rig_core.specs.Refusals.{refused}
use Rattle.rig_core.specs.Sound.{sound}
use Rattle.rig_core.specs.State.{fresh_core}
use Rattle.rig_core.specs.declared.Core.{Core}
use Rattle.rig_core.specs.declared.Stepped.{Stepped}
use Rattle.event.specs.declared.Event.{Event}
use Rattle.event.specs.Kinds.{asked_by}
use Rattle.image_reader.specs.Reader.{read_image}
use Rattle.live.specs.declared.Begun.{Begun}
use Rattle.live.specs.declared.Input.{Input}

-- I7 to I10, T6, T7: an image's fault and offset, and the fresh core of its configuration
abbrev pub begun_from : List ℕ → Begun
begun_from bs = record { fault = (read_image bs).fault; offset = (read_image bs).offset; core = fresh_core (read_image bs).config }

-- what numbers ask for, done on a state: the event that they are; where the kind is no event's, refusal 10, below row 1 of R1
unfoldable pub step_for : Core → Option Event → Stepped
step_for c (Some e) = step_of c e
step_for c None = refused c (unless (sound c) 1 10)

-- an input on a state
abbrev pub step_by : Core → Input → Stepped
step_by c e = step_for c (asked_by e.kind e.byte e.word e.next)

-- the same on a state that is known to be sound
unfoldable pub inner_for : Core → Option Event → Stepped
inner_for c (Some e) = inner_of c e
inner_for c None = refused c 10

abbrev pub inner_by : Core → Input → Stepped
inner_by c e = inner_for c (asked_by e.kind e.byte e.word e.next)

-- numbers that are no event's
abbrev pub nothing : Input
nothing = record { kind = 0; byte = 0; word = 0; next = 0 }
