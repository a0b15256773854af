-- The state after a row of events.
use Rattle.std.specs.Prelude.{List, [], ◌∷◌}
use Rattle.rig_core.specs.Events.{step_of}
use Rattle.rig_core.specs.declared.Core.{Core}
use Rattle.event.specs.declared.Event.{Event}

-- the state after the events es
unfoldable pub run : Core → List Event → Core
run c [] = c
run c (e ∷ es) = run (step_of c e).core es
