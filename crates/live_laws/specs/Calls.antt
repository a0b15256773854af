-- The state after a row of calls by a host.
use Rattle.std.specs.Prelude.{ℕ, List, [], ◌∷◌}
use Rattle.rig_core.specs.Events.{step_of}
use Rattle.rig_core.specs.Memory.{copy_in}
use Rattle.rig_core.specs.declared.Core.{Core}
use Rattle.live.specs.Host.{inner_by, step_by}
use Rattle.live.specs.declared.Input.{Input}
use Rattle.window.specs.declared.Pieces.{Pieces}

-- one call: of `core_inner`; of `core_live` or `core_step`; of `core_copy`, with a base address and the bytes from there on
pub data Called : Type 0 where
  Inner : Input → Called
  Live : Input → Called
  Copied : Pieces → ℕ → List ℕ → Called

-- the state after one
unfoldable pub called : Core → Called → Core
called c (Inner e) = (inner_by c e).core
called c (Live e) = (step_by c e).core
called c (Copied p base m) = (step_of c (copy_in p base m)).core

-- and after all of them
unfoldable pub calls : Core → List Called → Core
calls c [] = c
calls c (k ∷ ks) = calls (called c k) ks
