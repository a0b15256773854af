-- The programs step without the test of soundness. From fresh the state is always sound, so what they print is the run by public events.
use Prim.Native.Nat.{ℕ}
use mathlib.Core.Bool.{Bool, false, true}
use mathlib.Core.List.{List}
use mathlib.Core.Path.{◌≡◌}
use Rattle.basis.specs.Numbers.{Bytes}
use Rattle.rig_core.specs.Events.{inner_of, step_of}
use Rattle.rig_core.specs.State.{fresh_core}
use Rattle.core_laws.proofs.Always.{Good, good_fresh, good_step, inner_good}
use Rattle.image_laws.proofs.Theorems.{given}
use Rattle.image_reader.specs.Reader.{read_image}
use Rattle.replay.specs.Run.{run_by, run_text, state_run_text}
use Rattle.replay_laws.proofs.Same.{run_same}

-- an accepted image gives a sound state
begun : (bs : List ℕ) → Bytes bs → (read_image bs).fault ≡ 0 → Good (fresh_core (read_image bs).config)
begun bs h e = let d = given bs h e in good_fresh (read_image bs).config d.legal d.sized

pub runs_alike : (states : Bool) (bs log : List ℕ) → Bytes bs → run_by inner_of states bs log ≡ run_by step_of states bs log
runs_alike states bs log h = run_same inner_of step_of Good inner_good good_step states bs log (begun bs h)

-- N1 to N7: the text that the code is proved to print is the text of the rules
pub runlog_prints : (bs log : List ℕ) → Bytes bs → run_by inner_of false bs log ≡ run_text bs log
runlog_prints bs log h = runs_alike false bs log h

-- N9
pub statelog_prints : (bs log : List ℕ) → Bytes bs → run_by inner_of true bs log ≡ state_run_text bs log
statelog_prints bs log h = runs_alike true bs log h
