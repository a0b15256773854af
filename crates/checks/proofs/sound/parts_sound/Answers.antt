-- The tests that it joins are W1 to W13 (`parts_yes`, `parts_no`).
use mathlib.Core.Path.{refl}
use Rattle.checks.proofs.Tests.{parts_no, parts_yes}
use Rattle.checks.proofs.sound.parts_sound.Goals as goal

pub returns-then-all : goal.returns-then-all
returns-then-all c = parts_yes _ _ _ _ _ _ _ _ _ _ _ _ _ _ _ _ _ c.standings-standings.ensures c.rest_fresh-rest.ensures c.queue_sound-queued.ensures c.start_sound-begun.ensures c.duration_at-duration.ensures c.clock_sound-placed.ensures c.owner_at-owner.ensures c.is_ready.ensures c.runner_sound-runs.ensures c.numbers_known-known.ensures c.counted-counted.ensures c.all.ensures _ c.if-all.true c.parts_legal.ensures

pub returns-else-all : goal.returns-else-all
returns-else-all c = parts_no _ _ _ _ _ _ _ _ _ _ _ _ _ _ _ _ _ c.standings-standings.ensures c.rest_fresh-rest.ensures c.queue_sound-queued.ensures c.start_sound-begun.ensures c.duration_at-duration.ensures c.clock_sound-placed.ensures c.owner_at-owner.ensures c.is_ready.ensures c.runner_sound-runs.ensures c.numbers_known-known.ensures c.counted-counted.ensures c.all.ensures _ c.if-all.false refl
