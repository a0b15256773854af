-- The first `k` slot records are put.
use mathlib.Core.Path.{◌≡◌}
use Rattle.basis.specs.Buffer.{put_all}
use Rattle.basis.specs.Count.{joined}
use Rattle.config.specs.Sizes.{duration_at, owner_at}
use Rattle.image_writer.specs.Writer.{slot_bytes}
use Rattle.image_writer.proofs.writer.put_slots.Given as goal

abbrev pub invariant-loop-k : goal.invariant-loop-k
invariant-loop-k l = l.b ≡ put_all l.initial.b l.from (joined (λ j. slot_bytes (owner_at l.c j) (duration_at l.c j)) l.k)
