-- The first `k` region records are put.
use mathlib.Core.Path.{◌≡◌}
use Rattle.basis.specs.Buffer.{put_all}
use Rattle.basis.specs.Count.{joined}
use Rattle.regions.specs.Rules.{holder_at, last_at, permission_at, start_at}
use Rattle.image_writer.specs.Writer.{region_bytes}
use Rattle.image_writer.proofs.writer.put_regions.Given as goal

abbrev pub invariant-loop-k : goal.invariant-loop-k
invariant-loop-k l = l.b ≡ put_all l.initial.b l.from (joined (λ j. region_bytes (holder_at l.r j) (permission_at l.r j) (start_at l.r j) (last_at l.r j)) l.k)
