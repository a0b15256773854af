-- The first `k` VM records are put.
use mathlib.Core.Path.{◌≡◌}
use Rattle.basis.specs.Buffer.{put_all}
use Rattle.basis.specs.Count.{joined}
use Rattle.config.specs.Sizes.{entry_at, handler_at}
use Rattle.image_writer.specs.Writer.{vm_bytes}
use Rattle.image_writer.proofs.writer.put_vms.Given as goal

abbrev pub invariant-loop-k : goal.invariant-loop-k
invariant-loop-k l = l.b ≡ put_all l.initial.b 3 (joined (λ j. vm_bytes (entry_at l.c j) (handler_at l.c j)) l.k)
