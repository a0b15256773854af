-- No second answer fits (C2): each public function.
use Rattle.std.proofs.Common.{sym, ◌∙◌}
use Rattle.basis.proofs.Unique.{OneAnswer}
use Rattle.queue.proofs.Queue.counted.Kinds as counted-kinds
use Rattle.queue.proofs.Queue.counted.Reads as counted-reads
use Rattle.queue.proofs.Queue.empty.Kinds as empty-kinds
use Rattle.queue.proofs.Queue.empty.Reads as empty-reads
use Rattle.queue.proofs.Queue.padded.Kinds as padded-kinds
use Rattle.queue.proofs.Queue.padded.Reads as padded-reads
use Rattle.queue.proofs.Queue.pushed.Kinds as pushed-kinds
use Rattle.queue.proofs.Queue.pushed.Reads as pushed-reads
use Rattle.queue.proofs.Queue.served.Kinds as served-kinds
use Rattle.queue.proofs.Queue.served.Reads as served-reads
use Rattle.queue.proofs.Queue.without.Kinds as without-kinds
use Rattle.queue.proofs.Queue.without.Reads as without-reads

pub queue_empty_one : OneAnswer 0 empty-kinds.ps empty-kinds.r empty-reads.Post
queue_empty_one κs a x y s t p q = p ∙ sym q

pub queue_served_one : OneAnswer 0 served-kinds.ps served-kinds.r served-reads.Post
queue_served_one κs a x y s t p q = p ∙ sym q

pub queue_pushed_one : OneAnswer 0 pushed-kinds.ps pushed-kinds.r pushed-reads.Post
queue_pushed_one κs a x y s t p q = p ∙ sym q

pub queue_without_one : OneAnswer 0 without-kinds.ps without-kinds.r without-reads.Post
queue_without_one κs a x y s t p q = p ∙ sym q

pub queue_padded_one : OneAnswer 1 padded-kinds.ps padded-kinds.r padded-reads.Post
queue_padded_one κs a x y s t p q = p ∙ sym q

pub queue_counted_one : OneAnswer 1 counted-kinds.ps counted-kinds.r counted-reads.Post
queue_counted_one κs a x y s t p q = p ∙ sym q
