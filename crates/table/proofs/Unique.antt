-- No second answer fits (C2): each public function.
use mathlib.Core.Path.{◌∙◌, sym}
use Rattle.basis.proofs.Unique.{OneAnswer}
use Rattle.table.proofs.Clock.fresh.Kinds as fresh-kinds
use Rattle.table.proofs.Clock.fresh.Reads as fresh-reads
use Rattle.table.proofs.Clock.next.Kinds as next-kinds
use Rattle.table.proofs.Clock.next.Reads as next-reads
use Rattle.table.proofs.Clock.started.Kinds as started-kinds
use Rattle.table.proofs.Clock.started.Reads as started-reads
use Rattle.table.proofs.duration_at.Kinds as duration-at-kinds
use Rattle.table.proofs.duration_at.Reads as duration-at-reads
use Rattle.table.proofs.owner_at.Kinds as owner-at-kinds
use Rattle.table.proofs.owner_at.Reads as owner-at-reads

pub table_fresh_one : OneAnswer 0 fresh-kinds.ps fresh-kinds.r fresh-reads.Post
table_fresh_one κs a x y s t p q = p ∙ sym q

pub table_started_one : OneAnswer 0 started-kinds.ps started-kinds.r started-reads.Post
table_started_one κs a x y s t p q = p ∙ sym q

pub table_next_one : OneAnswer 1 next-kinds.ps next-kinds.r next-reads.Post
table_next_one κs a x y s t p q = p ∙ sym q

pub table_duration_at_one : OneAnswer 1 duration-at-kinds.ps duration-at-kinds.r duration-at-reads.Post
table_duration_at_one κs a x y s t p q = p ∙ sym q

pub table_owner_at_one : OneAnswer 1 owner-at-kinds.ps owner-at-kinds.r owner-at-reads.Post
table_owner_at_one κs a x y s t p q = p ∙ sym q
