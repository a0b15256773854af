-- No second answer fits (C2): each public function.
use mathlib.Core.Path.{sym, ◌∙◌}
use Rattle.basis.proofs.Unique.{OneAnswer}
use Rattle.regions.proofs.Regions.agrees_all.Kinds as agrees-kinds
use Rattle.regions.proofs.Regions.agrees_all.Reads as agrees-reads
use Rattle.regions.proofs.Regions.at.Kinds as at-kinds
use Rattle.regions.proofs.Regions.at.Reads as at-reads
use Rattle.regions.proofs.Regions.blank.Kinds as blank-kinds
use Rattle.regions.proofs.Regions.blank.Reads as blank-reads
use Rattle.regions.proofs.Regions.has_room.Kinds as room-kinds
use Rattle.regions.proofs.Regions.has_room.Reads as room-reads
use Rattle.regions.proofs.Regions.lawful.Kinds as lawful-kinds
use Rattle.regions.proofs.Regions.lawful.Reads as lawful-reads
use Rattle.regions.proofs.Regions.none.Kinds as none-kinds
use Rattle.regions.proofs.Regions.none.Reads as none_reads
use Rattle.regions.proofs.rules.is_known.Kinds as known-kinds
use Rattle.regions.proofs.rules.is_known.Reads as known-reads

-- C1, C2
pub blank_one : OneAnswer 1 blank-kinds.ps blank-kinds.r blank-reads.Post
blank_one κs a x y s t p q = p ∙ sym q

pub none_one : OneAnswer 0 none-kinds.ps none-kinds.r none_reads.Post
none_one κs a x y s t p q = p ∙ sym q

pub lawful_one : OneAnswer 1 lawful-kinds.ps lawful-kinds.r lawful-reads.Post
lawful_one κs a x y s t p q = p ∙ sym q

pub room_one : OneAnswer 1 room-kinds.ps room-kinds.r room-reads.Post
room_one κs a x y s t p q = p ∙ sym q

pub agrees_one : OneAnswer 1 agrees-kinds.ps agrees-kinds.r agrees-reads.Post
agrees_one κs a x y s t p q = p ∙ sym q

pub at_one : OneAnswer 1 at-kinds.ps at-kinds.r at-reads.Post
at_one κs a x y s t p q = p ∙ sym q

pub known_one : OneAnswer 0 known-kinds.ps known-kinds.r known-reads.Post
known_one κs a x y s t p q = p ∙ sym q
