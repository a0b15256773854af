-- The lent numbers are those of the places; up to four VMs, or four and the others.
use Rattle.std.proofs.Common.{refl, arith}
use Rattle.config.proofs.Walks.{few_law, many_law}
use Rattle.config.specs.Places.{place_numbers}
use Rattle.config.proofs.places.served_long.Goals as goal

pub named_from-low-requires : goal.named_from-low-requires
unfolding place_numbers
named_from-low-requires c = (omega arith, omega arith, refl)

pub returns-then-count-le4 : goal.returns-then-count-le4
returns-then-count-le4 c = few_law c.args.slots _ _ c.args.owners.now _ c.named_from-low.ensures (omega arith) c.has_all.ensures

pub named_from-high-requires : goal.named_from-high-requires
unfolding place_numbers
named_from-high-requires c = (omega arith, omega arith, refl)

pub returns : goal.returns
returns c = many_law c.args.slots _ _ _ _ c.args.owners.now _ _ _ c.named_from-low.ensures c.named_from-high.ensures (omega arith) (omega arith) refl c.has_all-2.ensures c.has_all-3.ensures c.both.ensures
