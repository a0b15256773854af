-- The lent numbers are those of the places; the two walks joined.
use Rattle.std.proofs.Common.{refl, arith}
use Rattle.config.specs.Places.{place_numbers}
use Rattle.config.proofs.places.slots_fit.Goals as goal

pub owners_fit-named-requires : goal.owners_fit-named-requires
unfolding place_numbers
owners_fit-named-requires c = (omega arith, refl)

pub durations_fit-lasting-requires : goal.durations_fit-lasting-requires
unfolding place_numbers
durations_fit-lasting-requires c = refl
