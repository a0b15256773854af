-- The lowest bits of a number are its remainder by their power (`all_law`).
use Rattle.std.proofs.Common.{refl}
use Rattle.config.proofs.Walks.{all_law}
use Rattle.config.proofs.places.has_all.Goals as goal

pub returns : goal.returns
returns c = all_law _ _ _ _ c.power-all.ensures refl c.requires
