-- Two stores.
use mathlib.Core.Path.{refl}
use Rattle.text.proofs.Pairs.{pair_put}
use Rattle.text.specs.Pairs.{pair_at}
use Rattle.text.proofs.number.put_pair.Goals as goal

pub returns : goal.returns
unfolding pair_at
returns c = record { bytes = pair_put _ _ _ _ c.table-t.ensures; next = refl }
