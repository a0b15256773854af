-- The pair stands behind what was used.
use mathlib.Core.Path.{refl}
use native.Mathlib.Omega.{arith}
use Rattle.text.proofs.Adds.{adds}
use Rattle.text.proofs.Pairs.{pair_length}
use Rattle.text.proofs.page.Page.put_pair.Goals as goal

pub returns : goal.returns
returns c = adds _ _ _ c.put_pair-self.ensures (omega (arith, pair_length c.args.x)) refl
