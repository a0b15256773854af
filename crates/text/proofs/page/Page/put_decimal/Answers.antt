-- A number has at most ten digits.
use mathlib.Core.Path.{refl}
use native.Mathlib.Omega.{arith}
use Rattle.text.proofs.Adds.{adds}
use Rattle.text.proofs.Digits.{decimal_length, width_most}
use Rattle.text.proofs.page.Page.put_decimal.Goals as goal

pub returns : goal.returns
returns c = adds _ _ _ c.put_decimal-self.ensures (omega (arith, decimal_length c.args.n, width_most c.args.n)) refl
