-- The digits, then the byte.
use native.Mathlib.Omega.{arith}
use Rattle.text.proofs.Adds.{adds_most, adds_then}
use Rattle.text.proofs.Pairs.{decimal_one}
use Rattle.text.proofs.page.Page.put_number.Goals as goal

pub returns-then-n-lt10 : goal.returns-then-n-lt10
returns-then-n-lt10 c = rw (decimal_one c.args.n c.if-n-lt10.true) (adds_most c.put_mark.ensures (omega arith))

pub returns : goal.returns
returns c = adds_then c.put_decimal.ensures c.put_byte.ensures
