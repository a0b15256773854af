-- Two pairs.
use Prim.Native.Nat.{◌+◌, ◌/◌}
use native.Mathlib.Omega.{arith}
use Rattle.text.proofs.Pairs.{four_digits, pair_length}
use Rattle.text.proofs.Puts.{puts_then}
use Rattle.text.proofs.number.put_four.Goals as goal

pub put_pair-requires : goal.put_pair-requires
put_pair-requires c = (omega arith, omega (arith, c.requires.1, c.put_pair-rest.ensures.next, pair_length (256 + c.args.n / 100), c.put_pair-rest.auto.b))

pub returns : goal.returns
returns c = rw (four_digits c.args.n c.requires.0) (puts_then c.put_pair-rest.ensures c.put_pair.ensures)
