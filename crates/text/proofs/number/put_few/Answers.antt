-- One digit, one pair, a digit and a pair, or two pairs.
use Prim.Native.Nat.{◌+◌, ◌/◌}
use native.Mathlib.Omega.{arith}
use Rattle.text.proofs.Pairs.{decimal_four, decimal_one, decimal_three, decimal_two, pair_length}
use Rattle.text.proofs.Puts.{byte_put, puts_then}
use Rattle.text.proofs.number.put_few.Goals as goal

pub returns-then-n-lt10 : goal.returns-then-n-lt10
returns-then-n-lt10 c = rw (decimal_one c.args.n c.if-n-lt10.true) (byte_put _ _ _)

pub returns-then-n-lt100 : goal.returns-then-n-lt100
returns-then-n-lt100 c = rw (decimal_two c.args.n c.if-n-lt10.false c.if-n-lt100.true) c.put_pair.ensures

pub returns-then-n-lt1000 : goal.returns-then-n-lt1000
returns-then-n-lt1000 c = rw (decimal_three c.args.n c.if-n-lt100.false c.if-n-lt1000.true) (puts_then (byte_put _ _ _) c.put_pair-then-n-lt1000.ensures)

pub put_pair-requires-2 : goal.put_pair-requires-2
put_pair-requires-2 c = (omega arith, omega (arith, c.requires.1, c.put_pair-second.ensures.next, pair_length (256 + c.args.n / 100), c.put_pair-second.auto.b))

pub returns : goal.returns
returns c = rw (decimal_four c.args.n c.if-n-lt1000.false c.requires.0) (puts_then c.put_pair-second.ensures c.put_pair-2.ensures)
