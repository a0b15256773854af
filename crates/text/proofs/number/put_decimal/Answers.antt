-- At most four digits, eight, or ten.
use Prim.Native.Nat.{◌%◌, ◌/◌}
use borrow.Author.Rules.{rules}
use native.Mathlib.Omega.{arith}
use Rattle.text.proofs.Digits.{decimal_length, digits_length, width_few, width_less}
use Rattle.text.proofs.Pairs.{decimal_five, decimal_nine}
use Rattle.text.proofs.Puts.{puts_then}
use Rattle.text.proofs.number.put_decimal.Goals as goal

pub put_few-rest-requires : goal.put_few-rest-requires
put_few-rest-requires c = (omega (arith, c.if-n-lt100000000.true), omega (arith, c.requires))

pub put_four-requires : goal.put_four-requires
put_four-requires c = (
  omega arith,
  omega (
    arith,
    c.requires,
    c.put_few-rest.ensures.next,
    decimal_length (c.args.n / 10000),
    width_few (c.args.n / 10000) (omega (arith, c.if-n-lt100000000.true)),
    c.put_few-rest.auto.b,
  ),
)

pub returns-then-n-lt100000000 : goal.returns-then-n-lt100000000
returns-then-n-lt100000000 c = rw (decimal_five c.args.n c.if-n-lt10000.false (search rules)) (puts_then c.put_few-rest.ensures c.put_four.ensures)

pub put_few-middle-requires : goal.put_few-middle-requires
put_few-middle-requires c = (omega (arith, c.ranges.n.fits), omega (arith, c.requires))

pub put_four-rest-requires : goal.put_four-rest-requires
put_four-rest-requires c = (
  omega arith,
  omega (
    arith,
    c.requires,
    c.put_few-middle.ensures.next,
    decimal_length (c.args.n / 100000000),
    width_less (c.args.n / 100000000) (omega (arith, c.ranges.n.fits)),
    c.put_few-middle.auto.b,
  ),
)

pub put_four-requires-2 : goal.put_four-requires-2
put_four-requires-2 c = (
  omega arith,
  omega (
    arith,
    c.requires,
    c.put_few-middle.ensures.next,
    decimal_length (c.args.n / 100000000),
    width_less (c.args.n / 100000000) (omega (arith, c.ranges.n.fits)),
    c.put_few-middle.auto.b,
    c.put_four-rest.ensures.next,
    digits_length 10 4 (c.args.n / 10000 % 10000),
    c.put_four-rest.auto.b,
  ),
)

pub returns : goal.returns
returns c = rw (decimal_nine c.args.n c.if-n-lt100000000.false (search rules)) (puts_then (puts_then c.put_few-middle.ensures c.put_four-rest.ensures) c.put_four-2.ensures)
