-- Zeros, or the upper four digits and two pairs.
use borrow.Author.Rules.{rules}
use native.Mathlib.Omega.{arith}
use Rattle.text.proofs.Adds.{adds_then}
use Rattle.text.proofs.Pairs.{hex8_pairs, hex8_zero}
use Rattle.text.proofs.page.Page.put_hex8.Goals as goal

pub returns-then-n-eq0 : goal.returns-then-n-eq0
returns-then-n-eq0 c = rw (hex8_zero c.args.n (omega arith)) c.put_word.ensures

pub returns : goal.returns
returns c = rw (hex8_pairs c.args.n (search rules)) (adds_then (adds_then c.put_upper.ensures c.put_pair.ensures) c.put_pair-2.ensures)
