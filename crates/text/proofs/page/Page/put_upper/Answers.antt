-- Zeros, or two pairs.
use Rattle.text.proofs.Adds.{adds_then}
use Rattle.text.proofs.Pairs.{upper_zero}
use Rattle.text.proofs.page.Page.put_upper.Goals as goal

pub returns-then-n-lt65536 : goal.returns-then-n-lt65536
returns-then-n-lt65536 c = rw (upper_zero c.args.n c.if-n-lt65536.true) c.put_word.ensures

pub returns : goal.returns
returns c = adds_then c.put_pair.ensures c.put_pair-2.ensures
