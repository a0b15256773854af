-- One pair.
use borrow.Author.Rules.{rules}
use Rattle.text.proofs.Pairs.{pair_hex}
use Rattle.text.specs.Digits.{hex_byte}
use Rattle.text.proofs.page.Page.put_hex_byte.Goals as goal

pub returns : goal.returns
unfolding hex_byte
returns c = rw (← pair_hex c.args.n (search rules)) c.put_pair.ensures
