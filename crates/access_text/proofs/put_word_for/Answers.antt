-- One word or the other.
use native.Mathlib.Omega.{arith}
use Rattle.text.proofs.Adds.{adds_most}
use Rattle.access_text.proofs.put_word_for.Goals as goal

pub returns-then-yes : goal.returns-then-yes
returns-then-yes c = rw c.if-yes.true c.put_word.ensures

pub returns-else-yes : goal.returns-else-yes
returns-else-yes c = rw c.if-yes.false (adds_most c.put_word-else-yes.ensures (omega arith))
