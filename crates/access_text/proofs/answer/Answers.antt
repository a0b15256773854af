-- What is tested first, then the bytes (`answer_asked`, `answer_no`).
use Rattle.access_text.proofs.Answering.{answer_asked, answer_no}
use Rattle.access_text.proofs.answer.Goals as goal

pub returns-then-known : goal.returns-then-known
returns-then-known c = answer_asked _ _ _ _ _ _ _ _ _ c.requires.1 c.is_known.ensures c.both.ensures c.both-known.ensures _ c.if-known.true (rw (c.word_inside-address.ensures, c.word_inside-size.ensures) at c.allows.ensures)

pub returns : goal.returns
returns c = answer_no _ _ _ _ _ _ _ _ _ c.requires.1 c.is_known.ensures c.both.ensures c.both-known.ensures c.if-known.false
