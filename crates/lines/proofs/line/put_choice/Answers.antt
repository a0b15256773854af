-- One or the other.
use Rattle.lines.proofs.Texts.{choice_none, choice_some}
use Rattle.lines.proofs.line.put_choice.Goals as goal

pub returns-then-v-eq-NOBODY : goal.returns-then-v-eq-NOBODY
returns-then-v-eq-NOBODY c = choice_none _ _ c.if-v-eq-NOBODY.true c.put_mark.ensures

pub returns : goal.returns
returns c = choice_some _ _ c.if-v-eq-NOBODY.false c.put_number.ensures
