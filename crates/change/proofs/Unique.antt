-- No second answer fits (C2): two answers that meet a function's contract are equal. `Post` is the contract as the source has it.
use mathlib.Core.Path.{sym, ◌∙◌}
use Rattle.basis.proofs.Unique.{OneAnswer}
use Rattle.change.proofs.Notice.told.Kinds as tolds
use Rattle.change.proofs.Notice.told.Reads as told
use Rattle.change.proofs.Answer.quiet.Kinds as quiets
use Rattle.change.proofs.Answer.quiet.Reads as quiet
use Rattle.change.proofs.Change.renewed.Kinds as reneweds
use Rattle.change.proofs.Change.renewed.Reads as renewed
use Rattle.change.proofs.Change.delivering.Kinds as deliverings
use Rattle.change.proofs.Change.delivering.Reads as delivering
use Rattle.change.proofs.Change.ending.Kinds as endings
use Rattle.change.proofs.Change.ending.Reads as ending
use Rattle.change.proofs.Change.failing.Kinds as failings
use Rattle.change.proofs.Change.failing.Reads as failing
use Rattle.change.proofs.Change.restarting.Kinds as restartings
use Rattle.change.proofs.Change.restarting.Reads as restarting
use Rattle.change.proofs.Change.queueing.Kinds as queueings
use Rattle.change.proofs.Change.queueing.Reads as queueing
use Rattle.change.proofs.Change.turned_away.Kinds as turned-aways
use Rattle.change.proofs.Change.turned_away.Reads as turned-away
use Rattle.change.proofs.Change.called.Kinds as calleds
use Rattle.change.proofs.Change.called.Reads as called
use Rattle.change.proofs.Change.copying.Kinds as copyings
use Rattle.change.proofs.Change.copying.Reads as copying
use Rattle.change.proofs.Change.ticking.Kinds as tickings
use Rattle.change.proofs.Change.ticking.Reads as ticking
use Rattle.change.proofs.Change.stopping.Kinds as stoppings
use Rattle.change.proofs.Change.stopping.Reads as stopping
use Rattle.change.proofs.Change.answer.Kinds as answers
use Rattle.change.proofs.Change.answer.Reads as answer

pub told_one : OneAnswer 0 tolds.ps tolds.r told.Post
told_one κs a x y s t p q = p ∙ sym q

pub quiet_one : OneAnswer 0 quiets.ps quiets.r quiet.Post
quiet_one κs a x y s t p q = p ∙ sym q

pub renewed_one : OneAnswer 0 reneweds.ps reneweds.r renewed.Post
renewed_one κs a x y s t p q = p ∙ sym q

pub delivering_one : OneAnswer 0 deliverings.ps deliverings.r delivering.Post
delivering_one κs a x y s t p q = p ∙ sym q

pub ending_one : OneAnswer 0 endings.ps endings.r ending.Post
ending_one κs a x y s t p q = p ∙ sym q

pub failing_one : OneAnswer 0 failings.ps failings.r failing.Post
failing_one κs a x y s t p q = p ∙ sym q

pub restarting_one : OneAnswer 0 restartings.ps restartings.r restarting.Post
restarting_one κs a x y s t p q = p ∙ sym q

pub queueing_one : OneAnswer 0 queueings.ps queueings.r queueing.Post
queueing_one κs a x y s t p q = p ∙ sym q

pub turned_away_one : OneAnswer 0 turned-aways.ps turned-aways.r turned-away.Post
turned_away_one κs a x y s t p q = p ∙ sym q

pub called_one : OneAnswer 0 calleds.ps calleds.r called.Post
called_one κs a x y s t p q = p ∙ sym q

pub ticking_one : OneAnswer 0 tickings.ps tickings.r ticking.Post
ticking_one κs a x y s t p q = p ∙ sym q

pub stopping_one : OneAnswer 0 stoppings.ps stoppings.r stopping.Post
stopping_one κs a x y s t p q = p ∙ sym q

pub answer_one : OneAnswer 0 answers.ps answers.r answer.Post
answer_one κs a x y s t p q = p ∙ sym q

pub copying_one : OneAnswer 0 copyings.ps copyings.r copying.Post
copying_one κs a x y s t p q = p ∙ sym q
