-- Quietly where the fields share nothing, else by what is due.
use Rattle.std.proofs.Common.{sym, ◌∙◌, arith}
use Rattle.guest.proofs.Laws.{deliver_at, deliver_none, deliver_quietly, due_few}
use Rattle.guest.proofs.Vm.delivered.Goals as goal

pub returns-then-self-eq0 : goal.returns-then-self-eq0
returns-then-self-eq0 c = c.quiet.ensures ∙ deliver_quietly _ _ (omega arith)

pub interrupted-requires : goal.interrupted-requires
interrupted-requires c = due_few _ _ (sym c.in-Some.is ∙ c.due.ensures)

pub returns-in-None : goal.returns-in-None
returns-in-None c = rw c.quiet-in-None.ensures (deliver_none _ _ _ c.due.ensures c.in-None.is)

pub returns-in-Some : goal.returns-in-Some
returns-in-Some c = deliver_at _ _ _ _ _ c.due.ensures c.in-Some.is c.interrupted.ensures
