-- Below the window, past its end, and between.
use borrow.Author.Rules.{rules}
use Rattle.window.proofs.Inside.{inside_far, inside_is, inside_low}
use Rattle.window.proofs.Window.inside.Goals as goal

pub returns-then-address-self : goal.returns-then-address-self
returns-then-address-self c = search (rules, inside_low)

pub returns-then-from-self : goal.returns-then-from-self
returns-then-from-self c = search (rules, inside_is)

pub returns-else-from-self : goal.returns-else-from-self
returns-else-from-self c = search (rules, inside_far)
