-- The two tests of the code are those of the definition.
use borrow.Author.Rules.{rules}
use Rattle.image_reader.proofs.Turns.{end_follows, end_unserved, end_whole}
use Rattle.image_reader.proofs.reader.read_end.Goals as goal

pub returns-then-not-serves_all : goal.returns-then-not-serves_all
returns-then-not-serves_all c = search (rules, end_unserved)

pub returns-then-rest-ne1 : goal.returns-then-rest-ne1
returns-then-rest-ne1 c = search (rules, end_follows)

pub returns : goal.returns
returns c = search (rules, end_whole)
