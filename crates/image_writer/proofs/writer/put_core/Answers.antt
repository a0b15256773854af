-- Three stores.
use borrow.Author.Rules.{rules}
use Rattle.basis.specs.Buffer.{put_all}
use Rattle.image_writer.proofs.writer.put_core.Goals as goal

pub returns : goal.returns
unfolding put_all
returns c = search rules
