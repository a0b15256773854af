-- Three stores and two numbers, one behind the other.
use Rattle.image_writer.proofs.Puts.{region_put}
use Rattle.image_writer.proofs.writer.put_region.Goals as goal

pub returns : goal.returns
returns c = region_put _ _ _ _ _ _ _ _ c.put_word.ensures c.put_word-2.ensures
