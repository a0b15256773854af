-- Two stores and a number behind them.
use Rattle.image_writer.proofs.Puts.{slot_put}
use Rattle.image_writer.proofs.writer.put_slot.Goals as goal

pub returns : goal.returns
returns c = slot_put _ _ _ _ _ c.put_half.ensures
