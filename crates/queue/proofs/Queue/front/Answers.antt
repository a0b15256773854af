-- The first of the entries.
use Rattle.queue.proofs.Meaning.{front_at}
use Rattle.queue.proofs.Queue.front.Goals as goal

pub returns : goal.returns
returns c = rw (← c.entries.ensures) (front_at c.entries.result.now c.at.result c.at.ensures)
