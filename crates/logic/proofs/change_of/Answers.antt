-- Each event by its own change.
use Rattle.logic.specs.Changing.{change_from}
use Rattle.logic.proofs.change_of.Goals as goal

pub returns-in-Start : goal.returns-in-Start
unfolding change_from
returns-in-Start c = rw c.in-Start.is c.renewed.ensures

pub returns-in-Tick : goal.returns-in-Tick
unfolding change_from
returns-in-Tick c = rw c.in-Tick.is c.ticking.ensures

pub returns-in-Stop : goal.returns-in-Stop
unfolding change_from
returns-in-Stop c = rw c.in-Stop.is c.stopping.ensures

pub returns-in-Shutdown : goal.returns-in-Shutdown
unfolding change_from
returns-in-Shutdown c = rw (c.in-Shutdown.is, ← c.pended.ensures) c.renewed-in-Shutdown.ensures

pub returns-in-Restart : goal.returns-in-Restart
unfolding change_from
returns-in-Restart c = rw c.in-Restart.is c.restarting.ensures

pub returns-in-Extra : goal.returns-in-Extra
unfolding change_from
returns-in-Extra c = rw c.in-Extra.is c.queueing.ensures

pub returns-in-Call : goal.returns-in-Call
unfolding change_from
returns-in-Call c = rw (c.in-Call.is, ← c.saved.ensures) c.called.ensures

pub returns-in-Write : goal.returns-in-Write
unfolding change_from
returns-in-Write c = rw (c.in-Write.is, ← c.written.ensures) c.renewed-in-Write.ensures

pub returns-in-Fault : goal.returns-in-Fault
unfolding change_from
returns-in-Fault c = rw c.in-Fault.is c.failing.ensures

pub returns-in-Copy : goal.returns-in-Copy
unfolding change_from
returns-in-Copy c = rw c.in-Copy.is c.renewed-in-Copy.ensures
