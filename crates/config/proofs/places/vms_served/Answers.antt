-- Modulo 64 the numbers of a short table are the VMs, since S5 holds.
use Rattle.std.proofs.Common.{arith}
use Rattle.config.proofs.Walks.{exact_law}
use Rattle.config.proofs.places.vms_served.Goals as goal

pub returns-then-slots-le16 : goal.returns-then-slots-le16
returns-then-slots-le16 c = exact_law _ _ c.args.owners.now _ (omega arith) c.requires.2 c.served_short.ensures
