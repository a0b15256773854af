-- Four runs, one behind the other.
use Rattle.image_writer.proofs.Puts.{records_put}
use Rattle.image_writer.proofs.put_records.Goals as goal

pub returns : goal.returns
returns c = records_put c.args.c.now _ _ _ _ _ c.put_core.ensures c.put_vms.ensures c.put_regions.ensures c.put_slots.ensures
