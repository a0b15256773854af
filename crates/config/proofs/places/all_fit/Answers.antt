-- The two walks, the VMs served and the VM places joined are the definition (`fit_law`, `unfit_law`).
use Rattle.std.proofs.Common.{arith}
use Rattle.config.proofs.Walks.{fit_law, owned_law, unfit_law}
use Rattle.config.proofs.places.all_fit.Goals as goal

pub vms_served-served-requires : goal.vms_served-served-requires
vms_served-served-requires c = (omega arith, omega arith, owned_law _ _ c.args.owners.now c.args.durations.now _ (omega arith) c.slots_fit.ensures c.if-slots_fit.true)

pub returns-then-slots_fit : goal.returns-then-slots_fit
returns-then-slots_fit c = fit_law _ _ _ c.args.durations.now _ _ _ _ _ _ (omega arith) c.slots_fit.ensures c.if-slots_fit.true c.vms_served-served.ensures c.vms_rest-vms.ensures c.both.ensures

pub returns : goal.returns
returns c = unfit_law _ _ _ _ _ _ _ c.slots_fit.ensures c.if-slots_fit.false
