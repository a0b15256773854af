-- Ours meets every demand.
use Rattle.rig_core.specs.Events.{step_of}
use Rattle.promises.proofs.Meets.Accounts.{ours_accounts}
use Rattle.promises.proofs.Meets.Answering.{ours_tells}
use Rattle.promises.proofs.Meets.Clocks.{ours_clocks, ours_shows}
use Rattle.promises.proofs.Meets.Delivering.{ours_delivers}
use Rattle.promises.proofs.Meets.Framing.{ours_framed, ours_stores}
use Rattle.promises.proofs.Meets.Refusing.{ours_refuses}
use Rattle.promises.proofs.Meets.Removing.{ours_removing}
use Rattle.promises.proofs.Meets.Running.{ours_runs}
use Rattle.promises.proofs.Meets.Slices.{ours_slices}
use Rattle.promises.proofs.Meets.Starting.{ours_starts, ours_stays_sound}
use Rattle.promises.proofs.Meets.Table.{ours_table}
use Rattle.promises.proofs.Meets.Tracing.{ours_traced}
use Rattle.promises.proofs.Meets.Waiting.{ours_waiting}
use Rattle.promises.specs.Demands.{KeepsAll, Rules}

pub ours_rules : Rules step_of
ours_rules =
    record {
      refuses = ours_refuses;
      stays_sound = ours_stays_sound;
      tells = ours_tells;
      removing = ours_removing;
      table = ours_table;
      clocks = ours_clocks;
      shows = ours_shows;
      delivers = ours_delivers;
      starts = ours_starts;
      traced = ours_traced;
      runs = ours_runs;
      stores = ours_stores;
      framed = ours_framed;
    }

pub ours_keeps_all : KeepsAll step_of
ours_keeps_all = record { rules = ours_rules; slices = ours_slices; waiting = ours_waiting; accounts = ours_accounts }
