-- What a tick does to the VM records (D3, D4, D6 to D9). A number from 8 on is no VM's.
use Rattle.std.specs.Prelude.{ℕ, ltb, get_or, set, List, Option, Some, None}
use Rattle.basis.specs.Choice.{pick}
use Rattle.basis.specs.Nobody.{nobody}
use Rattle.config.specs.Sizes.{is_spare}
use Rattle.guest.specs.Deliver.{enter, quiet}
use Rattle.guest.specs.Record.{fresh, is_ready, saved_at}
use Rattle.guest.specs.declared.Delivery.{Delivery}
use Rattle.guest.specs.declared.Vm.{Vm}
use Rattle.vms.specs.Records.{aged_all}

-- the records after a tick, who runs and where, and what was delivered; NOBODY for none
pub record Turn : Type 0 where
  pub vms : List Vm
  pub who : ℕ
  pub address : ℕ
  pub number : ℕ

-- A3, C8: the pseudo-interrupt's number, if there is one
abbrev pub number_of : Option ℕ → ℕ
number_of None = nobody
number_of (Some n) = n

-- D3: the address given is where the VM that was running goes on
unfoldable pub saving : ℕ → ℕ → List Vm → List Vm
saving running at l = pick (ltb running 8) (set l running (saved_at at (get_or l running fresh))) l

-- D6, D7: a spare slot runs the VM of the oldest entry, a named slot its VM if that is ready
unfoldable pub runner_of : ℕ → ℕ → List Vm → ℕ
runner_of owner head l = pick (is_spare owner) head (pick (is_ready (get_or l owner fresh)) owner nobody)

-- D8, D9: the tick enters the VM that runs
unfoldable pub entering : ℕ → ℕ → List ℕ → List Vm → Delivery
entering who left handlers l = pick (ltb who 8) (enter left (get_or handlers who 0) (get_or l who fresh)) (quiet (get_or l who fresh))

-- the records after the tick, who runs and where, and what was delivered
abbrev pub turn_to : ℕ → Delivery → List Vm → Turn
turn_to who d l = record { vms = set l who d.vm; who = who; address = (get_or (set l who d.vm) who fresh).address; number = number_of d.number }

unfoldable pub turn_by : ℕ → ℕ → List ℕ → List Vm → Turn
turn_by who left handlers l = turn_to who (entering who left handlers l) l

-- D3 and D4
unfoldable pub passed : ℕ → ℕ → ℕ → List Vm → List Vm
passed running at count l = aged_all count (saving running at l)

-- D3, D4, then the VM that runs is chosen and entered (D6 to D9)
unfoldable pub turn : ℕ → ℕ → ℕ → ℕ → ℕ → ℕ → List ℕ → List Vm → Turn
turn running at count owner head left handlers l =
    turn_by (runner_of owner head (passed running at count l)) left handlers (passed running at count l)
