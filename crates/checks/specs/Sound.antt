-- W1 to W13 over the parts of a state: its configuration, clock, running VM, queue and VM records. `sound` of the core says the same of a core.
use Rattle.std.specs.Prelude.{ℕ, eqb, leb, ltb, get_or, Bool, not, List}
use Rattle.basis.specs.Bounds.{within}
use Rattle.basis.specs.Choice.{both, either}
use Rattle.basis.specs.Count.{every}
use Rattle.basis.specs.Nobody.{nobody}
use Rattle.config.specs.Sizes.{duration_at, is_spare, legal, owner_at}
use Rattle.config.specs.declared.Config.{Config}
use Rattle.guest.specs.Record.{fresh, is_ready, standing_known}
use Rattle.guest.specs.declared.Vm.{Vm}
use Rattle.queue.specs.Entries.{counted_of, padded_of}
use Rattle.queue.specs.declared.Queue.{Queue}
use Rattle.table.specs.Position.{has_ticked, is_started}
use Rattle.table.specs.declared.Clock.{Clock}
use Rattle.vms.specs.Records.{rest_fresh}

-- whether VM v is ready
abbrev pub ready_of : List Vm → ℕ → Bool
ready_of vms v = is_ready (get_or vms v fresh)

-- W7: no VM is ready, nothing is queued, nobody runs, no tick was
abbrev pub nothing_from : Clock → ℕ → Queue → List Vm → Bool
nothing_from clock running queue vms =
    both (every (λ k. not (ready_of vms k)) 8) (both (eqb queue.len 0) (both (eqb running nobody) (not (has_ticked clock))))

-- one line for each of W1 to W13; no more is asked (W14)
unfoldable pub sound_from : Config → Clock → ℕ → Queue → List Vm → Bool
sound_from g clock running queue vms =
    both (legal g)
    (both (rest_fresh g.count vms)
    (both (leb queue.len g.room)
    (both (every (λ k. ready_of vms (get_or queue.items k 0)) queue.len)
    (both (padded_of queue)
    (both (either (has_ticked clock) (eqb running nobody))
    (both (either (is_started clock) (nothing_from clock running queue vms))
    (both (either (not (has_ticked clock)) (ltb clock.slot g.slots))
    (both (either (not (has_ticked clock)) (within 1 (duration_at g clock.slot) clock.left))
    (both (either (eqb running nobody) (ready_of vms running))
    (both (either (eqb running nobody) (either (eqb (owner_at g clock.slot) running) (is_spare (owner_at g clock.slot))))
    (both (both (leb clock.started 1) (both (leb clock.ticked 1) (every (λ k. standing_known (get_or vms k fresh)) 8)))
    (counted_of queue))))))))))))
