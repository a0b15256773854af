-- The VM records of a core as a list of eight; past them stands the fresh record.
use Rattle.std.specs.Prelude.{ℕ, ltb, get_or, set, Bool, List, map}
use Rattle.basis.specs.Choice.{either}
use Rattle.basis.specs.Count.{every, up_to}
use Rattle.guest.specs.Record.{fresh, is_fresh, older, started_at}
use Rattle.guest.specs.declared.Vm.{Vm}

-- record k becomes f k of what it was, for each k below n
unfoldable pub each : (ℕ → Vm → Vm) → ℕ → List Vm → List Vm
each f n l = up_to (λ k w. set w k (f k (get_or w k fresh))) l n

-- D1: every VM ready at its entry
abbrev pub started_all : ℕ → List ℕ → List Vm → List Vm
started_all count entries = each (λ k v. started_at (get_or entries k 0)) count

-- D4: every VM of the configuration one tick older
abbrev pub aged_all : ℕ → List Vm → List Vm
aged_all count = each (λ k v. older v) count

abbrev pub standings_of : List Vm → List ℕ
standings_of l = map (λ (v : Vm). v.standing) l

-- W2: the records past the VM count are as in a fresh state
unfoldable pub rest_fresh : ℕ → List Vm → Bool
rest_fresh count l = every (λ k. either (ltb k count) (is_fresh (get_or l k fresh))) 8
