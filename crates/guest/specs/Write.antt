-- What a Write stores (D21), by the offsets F1 to F10.
use Rattle.std.specs.Prelude.{ℕ, ◌%◌, Bool, ◌==◌, nat_le}
use Rattle.basis.specs.Choice.{both, pick}
use Rattle.guest.specs.Record.{with_status}
use Rattle.guest.specs.declared.Status.{Status}
use Rattle.guest.specs.declared.Vm.{Vm}

-- F1 to F10: 0, 4, 8, .. 36
unfoldable pub is_field : ℕ → Bool
is_field offset = both (offset % 4 == 0) (nat_le offset 36)

-- D21, F1 to F10: the field with that offset takes the value
unfoldable pub stored : ℕ → ℕ → Status → Status
stored offset x s =
    record {
      since = pick (offset == 0) x s.since;
      left = pick (offset == 4) x s.left;
      enabled = pick (offset == 8) x s.enabled;
      pending = pick (offset == 12) x s.pending;
      resume = pick (offset == 16) x s.resume;
      reason = pick (offset == 20) x s.reason;
      previous = pick (offset == 24) x s.previous;
      restore = pick (offset == 28) x s.restore;
      ontick = pick (offset == 32) x s.ontick;
      running = pick (offset == 36) x s.running;
    }

-- D21; the counts are out of reach (T4)
unfoldable pub write : ℕ → ℕ → Vm → Vm
write offset x v = with_status v (stored offset x v.status)
