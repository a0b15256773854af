-- Delivery of a pseudo-interrupt (D11, D12), the entry into a tick (D8, D9) and the return (D26).
use Rattle.std.specs.Prelude.{ℕ, ◌+◌, ◌%◌, ◌^◌, bit_or, Option, Some, None}
use Rattle.basis.specs.Bits.{bit}
use Rattle.basis.specs.Choice.{both}
use Rattle.guest.specs.Bits.{clear_bit, highest}
use Rattle.guest.specs.declared.Delivery.{Delivery}
use Rattle.guest.specs.declared.Status.{Status}
use Rattle.guest.specs.declared.Vm.{Vm}

-- D11: the highest number that is pending (F4) and enabled (F3)
unfoldable pub due : Status → Option ℕ
due s = highest (λ n. both (bit n s.pending) (bit n s.enabled)) 32

-- D12, the fields (F3 to F7): n is the reason, the others stay pending, all are disabled
abbrev pub status_at : ℕ → ℕ → Status → Status
status_at n at s =
    record {
      since = s.since;
      left = s.left;
      enabled = 0;
      pending = clear_bit n s.pending;
      resume = at;
      reason = n;
      previous = s.enabled;
      restore = s.restore;
      ontick = s.ontick;
      running = s.running;
    }

-- D12: the VM goes on at its handler, and keeps where it was
abbrev pub interrupt : ℕ → ℕ → Vm → Vm
interrupt n handler v =
    record { standing = v.standing; address = handler; status = status_at n v.address v.status; age = v.age; ran = v.ran }

-- D11: nothing is delivered
abbrev pub quiet : Vm → Delivery
quiet v = record { vm = v; number = None }

-- D11, D12, by what is due
abbrev pub deliver_by : ℕ → Vm → Option ℕ → Delivery
deliver_by handler v None = quiet v
deliver_by handler v (Some n) = record { vm = interrupt n handler v; number = Some n }

-- D11 and D12
unfoldable pub deliver : ℕ → Vm → Delivery
deliver handler v = deliver_by handler v (due v.status)

-- D8: three fields (F1, F2, F10) show the core's own numbers, and the bits of ontick (F9) join pending (F4)
abbrev pub status_in : ℕ → ℕ → ℕ → Status → Status
status_in age left ran s =
    record {
      since = age;
      left = left;
      enabled = s.enabled;
      pending = bit_or s.pending s.ontick;
      resume = s.resume;
      reason = s.reason;
      previous = s.previous;
      restore = s.restore;
      ontick = s.ontick;
      running = ran;
    }

-- T4, D8, P11: one tick more that ran it, modulo 2 ^ 32
abbrev pub ran_one : Vm → ℕ
ran_one v = (v.ran + 1) % 2 ^ 32

-- D8
unfoldable pub shown : ℕ → Vm → Vm
shown left v =
    record { standing = v.standing; address = v.address; status = status_in v.age left (ran_one v) v.status; age = v.age; ran = ran_one v }

-- D8, then D9
unfoldable pub enter : ℕ → ℕ → Vm → Delivery
enter left handler v = deliver handler (shown left v)

-- D26, the fields (F3, F7); restore (F8) is not read (G3)
abbrev pub status_back : Status → Status
status_back s =
    record {
      since = s.since;
      left = s.left;
      enabled = s.previous;
      pending = s.pending;
      resume = s.resume;
      reason = s.reason;
      previous = s.previous;
      restore = s.restore;
      ontick = s.ontick;
      running = s.running;
    }

-- D26, without the delivery
abbrev pub back_from : Vm → Vm
back_from v =
    record { standing = v.standing; address = v.status.resume; status = status_back v.status; age = v.age; ran = v.ran }
