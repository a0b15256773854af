-- A VM record, and what the rules change in it, one part at a time.
use Rattle.std.specs.Prelude.{ℕ, ◌+◌, ◌%◌, ◌^◌, Bool, ◌==◌, nat_le}
use Rattle.basis.specs.Choice.{both, pick}
use Rattle.guest.specs.Bits.{set_bit}
use Rattle.guest.specs.declared.Status.{Status}
use Rattle.guest.specs.declared.Vm.{Vm}

-- T3, N9: the standings, as numbers; the first is that of a VM that was never started
abbrev pub no_standing : ℕ
no_standing = 0

abbrev pub ready_standing : ℕ
ready_standing = 1

abbrev pub stopped_standing : ℕ
stopped_standing = 2

abbrev pub down_standing : ℕ
down_standing = 3

abbrev pub error_standing : ℕ
error_standing = 4

-- W12: no number over it is a standing
abbrev pub last_standing : ℕ
last_standing = error_standing

abbrev pub blank : Status
blank = record { since = 0; left = 0; enabled = 0; pending = 0; resume = 0; reason = 0; previous = 0; restore = 0; ontick = 0; running = 0 }

-- T6: a VM record of a fresh state
abbrev pub fresh : Vm
fresh = record { standing = no_standing; address = 0; status = blank; age = 0; ran = 0 }

-- D1: ready at its entry, fields and counts zero
abbrev pub started_at : ℕ → Vm
started_at entry = record { standing = ready_standing; address = entry; status = blank; age = 0; ran = 0 }

-- T3
abbrev pub is_ready : Vm → Bool
is_ready v = v.standing == ready_standing

-- W12, of one record
abbrev pub standing_known : Vm → Bool
standing_known v = nat_le v.standing last_standing

unfoldable pub is_blank : Status → Bool
is_blank s =
    both (s.since == 0)
    (both (s.left == 0)
    (both (s.enabled == 0)
    (both (s.pending == 0)
    (both (s.resume == 0)
    (both (s.reason == 0)
    (both (s.previous == 0)
    (both (s.restore == 0)
    (both (s.ontick == 0)
    (s.running == 0)))))))))

-- W2: every number of the record is zero
unfoldable pub is_fresh : Vm → Bool
is_fresh v =
    both (v.standing == no_standing)
    (both (v.address == 0)
    (both (is_blank v.status)
    (both (v.age == 0)
    (v.ran == 0))))

-- D3, D24: the address given is where the VM goes on
abbrev pub saved_at : ℕ → Vm → Vm
saved_at at v = record { standing = v.standing; address = at; status = v.status; age = v.age; ran = v.ran }

-- T4, D4: one tick older, modulo 2 ^ 32
abbrev pub older : Vm → Vm
older v = record { standing = v.standing; address = v.address; status = v.status; age = (v.age + 1) % 2 ^ 32; ran = v.ran }

-- D14, D16: the standing, and nothing else
abbrev pub ended_as : ℕ → Vm → Vm
ended_as standing v = record { standing = standing; address = v.address; status = v.status; age = v.age; ran = v.ran }

abbrev pub with_status : Vm → Status → Vm
with_status v s = record { standing = v.standing; address = v.address; status = s; age = v.age; ran = v.ran }

abbrev pub with_pending : Status → ℕ → Status
with_pending s x =
    record {
      since = s.since;
      left = s.left;
      enabled = s.enabled;
      pending = x;
      resume = s.resume;
      reason = s.reason;
      previous = s.previous;
      restore = s.restore;
      ontick = s.ontick;
      running = s.running;
    }

-- D17, D27: pseudo-interrupt n becomes pending; there is none over 31
unfoldable pub pend : ℕ → Vm → Vm
pend n v = pick (nat_le n 31) (with_status v (with_pending v.status (set_bit n v.status.pending))) v
