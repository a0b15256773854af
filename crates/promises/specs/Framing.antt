-- Second demand: what Start, Restart and Write make of a VM record, and that what no rule names stays as it was.
use Rattle.std.specs.Prelude.{ℕ, ◌<◌, eqb, leb, Bool, false, not, true, List, ◌≡◌}
use Rattle.basis.specs.Choice.{both, either}
use Rattle.config.specs.Sizes.{entry_at}
use Rattle.config.specs.declared.Config.{Config}
use Rattle.rig_core.specs.State.{vm_at}
use Rattle.event.specs.declared.Event.TheVariants.{Call, Copy, Extra, Fault, Restart, Shutdown, Start, Stop, Tick, Write}
use Rattle.event.specs.declared.Event.{Event}
use Rattle.guest.specs.declared.Status.{Status}
use Rattle.guest.specs.declared.Vm.{Vm}
use Rattle.history.specs.History.{AtEachEvent, Behaviour, Moment, went}
use Rattle.history.specs.Moments.{begins, runs}

-- ---- Start and Restart

-- D1: ready at its entry, with ten fields and both counts zero
abbrev pub begun_at : ℕ → Vm
begun_at entry =
    record {
      standing = 1;
      address = entry;
      status = record { since = 0; left = 0; enabled = 0; pending = 0; resume = 0; reason = 0; previous = 0; restore = 0; ontick = 0; running = 0 };
      age = 0;
      ran = 0;
    }

-- D1, D18: an accepted Start makes every VM so, and an accepted Restart the one that it names
abbrev pub StartsOf : Config → List Moment → Moment → Type 0
StartsOf g ms m = (v : ℕ) → v < g.count → begins v m ≡ true → vm_at m.after v ≡ begun_at (entry_at g v)

abbrev pub Starts : Behaviour → Type 0
Starts = AtEachEvent StartsOf

-- ---- the ten fields

pub data Field : Type 0 where
  Since Left Enabled Pending Resume Reason Previous Restore OnTick Running : Field

-- F1 to F10
abbrev pub offset_of : Field → ℕ
offset_of Since = 0
offset_of Left = 4
offset_of Enabled = 8
offset_of Pending = 12
offset_of Resume = 16
offset_of Reason = 20
offset_of Previous = 24
offset_of Restore = 28
offset_of OnTick = 32
offset_of Running = 36

abbrev pub value_of : Field → Status → ℕ
value_of Since s = s.since
value_of Left s = s.left
value_of Enabled s = s.enabled
value_of Pending s = s.pending
value_of Resume s = s.resume
value_of Reason s = s.reason
value_of Previous s = s.previous
value_of Restore s = s.restore
value_of OnTick s = s.ontick
value_of Running s = s.running

abbrev pub is_field : Field → Field → Bool
is_field f h = eqb (offset_of f) (offset_of h)

-- ---- Write

-- D21: the value stands in its field of the VM that runs
abbrev pub StoresOf : Config → List Moment → Moment → Type 0
StoresOf g ms m = (o x : ℕ) → m.event ≡ Write o x → went m ≡ true → (f : Field) → o ≡ offset_of f → value_of f (vm_at m.after m.before.running).status ≡ x

abbrev pub Stores : Behaviour → Type 0
Stores = AtEachEvent StoresOf

-- ---- what an event names

-- D8: of the VM that a tick runs
abbrev pub of_tick : Field → Bool
of_tick Since = true
of_tick Left = true
of_tick Enabled = false
of_tick Pending = true
of_tick Resume = false
of_tick Reason = false
of_tick Previous = false
of_tick Restore = false
of_tick OnTick = false
of_tick Running = true

-- D12: of the VM that something is delivered to
abbrev pub of_delivery : Field → Bool
of_delivery Since = false
of_delivery Left = false
of_delivery Enabled = true
of_delivery Pending = true
of_delivery Resume = true
of_delivery Reason = true
of_delivery Previous = true
of_delivery Restore = false
of_delivery OnTick = false
of_delivery Running = false

abbrev pub delivers : Moment → Bool
delivers m = not (eqb m.answer.delivered 255)

-- D26, D27: of the VM that calls, delivery apart: return takes the enabled ones back, inject makes one pending
abbrev pub of_call : ℕ → ℕ → Field → Bool
of_call s n f = either (both (eqb s 1) (is_field f Enabled)) (both (eqb s 2) (both (leb n 31) (is_field f Pending)))

-- the fields of v that an accepted event names
abbrev pub names_by : ℕ → Moment → Event → Field → Bool
names_by v m Start f = true
names_by v m (Tick at) f = both (runs v m) (either (of_tick f) (both (of_delivery f) (delivers m)))
names_by v m (Stop w) f = false
names_by v m (Shutdown w) f = both (eqb w v) (is_field f Pending)
names_by v m (Restart w) f = eqb w v
names_by v m (Extra w) f = false
names_by v m (Call s n at) f = both (eqb m.before.running v) (either (of_call s n f) (both (of_delivery f) (delivers m)))
names_by v m (Write o x) f = both (eqb m.before.running v) (eqb o (offset_of f))
names_by v m (Fault k d) f = false
names_by v m (Copy p w) f = false

-- the events that name the run address of v
abbrev pub moves_by : ℕ → Moment → Event → Bool
moves_by v m Start = true
moves_by v m (Tick at) = either (runs v m) (eqb m.before.running v)
moves_by v m (Stop w) = false
moves_by v m (Shutdown w) = false
moves_by v m (Restart w) = eqb w v
moves_by v m (Extra w) = false
moves_by v m (Call s n at) = eqb m.before.running v
moves_by v m (Write o x) = false
moves_by v m (Fault k d) = false
moves_by v m (Copy p w) = eqb m.before.running v

-- D9, D16, D17, D22: no field and no address moves that an accepted event does not name
pub record FrameOf (g : Config) (ms : List Moment) (m : Moment) : Type 0 where
  pub fields : went m ≡ true → (v : ℕ) → v < g.count → (f : Field) → names_by v m m.event f ≡ false → value_of f (vm_at m.after v).status ≡ value_of f (vm_at m.before v).status
  pub address : went m ≡ true → (v : ℕ) → v < g.count → moves_by v m m.event ≡ false → (vm_at m.after v).address ≡ (vm_at m.before v).address

abbrev pub Framed : Behaviour → Type 0
Framed = AtEachEvent FrameOf
