-- No two refusals of a round trip have one number, so an answer says which result it is of.
use Prim.Native.Nat.{ℕ}
use mathlib.Core.Path.{ap, refl, sym, ◌∙◌, ◌≡◌}
use native.Mathlib.Omega.{arith}
use Rattle.std.specs.Prelude.{Result, Ok, Err}
use Rattle.config.specs.declared.Config.{Config}
use Rattle.image_laws.specs.Returned.{number_of, read_again, written_again}
use Rattle.image_laws.specs.declared.refusal.Refusal.{Refusal}
use Rattle.image_laws.specs.declared.refusal.Refusal.TheVariants.{Unread, Unwritten}
use Rattle.image_reader.proofs.Faults.{fault_once, fault_some}
use Rattle.image_reader.specs.Faults.{fault_number}
use Rattle.image_reader.specs.Reading.{Reading}
use Rattle.image_reader.specs.declared.fault.Fault.{Fault}
use Rattle.image_writer.proofs.Refusals.{refusal_once, refusal_some}
use Rattle.image_writer.specs.Refusals.{refusal_number}
use Rattle.image_writer.specs.Written.{Written}
use Rattle.image_writer.specs.declared.Unwritten as writer

apart : (f : Fault) (u : writer.Unwritten) → fault_number f ≡ refusal_number u → ⊥
apart f u e = grind arith

number_some : (r : Refusal) → number_of r ≡ 0 → ⊥
number_some (Unread f) e = fault_some f e
number_some (Unwritten u) e = refusal_some u e

number_once : (r s : Refusal) → number_of r ≡ number_of s → r ≡ s
number_once (Unread f) (Unread g) e = ap Unread (fault_once f g e)
number_once (Unread f) (Unwritten v) e = absurd (apart f v e)
number_once (Unwritten u) (Unread g) e = absurd (apart g u (sym e))
number_once (Unwritten u) (Unwritten v) e = ap Unwritten (refusal_once u v e)

pub written_again_once : (x y : Result ℕ Refusal) → written_again x ≡ written_again y → x ≡ y
written_again_once (Ok m) (Ok n) e = ap Ok (ap (λ (w : Written). w.size) e)
written_again_once (Ok m) (Err v) e = absurd (number_some v (sym (ap (λ (w : Written). w.refusal) e)))
written_again_once (Err u) (Ok n) e = absurd (number_some u (ap (λ (w : Written). w.refusal) e))
written_again_once (Err u) (Err v) e = ap Err (number_once u v (ap (λ (w : Written). w.refusal) e))

pub read_again_once : (x y : Result Config Refusal) → read_again x ≡ read_again y → x ≡ y
read_again_once (Ok c) (Ok d) e = ap Ok (ap (λ (r : Reading). r.config) e)
read_again_once (Ok c) (Err v) e = absurd (number_some v (sym (ap (λ (r : Reading). r.fault) e)))
read_again_once (Err u) (Ok d) e = absurd (number_some u (ap (λ (r : Reading). r.fault) e))
read_again_once (Err u) (Err v) e = ap Err (number_once u v (ap (λ (r : Reading). r.fault) e))
