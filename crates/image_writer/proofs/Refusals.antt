-- The numbers of the refusals: neither is 0, and they differ, so an answer says which result it is of.
use Prim.Native.Nat.{ℕ}
use mathlib.Core.Path.{ap, refl, sym, ◌≡◌}
use native.Mathlib.Omega.{arith}
use Rattle.std.specs.Prelude.{Result, Ok, Err}
use Rattle.image_writer.specs.Refusals.{refusal_number}
use Rattle.image_writer.specs.Writer.{written_of}
use Rattle.image_writer.specs.Written.{Written}
use Rattle.image_writer.specs.declared.Unwritten.{Unwritten}
use Rattle.image_writer.specs.declared.Unwritten.TheVariants.{Short, Illegal}

pub refusal_some : (u : Unwritten) → refusal_number u ≡ 0 → ⊥
refusal_some Short e = omega arith
refusal_some Illegal e = omega arith

pub refusal_once : (u v : Unwritten) → refusal_number u ≡ refusal_number v → u ≡ v
refusal_once Short Short e = refl
refusal_once Short Illegal e = absurd (omega arith)
refusal_once Illegal Short e = absurd (omega arith)
refusal_once Illegal Illegal e = refl

pub written_once : (x y : Result ℕ Unwritten) → written_of x ≡ written_of y → x ≡ y
written_once (Ok m) (Ok n) e = ap Ok (ap (λ (w : Written). w.size) e)
written_once (Ok m) (Err v) e = absurd (refusal_some v (sym (ap (λ (w : Written). w.refusal) e)))
written_once (Err u) (Ok n) e = absurd (refusal_some u (ap (λ (w : Written). w.refusal) e))
written_once (Err u) (Err v) e = ap Err (refusal_once u v (ap (λ (w : Written). w.refusal) e))
