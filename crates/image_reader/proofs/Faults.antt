-- The numbers of the faults: none is 0, and no two are the same, so a reading says which result it is of.
use Prim.Native.Nat.{ℕ}
use lib.Dec.{eqb}
use mathlib.Core.Path.{ap, refl, sym, ◌∙◌, ◌≡◌}
use native.Mathlib.Omega.{arith}
use Rattle.std.specs.Prelude.{Result, Ok, Err}
use Rattle.basis.specs.Choice.{pick}
use Rattle.config.specs.declared.Config.{Config}
use Rattle.image_reader.specs.Faults.{fault_number}
use Rattle.image_reader.specs.Reader.{reading_of}
use Rattle.image_reader.specs.Reading.{Reading}
use Rattle.image_reader.specs.declared.fault.Fault.{Fault}
use Rattle.image_reader.specs.declared.fault.Fault.TheVariants.{Cut, Kind, Sizes, SlotVm, SpareTicks, NamedTicks, ManySlots, Unserved, Follows, RegionVm, Permission, Backwards, ManyRegions, Overlap}
use Rattle.image_reader.specs.declared.fault.Refused.{Refused}

-- the fault of a number
numbered : ℕ → Fault
numbered n =
    pick (eqb n 20) Cut
    (pick (eqb n 21) Kind
    (pick (eqb n 22) Sizes
    (pick (eqb n 23) SlotVm
    (pick (eqb n 24) SpareTicks
    (pick (eqb n 25) NamedTicks
    (pick (eqb n 26) ManySlots
    (pick (eqb n 27) Unserved
    (pick (eqb n 28) Follows
    (pick (eqb n 32) RegionVm
    (pick (eqb n 33) Permission
    (pick (eqb n 34) Backwards
    (pick (eqb n 35) ManyRegions Overlap))))))))))))

numbered_back : (f : Fault) → numbered (fault_number f) ≡ f
unfolding numbered
numbered_back Cut = refl
numbered_back Kind = refl
numbered_back Sizes = refl
numbered_back SlotVm = refl
numbered_back SpareTicks = refl
numbered_back NamedTicks = refl
numbered_back ManySlots = refl
numbered_back Unserved = refl
numbered_back Follows = refl
numbered_back RegionVm = refl
numbered_back Permission = refl
numbered_back Backwards = refl
numbered_back ManyRegions = refl
numbered_back Overlap = refl

pub fault_some : (f : Fault) → fault_number f ≡ 0 → ⊥
fault_some f e = grind arith

pub fault_once : (f g : Fault) → fault_number f ≡ fault_number g → f ≡ g
fault_once f g e = sym (numbered_back f) ∙ ap numbered e ∙ numbered_back g

pub reading_once : (x y : Result Config Refused) → reading_of x ≡ reading_of y → x ≡ y
reading_once (Ok c) (Ok d) e = ap Ok (ap (λ (r : Reading). r.config) e)
reading_once (Ok c) (Err q) e = absurd (fault_some q.fault (sym (ap (λ (r : Reading). r.fault) e)))
reading_once (Err r) (Ok d) e = absurd (fault_some r.fault (ap (λ (x : Reading). x.fault) e))
reading_once (Err r) (Err q) e =
    let f = fault_once r.fault q.fault (ap (λ (x : Reading). x.fault) e) in
    let o : r.offset ≡ q.offset = ap (λ (x : Reading). x.offset) e in
    ap Err (same r q f o)
  where
    same : (r q : Refused) → r.fault ≡ q.fault → r.offset ≡ q.offset → r ≡ q
    same r q f o = fields r.fault q.fault r.offset q.offset f o
      where
        fields : (a b : Fault) (m n : ℕ) → a ≡ b → m ≡ n → ◌≡◌ {A = Refused} (record { fault = a; offset = m }) (record { fault = b; offset = n })
        fields a b m n f o = rw (f, o)
