-- What both round trips through the code give.
use Prim.Native.Nat.{ℕ, ◌≤◌}
use borrow.Author.Tests.{eq-eqb, ne_eqb}
use lib.Dec.{ltb}
use lib.ListN.{drop, length, length-append, take}
use lib.Seq.{length-take-le, take_at}
use mathlib.Core.Bool.{Bool, false, true}
use mathlib.Core.List.{List, ◌++◌}
use mathlib.Core.Path.{ap, refl, sym, ◌∙◌, ◌≡◌}
use native.Mathlib.Omega.{arith}
use Rattle.basis.specs.Choice.{pick}
use Rattle.basis.specs.Numbers.{Bytes}
use Rattle.config.specs.Ranges.{Typed}
use Rattle.config.specs.Sizes.{legal}
use Rattle.config.specs.declared.Config.{Config}
use Rattle.image_laws.proofs.Theorems.{image_read, read_image_lem, read_legal, read_whole}
use Rattle.image_laws.specs.Trips.{copy_answer, copy_buffer, returned}
use Rattle.image_reader.specs.Reader.{accepted, read_image, refused}
use Rattle.image_reader.specs.Reading.{Reading}
use Rattle.image_writer.specs.Writer.{answer_for, buffer_after, image, unwritten}
use Rattle.image_writer.specs.Written.{Written}

-- an image that is read and written again
pub copy_bad : (s b : List ℕ) (r : Reading) → r ≡ read_image s → (r.fault ≡ 0 → ⊥) → (unwritten r.fault ≡ copy_answer s (length b)) × (b ≡ copy_buffer s b)
unfolding copy_answer copy_buffer
copy_bad s b r e h = rw (← e, ne_eqb r.fault 0 h) (refl, refl)

pub copy_good : (s b b' : List ℕ) (r : Reading) (w : Written) → Bytes s → r ≡ read_image s → r.fault ≡ 0 → w ≡ answer_for r.config (length b) → b' ≡ buffer_after r.config b
    → (w ≡ copy_answer s (length b)) × (b' ≡ copy_buffer s b)
unfolding copy_answer copy_buffer answer_for buffer_after
copy_good s b b' r w y e h f g =
    let z : (read_image s).fault ≡ 0 = ap (λ (x : Reading). x.fault) (sym e) ∙ h in
    let i : read_image s ≡ accepted r.config = read_whole s z ∙ ap (λ (x : Reading). accepted x.config) (sym e) in
    let l = read_legal s r.config y i in
    let m = read_image_lem s r.config y i in
    (rw (eq-eqb (read_image s).fault 0 z) (rw (l, m) at f), rw (eq-eqb (read_image s).fault 0 z) (rw (l, m) at g))

-- a configuration that is written and read again
written_way : (x y : Bool) (n : ℕ) (w : Written) → w ≡ pick x (pick y (unwritten 30) (record { refusal = 0; size = n })) (unwritten 31) → w.refusal ≡ 0
    → (x ≡ true) × (y ≡ false) × (w.size ≡ n)
written_way true true n w e h = absurd (omega (arith, ap (λ (v : Written). v.refusal) e))
written_way true false n w e h = (refl, refl, ap (λ (v : Written). v.size) e)
written_way false y n w e h = absurd (omega (arith, ap (λ (v : Written). v.refusal) e))

written_is : (c : Config) (n : ℕ) (w : Written) → w ≡ answer_for c n → w.refusal ≡ 0 → (legal c ≡ true) × (ltb n (length (image c)) ≡ false) × (w.size ≡ length (image c))
unfolding answer_for
written_is c n w e h = written_way (legal c) (ltb n (length (image c))) (length (image c)) w e h

buffer_is : (c : Config) (b b' : List ℕ) (w : Written) → w ≡ answer_for c (length b) → w.refusal ≡ 0 → b' ≡ buffer_after c b → b' ≡ image c ++ drop (length (image c)) b
unfolding buffer_after
buffer_is c b b' w e h f = let i = written_is c (length b) w e h in rw (i.0, i.1) at f

pub size_in : (c : Config) (b b' : List ℕ) (w : Written) → w ≡ answer_for c (length b) → w.refusal ≡ 0 → b' ≡ buffer_after c b → w.size ≤ length b'
size_in c b b' w e h f =
    let i = written_is c (length b) w e h in
    let j = buffer_is c b b' w e h f in
    rw j (omega (arith, i.2, length-append (image c) (drop (length (image c)) b)))

pub size_taken : (c : Config) (b b' : List ℕ) (w : Written) → w ≡ answer_for c (length b) → w.refusal ≡ 0 → b' ≡ buffer_after c b → w.size ≡ length (take w.size b')
size_taken c b b' w e h f = sym (length-take-le w.size b' (size_in c b b' w e h f))

pub return_bad : (c : Config) (n : ℕ) (w : Written) (r : Reading) → w ≡ answer_for c n → (w.refusal ≡ 0 → ⊥) → r ≡ refused w.refusal 0 → r ≡ returned c n
unfolding answer_for returned
return_bad c n w r e h f = go (legal c) (ltb n (length (image c))) e
  where
    go : (x y : Bool) → w ≡ pick x (pick y (unwritten 30) (record { refusal = 0; size = length (image c) })) (unwritten 31)
        → r ≡ pick x (pick y (refused 30 0) (accepted c)) (refused 31 0)
    go true true z = f ∙ ap (λ (v : Written). refused v.refusal 0) z
    go true false z = absurd (h (ap (λ (v : Written). v.refusal) z))
    go false y z = f ∙ ap (λ (v : Written). refused v.refusal 0) z

-- what was written is read as what it was written from
pub return_read : (c : Config) (b b' : List ℕ) (w : Written) → Typed c → w ≡ answer_for c (length b) → w.refusal ≡ 0 → b' ≡ buffer_after c b → read_image (take w.size b') ≡ accepted c
return_read c b b' w t e h f =
    let i = written_is c (length b) w e h in
    let j = buffer_is c b b' w e h f in
    let k : take w.size b' ≡ image c = ap (take w.size) j ∙ take_at (image c) (drop (length (image c)) b) w.size (sym i.2) in
    ap read_image k ∙ image_read c t i.0

pub return_good : (c : Config) (b b' : List ℕ) (w : Written) (r : Reading) → Typed c → w ≡ answer_for c (length b) → w.refusal ≡ 0 → b' ≡ buffer_after c b → r ≡ read_image (take w.size b')
    → r ≡ returned c (length b)
unfolding returned
return_good c b b' w r t e h f g =
    let i = written_is c (length b) w e h in
    rw (i.0, i.1) (g ∙ return_read c b b' w t e h f)
