-- The bytes of a record are what is written for its numbers.
use Prim.Native.Nat.{ℕ, ◌≤◌}
use lib.ListN.{drop, get_or, length}
use mathlib.Core.List.{List, [], ◌++◌, ◌∷◌}
use mathlib.Core.Path.{ap, refl, sym, ◌∙◌, ◌≡◌}
use native.Mathlib.Omega.{arith}
use Rattle.basis.proofs.Digits.{half_apart, word_apart}
use Rattle.basis.specs.Numbers.{Bytes, half, word, word_bytes}
use Rattle.image_writer.specs.Writer.{region_bytes, slot_bytes, vm_bytes}

-- bytes with a front of known length
pub front_one : (bs : List ℕ) → length bs ≡ 1 → bs ≡ get_or bs 0 0 ∷ []
front_one [] h = absurd (omega arith)
front_one (a ∷ []) h = refl
front_one (a ∷ b ∷ bs) h = absurd (omega arith)

pub front_three : (bs : List ℕ) → 3 ≤ length bs → bs ≡ get_or bs 0 0 ∷ get_or bs 1 0 ∷ get_or bs 2 0 ∷ drop 3 bs
front_three [] h = absurd (omega arith)
front_three (a ∷ []) h = absurd (omega arith)
front_three (a ∷ b ∷ []) h = absurd (omega arith)
front_three (a ∷ b ∷ c ∷ bs) h = refl

front_four : (bs : List ℕ) → 4 ≤ length bs → bs ≡ get_or bs 0 0 ∷ get_or bs 1 0 ∷ get_or bs 2 0 ∷ get_or bs 3 0 ∷ drop 4 bs
front_four [] h = absurd (omega arith)
front_four (a ∷ bs) h = ap (λ (x : List ℕ). a ∷ x) (front_three bs (omega arith))

front_nine : (bs : List ℕ) → 9 ≤ length bs
    → bs ≡ get_or bs 0 0 ∷ get_or bs 1 0 ∷ get_or bs 2 0 ∷ get_or bs 3 0 ∷ get_or bs 4 0 ∷ get_or bs 5 0 ∷ get_or bs 6 0 ∷ get_or bs 7 0 ∷ get_or bs 8 0 ∷ drop 9 bs
front_nine [] h = absurd (omega arith)
front_nine (a ∷ []) h = absurd (omega arith)
front_nine (a ∷ b ∷ []) h = absurd (omega arith)
front_nine (a ∷ b ∷ c ∷ []) h = absurd (omega arith)
front_nine (a ∷ b ∷ c ∷ d ∷ []) h = absurd (omega arith)
front_nine (a ∷ b ∷ c ∷ d ∷ e ∷ bs) h = ap (λ (x : List ℕ). a ∷ b ∷ c ∷ d ∷ e ∷ x) (front_four bs (omega arith))

front_eleven : (bs : List ℕ) → 11 ≤ length bs
    → bs ≡ get_or bs 0 0 ∷ get_or bs 1 0 ∷ get_or bs 2 0 ∷ get_or bs 3 0 ∷ get_or bs 4 0 ∷ get_or bs 5 0 ∷ get_or bs 6 0 ∷ get_or bs 7 0 ∷ get_or bs 8 0 ∷ get_or bs 9 0 ∷ get_or bs 10 0 ∷ drop 11 bs
front_eleven [] h = absurd (omega arith)
front_eleven (a ∷ []) h = absurd (omega arith)
front_eleven (a ∷ b ∷ bs) h = ap (λ (x : List ℕ). a ∷ b ∷ x) (front_nine bs (omega arith))

-- I4: a record's bytes are what is written for its numbers
pub slot_text : (bs : List ℕ) → Bytes bs → get_or bs 0 0 ≡ 3 → 4 ≤ length bs → bs ≡ slot_bytes (get_or bs 1 0) (half bs 2) ++ drop 4 bs
slot_text bs y k h =
    front_four bs h
    ∙ ap (λ (x : ℕ). x ∷ get_or bs 1 0 ∷ get_or bs 2 0 ∷ get_or bs 3 0 ∷ drop 4 bs) k
    ∙ ap (λ (x : List ℕ). 3 ∷ get_or bs 1 0 ∷ (x ++ drop 4 bs)) (sym (half_apart (get_or bs 2 0) (get_or bs 3 0) (y 2) (y 3)))

-- I15
pub region_text : (bs : List ℕ) → Bytes bs → get_or bs 0 0 ≡ 5 → 11 ≤ length bs → bs ≡ region_bytes (get_or bs 1 0) (get_or bs 2 0) (word bs 3) (word bs 7) ++ drop 11 bs
region_text bs y k h =
    front_eleven bs h
    ∙ ap (λ (x : ℕ). x ∷ get_or bs 1 0 ∷ get_or bs 2 0 ∷ get_or bs 3 0 ∷ get_or bs 4 0 ∷ get_or bs 5 0 ∷ get_or bs 6 0 ∷ get_or bs 7 0 ∷ get_or bs 8 0 ∷ get_or bs 9 0 ∷ get_or bs 10 0 ∷ drop 11 bs) k
    ∙ ap (λ (x : List ℕ). 5 ∷ get_or bs 1 0 ∷ get_or bs 2 0 ∷ (x ++ (get_or bs 7 0 ∷ get_or bs 8 0 ∷ get_or bs 9 0 ∷ get_or bs 10 0 ∷ drop 11 bs)))
    (sym (word_apart (get_or bs 3 0) (get_or bs 4 0) (get_or bs 5 0) (get_or bs 6 0) (y 3) (y 4) (y 5) (y 6)))
    ∙ ap (λ (x : List ℕ). 5 ∷ get_or bs 1 0 ∷ get_or bs 2 0 ∷ (word_bytes (word bs 3) ++ (x ++ drop 11 bs)))
    (sym (word_apart (get_or bs 7 0) (get_or bs 8 0) (get_or bs 9 0) (get_or bs 10 0) (y 7) (y 8) (y 9) (y 10)))

-- I3
pub vm_text : (bs : List ℕ) → Bytes bs → get_or bs 0 0 ≡ 2 → 9 ≤ length bs → bs ≡ vm_bytes (word bs 1) (word bs 5) ++ drop 9 bs
vm_text bs y k h =
    front_nine bs h
    ∙ ap (λ (x : ℕ). x ∷ get_or bs 1 0 ∷ get_or bs 2 0 ∷ get_or bs 3 0 ∷ get_or bs 4 0 ∷ get_or bs 5 0 ∷ get_or bs 6 0 ∷ get_or bs 7 0 ∷ get_or bs 8 0 ∷ drop 9 bs) k
    ∙ ap (λ (x : List ℕ). 2 ∷ (x ++ (get_or bs 5 0 ∷ get_or bs 6 0 ∷ get_or bs 7 0 ∷ get_or bs 8 0 ∷ drop 9 bs)))
    (sym (word_apart (get_or bs 1 0) (get_or bs 2 0) (get_or bs 3 0) (get_or bs 4 0) (y 1) (y 2) (y 3) (y 4)))
    ∙ ap (λ (x : List ℕ). 2 ∷ (word_bytes (word bs 1) ++ (x ++ drop 9 bs)))
    (sym (word_apart (get_or bs 5 0) (get_or bs 6 0) (get_or bs 7 0) (get_or bs 8 0) (y 5) (y 6) (y 7) (y 8)))
