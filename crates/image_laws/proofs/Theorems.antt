-- What holds of every image and of every configuration, read and written by the rules. `Bytes` and `Typed` say only that numbers are of their types.
use Prim.Native.Nat.{ℕ, ◌≤◌}
use borrow.Author.Tests.{le-ltb}
use lib.Dec.{ltb}
use lib.ListN.{drop, length, take}
use mathlib.Core.Bool.{Bool, false, true}
use mathlib.Core.List.{List, ◌++◌}
use mathlib.Core.Path.{ap, refl, sym, ◌∙◌, ◌≡◌}
use native.Mathlib.Omega.{arith}
use Rattle.basis.specs.Choice.{pick}
use Rattle.basis.specs.Numbers.{Bytes}
use Rattle.config.proofs.Legality.{legal_is}
use Rattle.config.specs.Ranges.{Given, Typed}
use Rattle.config.specs.Sizes.{legal}
use Rattle.config.specs.declared.Config.{Config}
use Rattle.image_laws.proofs.Back.{back_bytes, back_legal, back_typed}
use Rattle.image_laws.proofs.Front.{image_front}
use Rattle.image_laws.proofs.Trip.{trip}
use Rattle.image_reader.proofs.Answers.{answer_accepted, answer_refused}
use Rattle.image_reader.specs.Reader.{accepted, no_config, read_image}
use Rattle.image_reader.specs.Reading.{Reading}
use Rattle.image_writer.proofs.Puts.{image_length}
use Rattle.image_writer.specs.Writer.{answer_for, buffer_after, image, unwritten}

-- C6: reading what is written from a legal configuration gives that configuration
pub image_read : (c : Config) → Typed c → legal c ≡ true → read_image (image c) ≡ accepted c
image_read c t e = trip c t e

-- C6: writing what was accepted gives the same bytes
pub read_image_lem : (bs : List ℕ) (c : Config) → Bytes bs → read_image bs ≡ accepted c → image c ≡ bs
read_image_lem bs c y e = back_bytes bs c y e

-- S1 to S7, H1 to H6: what is accepted is legal
pub read_legal : (bs : List ℕ) (c : Config) → Bytes bs → read_image bs ≡ accepted c → legal c ≡ true
read_legal bs c y e = back_legal bs c y e

-- S8: and a value of the struct
pub read_typed : (bs : List ℕ) (c : Config) → Bytes bs → read_image bs ≡ accepted c → Typed c
read_typed bs c y e = back_typed bs c y e

-- two images that are accepted as the same configuration are the same bytes
pub read_once : (bs cs : List ℕ) (c : Config) → Bytes bs → Bytes cs → read_image bs ≡ accepted c → read_image cs ≡ accepted c → bs ≡ cs
read_once bs cs c y z e f = sym (read_image_lem bs c y e) ∙ read_image_lem cs c z f

-- two legal configurations with the same image are the same
pub image_once : (c d : Config) → Typed c → Typed d → legal c ≡ true → legal d ≡ true → image c ≡ image d → c ≡ d
image_once c d t u e f h = ap (λ (r : Reading). r.config) (sym (image_read c t e) ∙ ap read_image h ∙ image_read d u f)

-- an answer is one of two: fault 0 at offset 0 with the configuration ..
pub read_whole : (bs : List ℕ) → (read_image bs).fault ≡ 0 → read_image bs ≡ accepted (read_image bs).config
read_whole bs e = answer_accepted bs e

-- .. or a fault, and then zeros only (I10)
pub read_zeros : (bs : List ℕ) → ((read_image bs).fault ≡ 0 → ⊥) → (read_image bs).config ≡ no_config
read_zeros bs h = answer_refused bs h

-- I10: which is not legal
pub zeros_illegal : legal no_config ≡ false
unfolding legal
zeros_illegal = refl

-- so a reading's configuration is legal exactly where the image is accepted
pub read_either : (bs : List ℕ) → Bytes bs → ((read_image bs).fault ≡ 0 → legal (read_image bs).config ≡ true) × (((read_image bs).fault ≡ 0 → ⊥) → legal (read_image bs).config ≡ false)
read_either bs y = (λ e. read_legal bs (read_image bs).config y (read_whole bs e), λ h. ap legal (read_zeros bs h) ∙ zeros_illegal)

-- S9: no image is longer than 1,036 bytes
pub image_short : (c : Config) → legal c ≡ true → length (image c) ≤ 1036
image_short c e = let l = legal_is c e in omega (arith, image_length c, l.vms.1, l.regions.few, l.table.1)

-- S9: nor is one that is accepted
pub read_short : (bs : List ℕ) (c : Config) → Bytes bs → read_image bs ≡ accepted c → length bs ≤ 1036
read_short bs c y e = rw (← read_image_lem bs c y e) (image_short c (read_legal bs c y e))

-- I14: no answer depends on more than the first 1,039 bytes
pub read_front : (bs : List ℕ) (n : ℕ) → 1039 ≤ n → read_image (take n bs) ≡ read_image bs
read_front bs n h = image_front n bs h

-- S9, I12: a buffer of 1,036 bytes takes the image of every legal configuration
pub write_fits : (c : Config) (n : ℕ) → legal c ≡ true → 1036 ≤ n → answer_for c n ≡ record { refusal = 0; size = length (image c) }
unfolding answer_for
write_fits c n e h = rw (e, le-ltb n (length (image c)) (omega (arith, image_short c e)))

-- a refused write leaves the buffer as it was (I11)
pub write_keeps : (c : Config) (b : List ℕ) → ((answer_for c (length b)).refusal ≡ 0 → ⊥) → buffer_after c b ≡ b
unfolding answer_for buffer_after
write_keeps c b h = go (legal c) (ltb (length b) (length (image c))) h
  where
    go : (x y : Bool) → ((pick x (pick y (unwritten 30) (record { refusal = 0; size = length (image c) })) (unwritten 31)).refusal ≡ 0 → ⊥)
        → pick x (pick y b (image c ++ drop (length (image c)) b)) b ≡ b
    go true true f = refl
    go true false f = absurd (f refl)
    go false y f = refl

-- an accepted image gives what the demands ask of a configuration
pub given : (bs : List ℕ) → Bytes bs → (read_image bs).fault ≡ 0 → Given (read_image bs).config
given bs h e =
    let w = read_whole bs e in
    record {
      legal = read_legal bs (read_image bs).config h w;
      sized = (read_typed bs (read_image bs).config h w).sized;
    }
