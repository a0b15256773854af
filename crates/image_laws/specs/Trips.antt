-- What both round trips through the code give, said without the one or the other half.
use Rattle.std.specs.Prelude.{ℕ, eqb, ltb, drop, length, List, ◌++◌}
use Rattle.basis.specs.Choice.{pick}
use Rattle.config.specs.Sizes.{legal}
use Rattle.config.specs.declared.Config.{Config}
use Rattle.image_reader.specs.Reader.{accepted, read_image, refused}
use Rattle.image_reader.specs.Reading.{Reading}
use Rattle.image_writer.specs.Writer.{image, unwritten}
use Rattle.image_writer.specs.Written.{Written}

-- C6: an image that is read and written again: its own bytes, or its fault
unfoldable pub copy_answer : List ℕ → ℕ → Written
copy_answer s n =
    pick (eqb (read_image s).fault 0)
    (pick (ltb n (length s)) (unwritten 30) (record { refusal = 0; size = length s }))
    (unwritten (read_image s).fault)

unfoldable pub copy_buffer : List ℕ → List ℕ → List ℕ
copy_buffer s b =
    pick (eqb (read_image s).fault 0)
    (pick (ltb (length b) (length s)) b (s ++ drop (length s) b))
    b

-- C6: a configuration that is written into a buffer of n bytes and read again: itself, or the writer's refusal
unfoldable pub returned : Config → ℕ → Reading
returned c n =
    pick (legal c)
    (pick (ltb n (length (image c))) (refused 30 0) (accepted c))
    (refused 31 0)
