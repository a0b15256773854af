-- The word, the bytes, the line's end.
use borrow.Author.Rules.{rules}
use native.Mathlib.Omega.{arith}
use Rattle.lines.specs.Text.{image_text}
use Rattle.text.proofs.Adds.{adds_then, puts_as}
use Rattle.lines.proofs.hex.put_image.Goals as goal

pub returns : goal.returns
unfolding image_text
returns c =
    let a = adds_then c.put_word.ensures (adds_then c.put_bytes.ensures c.put_byte.ensures) in
    (puts_as a.puts (search (rules, a.same)), omega (arith, a.within))
