-- The bytes are those that the definition computes.
use mathlib.Core.Path.{refl}
use Rattle.basis.specs.Count.{joined}
use Rattle.text.specs.Digits.{digits, glyph}
use Rattle.text.specs.Pairs.{pairs}
use Rattle.text.proofs.pair.table.Goals as goal

pub returns : goal.returns
unfolding pairs joined digits glyph
returns c = refl
