-- The numbers so far are put.
use Rattle.std.proofs.lemmas.List.{get_or-take}
use lib.Seq.{length-take-le}
use native.Mathlib.Omega.{arith}
use Rattle.lines.proofs.Texts.{joined_more, joined_none}
use Rattle.state_lines.specs.State.{items_text}
use Rattle.text.proofs.Adds.{adds_then}
use Rattle.state_lines.proofs.put_items.Goals as goal

pub loop-item-init : goal.loop-item-init
unfolding items_text
loop-item-init c = joined_none _ 11 _

pub loop-item-preserved : goal.loop-item-preserved
unfolding items_text
loop-item-preserved c = joined_more _ 11 c.loop-item.invariant (rw (get_or-take c.args.n c.args.items.now c.loop-item.item-index 0 (omega (arith, length-take-le c.args.n c.args.items.now c.requires.0))) at (adds_then c.put_byte.ensures c.put_decimal.ensures))
