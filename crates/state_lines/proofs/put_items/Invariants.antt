-- The numbers so far are put.
use Prim.Native.Nat.{◌*◌}
use Rattle.state_lines.specs.State.{items_text}
use Rattle.text.specs.Adds.{Adds}
use Rattle.state_lines.proofs.put_items.Given as goal

abbrev pub invariant-loop-item : goal.invariant-loop-item
invariant-loop-item l = Adds (items_text l.items l.item-index) (l.item-index * 11) l.initial.page l.page
