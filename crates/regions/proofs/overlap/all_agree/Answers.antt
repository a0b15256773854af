-- Regions in order agree (`order_agrees`), and so do regions that do not clash (`clear_pairs`); otherwise each is tested.
use Rattle.regions.proofs.Clear.{clear_pairs, order_agrees}
use Rattle.regions.proofs.overlap.all_agree.Goals as goal

pub returns-then-ordered-in_order : goal.returns-then-ordered-in_order
returns-then-ordered-in_order c = order_agrees _ _ _ c.requires.1 c.in_order.ensures c.if-ordered-in_order.true

pub returns-then-all_clear : goal.returns-then-all_clear
returns-then-all_clear c = clear_pairs _ _ c.all_clear.ensures c.if-all_clear.true
