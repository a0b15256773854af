-- The answers to the queries below `k` are put.
use Prim.Native.Nat.{◌/◌}
use lib.ListN.{length}
use mathlib.Core.Path.{◌≡◌}
use native.Mathlib.Omega.{arith}
use Rattle.access_text.specs.Queries.{answers_text}
use Rattle.lines.proofs.Texts.{joined_more, joined_none}
use Rattle.text.proofs.Adds.{adds_most}
use Rattle.access_text.proofs.put_answers.Goals as goal

pub loop-k-init : goal.loop-k-init
unfolding answers_text
loop-k-init c = joined_none _ 4 _

pub loop-k-preserved : goal.loop-k-preserved
unfolding answers_text
loop-k-preserved c = joined_more _ 4 c.loop-k.invariant (rw c.answer-yes.ensures at c.put_word_for.ensures)

pub returns : goal.returns
returns c = let e : c.loop-k.k ≡ length c.args.queries.now / 10 = omega arith in adds_most (rw e at c.loop-k.invariant) (omega arith)
