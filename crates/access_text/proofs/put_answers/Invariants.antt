-- The answers to the queries below `k` are put.
use Prim.Native.Nat.{◌*◌}
use Rattle.access_text.specs.Queries.{answers_text}
use Rattle.text.specs.Adds.{Adds}
use Rattle.access_text.proofs.put_answers.Given as goal

abbrev pub invariant-loop-k : goal.invariant-loop-k
invariant-loop-k l = Adds (answers_text l.config l.queries l.k) (l.k * 4) l.initial.page l.page
