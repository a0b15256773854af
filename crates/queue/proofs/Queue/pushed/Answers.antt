-- The entry goes to the first place past the entries.
use Rattle.std.proofs.Common.{◌≡◌, ℕ, ◌+◌, ◌%◌, set, ap, ◌∙◌, rules, ◌≡◌, sym, lt-ltb}
use Rattle.queue.proofs.Meaning.{pushed_full}
use Rattle.queue.proofs.Turns.{pushed_is}
use Rattle.queue.specs.Entries.{pushed, raised}
use Rattle.queue.proofs.Queue.pushed.Goals as goal

pub returns-then-self-ge-PLACES : goal.returns-then-self-ge-PLACES
returns-then-self-ge-PLACES c = sym (pushed_full c.args.v c.args.self c.if-self-ge-PLACES.true)

pub returns : goal.returns
unfolding pushed
returns c = let q = c.args.self in
    let joined : c.with_count-counts.result ≡ raised c.args.v q.counts = c.with_count-counts.ensures ∙ ap (λ (n : ℕ). set q.counts c.args.v ((n + 1) % 256)) c.count.ensures in
    rw (lt-ltb q.len 16 c.if-self-ge-PLACES.false) (pushed_is c.args.v q c.holding-longer.result (raised c.args.v q.counts) (search rules) c.if-self-ge-PLACES.false (rw (← c.entries.ensures, ← joined) c.holding-longer.ensures))
