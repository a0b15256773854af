-- Without an entry as it was; else what is behind the first.
use Rattle.std.proofs.Common.{rules, ℕ, ◌-◌, ap, ◌∙◌}
use Rattle.queue.proofs.Turns.{popped_empty, popped_some}
use Rattle.queue.proofs.Queue.popped.Goals as goal

pub returns-in-empty : goal.returns-in-empty
returns-in-empty c = popped_empty c.args.self.now _ c.entries.result.now (search rules) c.entries.ensures c.in-empty.len_below c.holding.ensures

pub returns-in-len1-up : goal.returns-in-len1-up
returns-in-len1-up c =
    popped_some c.args.self.now _ c.entries.result.now _ _ c.entries.ensures c.in-len1-up.len_at_least (c.saturating_sub.ensures ∙ ap (λ (x : ℕ). x - 1) c.count.ensures) c.with_count.ensures c.holding-in-len1-up.ensures
