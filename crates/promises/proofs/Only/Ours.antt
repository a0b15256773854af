-- A behaviour that keeps the promises is ours; and the third demand follows from the rules.
use mathlib.Core.Bool.{true}
use mathlib.Core.List.{List, map}
use mathlib.Core.Path.{ap, subst, sym, ◌≡◌}
use Rattle.config.specs.Ranges.{Given}
use Rattle.config.specs.declared.Config.{Config}
use Rattle.rig_core.specs.Events.{step_of}
use Rattle.event.specs.declared.Event.{Event}
use Rattle.history.specs.History.{Behaviour, Moment, after, answers_of, history, next, state_of, stretch}
use Rattle.history.specs.Moments.{asks}
use Rattle.history.specs.Telling.{queue_in}
use Rattle.promises.proofs.Meets.Accounts.{ours_accounts}
use Rattle.promises.proofs.Meets.All.{ours_rules}
use Rattle.promises.proofs.Meets.Slices.{ours_slices}
use Rattle.promises.proofs.Meets.Waiting.{ours_waiting}
use Rattle.promises.proofs.Only.Runs.{same_following, same_moment, same_run, same_stretch}
use Rattle.promises.specs.Demands.{KeepsAll, Rules}
use Rattle.promises.specs.Sharing.{AccountOf, Accounts, Slices, SlicesOf, Waiting, WaitingOf}

-- ---- only one core keeps the promises

-- C10
pub only_our_states : (b : Behaviour) → KeepsAll b → (g : Config) → Given g → (es : List Event) → state_of b g es ≡ state_of step_of g es
only_our_states b p g d es = (same_run b step_of p.rules ours_rules g d es).state

-- C10
pub only_our_answers : (b : Behaviour) → KeepsAll b → (g : Config) → Given g → (es : List Event) → answers_of b g es ≡ answers_of step_of g es
only_our_answers b p g d es = ap (λ (ms : List Moment). map (λ (m : Moment). m.answer) ms) (same_run b step_of p.rules ours_rules g d es).moments

-- ---- the third demand follows from the rules

module _ (b : Behaviour) (r : Rules b) where
  rules_slices : Slices b
  rules_slices g d v l es fs =
      subst (λ (ms : List Moment). SlicesOf g v ms (stretch b g es fs)) (sym (same_run b step_of r ours_rules g d es).moments)
      (subst (λ (ns : List Moment). SlicesOf g v (history step_of g es) ns) (sym (same_stretch b step_of r ours_rules g d fs es)) (ours_slices g d v l es fs))

  rules_waiting : Waiting b
  rules_waiting g d v l es e fs a =
      subst (λ (ms : List Moment). WaitingOf g v (queue_in g ms) (after b (next b g es e) fs)) (sym (same_run b step_of r ours_rules g d es).moments)
      (subst (λ (ns : List Moment). WaitingOf g v (queue_in g (history step_of g es)) ns) (sym (same_following b step_of r ours_rules g d es e fs))
      (ours_waiting g d v l es e fs (subst (λ (m : Moment). asks v m ≡ true) (same_moment b step_of r ours_rules g d es e) a)))

  rules_accounts : Accounts b
  rules_accounts g d v l es = subst (λ (ms : List Moment). AccountOf g v ms) (sym (same_run b step_of r ours_rules g d es).moments) (ours_accounts g d v l es)

  pub rules_keep_all : KeepsAll b
  rules_keep_all = record { rules = r; slices = rules_slices; waiting = rules_waiting; accounts = rules_accounts }
