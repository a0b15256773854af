-- Two behaviours that keep the rules are one in every run: the same states, the same histories, the same in every stretch.
use Prim.Native.Nat.{ℕ}
use mathlib.Core.List.{List, append_assoc, append-nil, [], ◌++◌, ◌∷◌}
use mathlib.Core.Path.{ap, refl, subst, sym, ◌∙◌, ◌≡◌}
use Rattle.config.specs.Ranges.{Given}
use Rattle.config.specs.declared.Config.{Config}
use Rattle.rig_core.specs.State.{fresh_core}
use Rattle.rig_core.specs.declared.Core.{Core}
use Rattle.rig_core.specs.declared.Stepped.{Stepped}
use Rattle.event.specs.declared.Event.{Event}
use Rattle.history.proofs.More.{count_more, moments_more, state_more}
use Rattle.history.specs.History.{Behaviour, Moment, after, count_after, history, moment_of, moments, next, state_after, state_of, stretch, ticks_after, ticks_of}
use Rattle.promises.proofs.Only.Fits.{Fits, rules_fit}
use Rattle.promises.proofs.Only.One.{outcome_one}
use Rattle.promises.specs.Demands.{Rules}

-- after the events es
pub record SameRun (a b : Behaviour) (g : Config) (es : List Event) : Type 0 where
  pub state : state_of a g es ≡ state_of b g es
  pub ticks : ticks_of a g es ≡ ticks_of b g es
  pub moments : history a g es ≡ history b g es

-- what fits after one history fits after an equal one
moved : {g : Config} {e : Event} {s : Stepped} {l m : List Moment} {i j : ℕ} {c d : Core} → l ≡ m → i ≡ j → c ≡ d → Fits g m j d e s → Fits g l i c e s
moved {g} {e} {s} {l} {m} {i} {j} {c} {d} x y z p =
    subst (λ (w : List Moment). Fits g w i c e s) (sym x) (subst (λ (w : ℕ). Fits g m w c e s) (sym y) (subst (λ (w : Core). Fits g m j w e s) (sym z) p))

moment_same : (i j : ℕ) (c d : Core) (e : Event) (s t : Stepped) → i ≡ j → c ≡ d → s ≡ t → moment_of i c e s ≡ moment_of j d e t
moment_same i j c d e s t x y z = rw (x, y, z)

-- what happens in the events e and fs after es
stretch_cons : (b : Behaviour) (g : Config) (es fs : List Event) (e : Event) → stretch b g es (e ∷ fs) ≡ next b g es e ∷ stretch b g (es ++ (e ∷ [])) fs
unfolding moments
stretch_cons b g es fs e =
    ap (λ (l : List Moment). next b g es e ∷ l)
    (sym (ap (λ (i : ℕ). moments b i (state_of b g (es ++ (e ∷ []))) fs) (count_more b es 0 (fresh_core g) e)
    ∙ ap (λ (c : Core). moments b (ticks_after (next b g es e)) c fs) (state_more b es (fresh_core g) e)))

module _ (a b : Behaviour) (p : Rules a) (q : Rules b) (g : Config) (d : Given g) where
  same_step : (es : List Event) → SameRun a b g es → (e : Event) → a (state_of a g es) e ≡ b (state_of b g es) e
  same_step es h e = outcome_one e (rules_fit a p g d es e) (moved h.moments h.ticks h.state (rules_fit b q g d es e))

  same_next : (es : List Event) → SameRun a b g es → (e : Event) → next a g es e ≡ next b g es e
  same_next es h e = moment_same _ _ _ _ e _ _ h.ticks h.state (same_step es h e)

  same_more : (es : List Event) → SameRun a b g es → (e : Event) → SameRun a b g (es ++ (e ∷ []))
  same_more es h e =
      record {
        state = state_more a es (fresh_core g) e ∙ ap (λ (s : Stepped). s.core) (same_step es h e) ∙ sym (state_more b es (fresh_core g) e);
        ticks = count_more a es 0 (fresh_core g) e ∙ ap ticks_after (same_next es h e) ∙ sym (count_more b es 0 (fresh_core g) e);
        moments = moments_more a es 0 (fresh_core g) e ∙ joined (history a g es) (history b g es) (next a g es e) (next b g es e) h.moments (same_next es h e) ∙ sym (moments_more b es 0 (fresh_core g) e);
      }
    where
      joined : (l k : List Moment) (m n : Moment) → l ≡ k → m ≡ n → l ++ (m ∷ []) ≡ k ++ (n ∷ [])
      joined l k m n x y = rw (x, y)

  same_after : (fs es : List Event) → SameRun a b g es → SameRun a b g (es ++ fs)
  same_after [] es h = subst (λ (l : List Event). SameRun a b g l) (sym (append-nil es)) h
  same_after (e ∷ fs) es h = subst (λ (l : List Event). SameRun a b g l) (append_assoc es (e ∷ []) fs) (same_after fs (es ++ (e ∷ [])) (same_more es h e))

  pub same_run : (es : List Event) → SameRun a b g es
  unfolding state_after count_after moments
  same_run es = same_after es [] (record { state = refl; ticks = refl; moments = refl })

  -- so whatever is promised of stretches is kept by both or by neither
  pub same_stretch : (fs es : List Event) → stretch a g es fs ≡ stretch b g es fs
  unfolding moments
  same_stretch [] es = refl
  same_stretch (e ∷ fs) es = stretch_cons a g es fs e ∙ conses (same_next es (same_run es) e) (same_stretch fs (es ++ (e ∷ []))) ∙ sym (stretch_cons b g es fs e)
    where
      conses : {m n : Moment} {l k : List Moment} → m ≡ n → l ≡ k → m ∷ l ≡ n ∷ k
      conses x y = rw (x, y)

  pub same_following : (es : List Event) (e : Event) (fs : List Event) → after a (next a g es e) fs ≡ after b (next b g es e) fs
  same_following es e fs = at_next a ∙ same_stretch fs (es ++ (e ∷ [])) ∙ sym (at_next b)
    where
      at_next : (x : Behaviour) → after x (next x g es e) fs ≡ stretch x g (es ++ (e ∷ [])) fs
      at_next x =
          sym (ap (λ (i : ℕ). moments x i (state_of x g (es ++ (e ∷ []))) fs) (count_more x es 0 (fresh_core g) e)
          ∙ ap (λ (c : Core). moments x (ticks_after (next x g es e)) c fs) (state_more x es (fresh_core g) e))

  pub same_moment : (es : List Event) (e : Event) → next a g es e ≡ next b g es e
  same_moment es e = same_next es (same_run es) e
