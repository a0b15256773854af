-- A run with one event more, and what the history then tells.
use Prim.Native.Nat.{ℕ}
use mathlib.Core.List.{List, [], ◌++◌, ◌∷◌}
use mathlib.Core.Path.{ap, refl, ◌∙◌, ◌≡◌}
use Rattle.rig_core.specs.declared.Core.{Core}
use Rattle.event.specs.declared.Event.{Event}
use Rattle.history.specs.History.{Behaviour, Moment, count_after, moment, moments, state_after, ticks_after, told}
use Rattle.history.specs.Telling.{EachTold}

pub state_more : (b : Behaviour) (es : List Event) (c : Core) (e : Event) → state_after b c (es ++ (e ∷ [])) ≡ (b (state_after b c es) e).core
unfolding state_after
state_more b [] c e = refl
state_more b (x ∷ es) c e = state_more b es (b c x).core e

pub count_more : (b : Behaviour) (es : List Event) (k : ℕ) (c : Core) (e : Event) → count_after b k c (es ++ (e ∷ [])) ≡ ticks_after (moment b (count_after b k c es) (state_after b c es) e)
unfolding state_after count_after
count_more b [] k c e = refl
count_more b (x ∷ es) k c e = count_more b es _ (b c x).core e

pub moments_more : (b : Behaviour) (es : List Event) (k : ℕ) (c : Core) (e : Event)
    → moments b k c (es ++ (e ∷ [])) ≡ moments b k c es ++ (moment b (count_after b k c es) (state_after b c es) e ∷ [])
unfolding moments state_after count_after
moments_more b [] k c e = refl
moments_more b (x ∷ es) k c e = ap (λ (l : List Moment). moment b k c x ∷ l) (moments_more b es _ (b c x).core e)

pub told_more : {A : Type 0} (f : Moment → A → A) (a : A) (ms : List Moment) (m : Moment) → told f a (ms ++ (m ∷ [])) ≡ f m (told f a ms)
unfolding told
told_more f a [] m = refl
told_more f a (x ∷ ms) m = told_more f (f x a) ms m

-- a part of the state that goes by moments
module _ (b : Behaviour) (Inv : ℕ → Core → Type 0) (keeps : (k : ℕ) (c : Core) → Inv k c → (e : Event) → Inv (ticks_after (moment b k c e)) (b c e).core)
    (A : Type 0) (part : Core → A) (step : Moment → A → A) (law : (k : ℕ) (c : Core) → Inv k c → (e : Event) → part (b c e).core ≡ step (moment b k c e) (part c)) where
  -- is what the history tells
  pub part_told : (es : List Event) (k : ℕ) (c : Core) (a : A) → Inv k c → part c ≡ a → part (state_after b c es) ≡ told step a (moments b k c es)
  unfolding state_after told moments
  part_told [] k c a i h = h
  part_told (e ∷ es) k c a i h = part_told es _ (b c e).core (step (moment b k c e) a) (keeps k c i e) (law k c i e ∙ ap (step (moment b k c e)) h)

  -- and what holds of it at each moment holds of what is told
  pub each_told : (P : A → Moment → Type 0) → ((k : ℕ) (c : Core) → Inv k c → (e : Event) → P (part c) (moment b k c e))
      → (es : List Event) (k : ℕ) (c : Core) → Inv k c → EachTold step P (part c) (moments b k c es)
  unfolding moments
  each_told P f [] k c i = tt
  each_told P f (e ∷ es) k c i = (f k c i e, rw (← law k c i e) (each_told P f es _ _ (keeps k c i e)))
