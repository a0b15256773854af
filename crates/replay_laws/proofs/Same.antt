-- A run by one way of stepping is the run by another, where they agree on all states that the run meets.
use Prim.Native.Nat.{suc, zero, ℕ, ◌+◌}
use borrow.Author.Tests.{eqb-true}
use lib.Dec.{eqb}
use lib.ListN.{length}
use mathlib.Core.Bool.{Bool, false, true}
use mathlib.Core.List.{List, ◌++◌}
use mathlib.Core.Path.{ap, refl, ◌≡◌}
use Rattle.rig_core.specs.State.{fresh_core}
use Rattle.rig_core.specs.declared.Core.{Core}
use Rattle.event.specs.declared.Event.{Event}
use Rattle.events.specs.Reader.{read_at}
use Rattle.events.specs.declared.Next.TheVariants.{End, Refuse, Take}
use Rattle.events.specs.declared.Next.{Next}
use Rattle.image_reader.specs.Reader.{read_image}
use Rattle.replay.specs.Run.{Stepping, judged_as, lines_by, onward, run_by, start_of, text_by, text_from}
use Rattle.replay.specs.declared.Place.{Place}
use Rattle.replay.specs.declared.Stage.TheVariants.{Ended, Long, Refused, Running}
use Rattle.replay.specs.declared.Stage.{Stage}
use Rattle.state_lines.specs.State.{event_text}

module _ (f g : Stepping) (P : Core → Type 0) (agree : (c : Core) (e : Event) → P c → f c e ≡ g c e) (keeps : (c : Core) (e : Event) → P c → P (g c e).core) where
  lines_same : (states : Bool) (s : List ℕ) (k : ℕ) (c : Core) (at n : ℕ) → P c → lines_by f states s k c at n ≡ lines_by g states s k c at n
  unfolding lines_by onward
  lines_same states s zero c at n p = refl
  lines_same states s (suc k) c at n p = go (λ d to x. lines_same states s k d to (n + 1) x) (read_at s at)
    where
      go : ((d : Core) (to : ℕ) → P d → lines_by f states s k d to (n + 1) ≡ lines_by g states s k d to (n + 1)) → (r : Next) → onward f states c n r (λ d to. lines_by f states s k d to (n + 1)) ≡ onward g states c n r (λ d to. lines_by g states s k d to (n + 1))
      go more (Take e to) = rw (agree c e p) (ap (λ (t : List ℕ). event_text states n (g c e) ++ t) (more (g c e).core to (keeps c e p)))
      go more End = refl
      go more (Refuse r o) = refl

  pub text_same : (states : Bool) (s : List ℕ) (q : Place) → P q.core → text_from f states s q ≡ text_from g states s q
  unfolding text_by
  text_same states s q p = go q.stage
    where
      go : (t : Stage) → text_by f states s q.core q.at q.number t ≡ text_by g states s q.core q.at q.number t
      go (Refused fault offset) = refl
      go Long = refl
      go Running = lines_same states s (suc (length s)) q.core q.at q.number p
      go Ended = refl

  -- from the front: an accepted image is enough, as nothing is run on a refused one
  pub run_same : (states : Bool) (image log : List ℕ) → ((read_image image).fault ≡ 0 → P (fresh_core (read_image image).config)) → run_by f states image log ≡ run_by g states image log
  unfolding text_by start_of judged_as
  run_same states image log h = go (eqb (read_image image).fault 0) refl
    where
      go : (b : Bool) → eqb (read_image image).fault 0 ≡ b → run_by f states image log ≡ run_by g states image log
      go true e = text_same states log (start_of image log) (h (eqb-true (read_image image).fault 0 e))
      go false e = rw e
