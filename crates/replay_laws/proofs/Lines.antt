-- The text of a log, record by record.
use Prim.Native.Nat.{suc, zero, ℕ, ◌+◌, ◌<◌, ◌≤◌}
use lib.ListN.{length}
use mathlib.Core.Bool.{Bool}
use mathlib.Core.List.{List, [], ◌++◌}
use mathlib.Core.Path.{ap, refl, sym, ◌≡◌}
use native.Mathlib.Omega.{arith}
use Rattle.rig_core.specs.declared.Core.{Core}
use Rattle.rig_core.specs.declared.Stepped.{Stepped}
use Rattle.event.specs.declared.Event.{Event}
use Rattle.events.proofs.Theorems.{end_is, take_inside}
use Rattle.events.specs.Reader.{read_at}
use Rattle.events.specs.declared.Next.TheVariants.{End, Refuse, Take}
use Rattle.events.specs.declared.Refusal.{Refusal}
use Rattle.events.specs.declared.Next.{Next}
use Rattle.lines.specs.Text.{cut_text}
use Rattle.replay.specs.Run.{Stepping, lines_by, log_text, onward}
use Rattle.state_lines.specs.State.{event_text}

module _ (f : Stepping) (states : Bool) (s : List ℕ) where
  lines_past : (k : ℕ) (c : Core) (at n : ℕ) → length s ≤ at → lines_by f states s k c at n ≡ []
  unfolding lines_by onward
  lines_past zero c at n h = refl
  lines_past (suc k) c at n h = rw ((end_is s at).0 h)

  -- once all records are taken, room for more of them changes nothing
  lines_enough : (k m : ℕ) (c : Core) (at n : ℕ) → length s < at + k → length s < at + m → lines_by f states s k c at n ≡ lines_by f states s m c at n
  unfolding lines_by onward
  lines_enough zero m c at n g h = sym (lines_past m c at n (omega arith))
  lines_enough (suc k) zero c at n g h = lines_past (suc k) c at n (omega arith)
  lines_enough (suc k) (suc m) c at n g h = go (λ d to x y. lines_enough k m d to (n + 1) x y) (read_at s at) refl
    where
      go : ((d : Core) (to : ℕ) → length s < to + k → length s < to + m → lines_by f states s k d to (n + 1) ≡ lines_by f states s m d to (n + 1))
          → (r : Next) → read_at s at ≡ r → onward f states c n r (λ d to. lines_by f states s k d to (n + 1)) ≡ onward f states c n r (λ d to. lines_by f states s m d to (n + 1))
      go more (Take e to) q =
          let i = take_inside s at e to q in
          ap (λ (t : List ℕ). event_text states n (f c e) ++ t) (more (f c e).core to (omega (arith, i.0)) (omega (arith, i.0)))
      go more End q = refl
      go more (Refuse r o) q = refl

  -- an event's text, and then the text of the rest
  pub log_take : (c : Core) (at n to : ℕ) (e : Event) (d : Stepped) → read_at s at ≡ Take e to → d ≡ f c e
      → log_text f states s c at n ≡ event_text states n d ++ log_text f states s d.core to (n + 1)
  unfolding lines_by onward
  log_take c at n to e d q h =
      let i = take_inside s at e to q in
      rw (h, q) (ap (λ (t : List ℕ). event_text states n (f c e) ++ t) (lines_enough (length s) (suc (length s)) (f c e).core to (n + 1) (omega (arith, i.0)) (omega (arith, i.0))))

  -- at its end nothing more is printed, so nothing of a log without bytes, as a file that does not open has (N8)
  pub log_end : (c : Core) (at n : ℕ) → read_at s at ≡ End → log_text f states s c at n ≡ []
  unfolding lines_by onward
  log_end c at n q = rw q

  -- N7
  pub log_cut : (c : Core) (at n : ℕ) (r : Refusal) (o : ℕ) → read_at s at ≡ Refuse r o → log_text f states s c at n ≡ cut_text n
  unfolding lines_by onward
  log_cut c at n r o q = rw q
