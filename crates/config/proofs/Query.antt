-- The access query: what the code tested so far, and that it says what the facts say (H8 to H11).
use Rattle.std.proofs.Common.{◌≡◌, ℕ, ◌<◌, ◌≤◌, Bool, true, false, ltb, leb, sym, ◌∙◌, ⊎_elim, arith, ltb-true, le-ltb, lt-ltb, le-leb}
use Rattle.basis.proofs.Bounds.{within_is, within_of}
use Rattle.basis.proofs.Laws.{both_left, both_no, both_of, both_right}
use Rattle.basis.specs.Bounds.{within}
use Rattle.basis.specs.Choice.{both}
use Rattle.config.proofs.Legality.{legal_is, legal_of}
use Rattle.config.specs.Sizes.{Accessible, Shared, access, legal}
use Rattle.config.specs.declared.Config.{Config}
use Rattle.grants.proofs.Meaning.{allowed_is, allowed_of, none_allowed}
use Rattle.grants.specs.Access.{Granted, Permits, allowed}
use Rattle.regions.specs.Rules.{permission_at}

module _ (c : Config) (v address length way : ℕ) where
  pub access_stranger : c.count ≤ v → false ≡ access c v address length way
  unfolding access
  access_stranger h = rw (le-ltb v c.count h) (sym (both_no (legal c)))

  pub access_odd : (b : Bool) → b ≡ within 1 3 way → b ≡ false → false ≡ access c v address length way
  unfolding access
  access_odd b e t = rw (sym e ∙ t, both_no (ltb v c.count)) (sym (both_no (legal c)))

  pub access_illegal : (b : Bool) → b ≡ legal c → b ≡ false → false ≡ access c v address length way
  unfolding access
  access_illegal b e t = rw (sym e ∙ t)

  pub access_known : (a b r : Bool) → v < c.count → a ≡ within 1 3 way → a ≡ true → b ≡ legal c → b ≡ true
      → r ≡ both (leb c.regions.count 64) (allowed c.regions v address length way) → r ≡ access c v address length way
  unfolding access
  access_known a b r h e t f u g =
      let few = (legal_is c (sym f ∙ u)).regions.few in
      g ∙ rw (sym f ∙ u, lt-ltb v c.count h, sym e ∙ t, le-leb c.regions.count 64 few)

  -- H8 to H11: a query that is answered with yes has its facts
  pub access_is : access c v address length way ≡ true → Accessible c v address length way
  unfolding access
  access_is e =
      let e1 = both_right (legal c) _ e in
      let e2 = both_right (ltb v c.count) _ e1 in
      record {
        legal = legal_is c (both_left (legal c) _ e);
        vm = ltb-true v c.count (both_left (ltb v c.count) _ e1);
        asked = within_is 1 3 way (both_left (within 1 3 way) _ e2);
        bytes = allowed_is c.regions v address length way (both_right (within 1 3 way) _ e2);
      }

  -- H8 to H11: and one that has its facts is answered with yes
  pub access_of : Accessible c v address length way → access c v address length way ≡ true
  unfolding access
  access_of f =
      both_of (legal c) _ (legal_of c f.legal)
      (both_of (ltb v c.count) _ (lt-ltb v c.count f.vm)
      (both_of (within 1 3 way) _ (within_of 1 3 way f.asked.0 f.asked.1)
      (allowed_of c.regions v address length way f.bytes)))

  -- H11: a configuration without regions grants no byte
  pub none_granted : c.regions.count ≡ 0 → access c v address length way ≡ true → length ≡ 0
  unfolding access
  none_granted z e =
      none_allowed c.regions v address length way z
      (both_right (within 1 3 way) _ (both_right (ltb v c.count) _ (both_right (legal c) _ e)))

-- a query for one byte
byte_granted : (c : Config) (v a way : ℕ) → access c v a 1 way ≡ true → Granted c.regions v way a
byte_granted c v a way e = ⊎_elim (λ h. absurd (omega arith)) (λ h. h.1 a (omega arith) (omega arith)) (access_is c v a 1 way e).bytes

may_write : (p : ℕ) → Permits 2 p → p ≡ 2
may_write p = ⊎_elim (λ h. absurd (omega (arith, h.0))) (⊎_elim (λ h. h.1) (λ h. absurd (omega (arith, h.0))))

-- H6: what one VM may write and another may access, both list as one range
pub shared_whole : (c : Config) (v w a way : ℕ) → (v ≡ w → ⊥) → access c v a 1 2 ≡ true → access c w a 1 way ≡ true → Shared c v w a
shared_whole c v w a way n e f =
    let g = byte_granted c v a 2 e in
    let h = byte_granted c w a way f in
    record {
      mine = g.place;
      yours = h.place;
      listed = (g.listed, h.listed);
      held = (g.held, h.held);
      inside = (g.from, g.to);
      same =
          (access_is c v a 1 2 e).legal.regions.shared g.place h.place g.listed h.listed (may_write (permission_at c.regions g.place) g.permits)
          (λ z. n (sym g.held ∙ z ∙ h.held)) (omega (arith, g.from, h.to)) (omega (arith, h.from, g.to));
    }

-- H1: a legal list is not too long
pub legal_few : (c : Config) → legal c ≡ true → leb c.regions.count 64 ≡ true
legal_few c e = le-leb c.regions.count 64 (legal_is c e).regions.few
