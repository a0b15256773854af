-- The soundness test over the parts of a core, and that of its regions, are that of the core.
use mathlib.Core.Bool.{Bool, false, true}
use mathlib.Core.Path.{ap, refl, sym, ◌∙◌, ◌≡◌}
use Rattle.basis.proofs.Laws.{both_no, both_yes}
use Rattle.basis.specs.Choice.{both}
use Rattle.checks.specs.Sound.{sound_from}
use Rattle.config.proofs.Legality.{legal_apart}
use Rattle.config.specs.Sizes.{bare, legal}
use Rattle.rig_core.specs.Sound.{none_ready, queued_ready, sound, standings_known}
use Rattle.rig_core.specs.declared.Core.{Core}
use Rattle.regions.specs.Rules.{lawful}

-- W1: the regions apart from the rest
sound_apart : (c : Core) (x y : Bool) → x ≡ sound_from (bare c.config) c.clock c.running c.queue c.vms → y ≡ lawful c.config.count c.config.regions → both y x ≡ sound c
unfolding sound_from sound queued_ready none_ready standings_known
sound_apart c x y e f =
    rw (e, f)
    (first (lawful c.config.count c.config.regions) (legal (bare c.config)) (legal c.config) _ (legal_apart c.config (legal (bare c.config)) (lawful c.config.count c.config.regions) refl refl))
  where
    first : (y a b r : Bool) → both y a ≡ b → both y (both a r) ≡ both b r
    first true a b r e = ap (λ (t : Bool). both t r) e
    first false a b r e = ap (λ (t : Bool). both t r) e

pub sound_yes : (c : Core) (x y : Bool) → x ≡ sound_from (bare c.config) c.clock c.running c.queue c.vms → x ≡ true → y ≡ lawful c.config.count c.config.regions → y ≡ sound c
sound_yes c x y e t f = sym (both_yes y) ∙ rw t at (sound_apart c x y e f)

pub sound_no : (c : Core) (x : Bool) → x ≡ sound_from (bare c.config) c.clock c.running c.queue c.vms → x ≡ false → false ≡ sound c
sound_no c x e t = sym (both_no (lawful c.config.count c.config.regions)) ∙ rw t at (sound_apart c x _ e refl)
