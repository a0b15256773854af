-- A Copy asks the access query: what a sound core looks up in its regions is what H8 to H11 say.
use Prim.Native.Nat.{ℕ, ◌<◌}
use borrow.Author.Tests.{le-leb, lt-ltb}
use lib.ListN.{length}
use mathlib.Core.Bool.{true}
use mathlib.Core.Path.{refl, ◌≡◌}
use Rattle.basis.specs.Bounds.{within}
use Rattle.basis.specs.Nobody.{nobody}
use Rattle.config.proofs.Legality.{legal_of}
use Rattle.config.specs.Sizes.{Legal, access}
use Rattle.config.specs.declared.Config.{Config}
use Rattle.copies.proofs.Requests.{failure_same}
use Rattle.copies.specs.Failing.{copy_failure, may}
use Rattle.rig_core.specs.Events.{failure_of}
use Rattle.rig_core.specs.Sound.{Sound}
use Rattle.rig_core.specs.declared.Core.{Core}
use Rattle.core_laws.proofs.Facts.{running_below}
use Rattle.window.specs.declared.Pieces.{Pieces}
use Rattle.window.specs.declared.Window.{Window}

query_same : (g : Config) → Legal g → (v : ℕ) → v < g.count → (way : ℕ) → within 1 3 way ≡ true → (a n : ℕ) → may g.regions v a n way ≡ access g v a n way
unfolding access
query_same g l v h way y a n = rw (legal_of g l, lt-ltb v g.count h, y, le-leb g.regions.count 64 l.regions.few)

-- D34
pub copy_asks : (c : Core) → length c.vms ≡ 8 → Sound c → (c.running ≡ nobody → ⊥) → (w : Window) (p : Pieces) → failure_of c w p ≡ copy_failure (access c.config c.running) w p
copy_asks c n s h w p =
    failure_same (may c.config.regions c.running) (access c.config c.running)
    (query_same c.config s.legal c.running (running_below c n s h) 1 refl) (query_same c.config s.legal c.running (running_below c n s h) 2 refl) w p
