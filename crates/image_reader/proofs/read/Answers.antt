-- The core record, then all the others.
use borrow.Author.Rules.{rules}
use native.Mathlib.Omega.{arith}
use mathlib.Core.Path.{◌≡◌, refl}
use Rattle.std.proofs.lemmas.Grind.{common_steps}
use Rattle.image_reader.specs.Reader.{reading_of, refused}
use Rattle.image_reader.specs.Faults.{fault_of}
use Rattle.image_reader.proofs.Turns.{image_bad, image_goes, image_in}
use Rattle.image_reader.proofs.read.Goals as goal

pub returns-in_err-map_err : goal.returns-in_err-map_err
returns-in_err-map_err c =
    let told : reading_of c.from_residual.result ≡ refused (fault_of c.check_core.result) 0 = search rules in
    image_bad _ _ _ c.check_core.ensures (λ z. grind (arith, common_steps)) told

pub read_vms-requires : goal.read_vms-requires
read_vms-requires c =
    let none : fault_of c.check_core.result ≡ 0 = search rules in
    image_in _ c.check_core.ensures none c.at-count.ensures c.begun.ensures

pub returns : goal.returns
returns c =
    let none : fault_of c.check_core.result ≡ 0 = search rules in
    image_goes _ c.check_core.ensures none c.at-count.ensures c.at-room.ensures c.begun.ensures c.read_vms.ensures
