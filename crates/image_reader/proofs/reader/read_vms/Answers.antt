-- What is still to be read gives what the whole gives (`Vms`).
use borrow.Author.Rules.{rules}
use native.Mathlib.Omega.{arith}
use mathlib.Core.Path.{◌≡◌, refl}
use Rattle.std.proofs.lemmas.Grind.{common_steps}
use Rattle.image_reader.specs.Reader.{reading_of, refused}
use Rattle.image_reader.specs.Faults.{fault_of}
use Rattle.image_reader.proofs.Turns.{vm_bad, vm_more, vms_none}
use Rattle.image_reader.proofs.reader.read_vms.Goals as goal

pub returns-in_err-map_err : goal.returns-in_err-map_err
returns-in_err-map_err c =
    let told : reading_of c.from_residual.result ≡ refused (fault_of c.check_vm.result) c.loop-k.at = search rules in
    vm_bad c.loop-k.invariant c.loop-k-test.true c.check_vm.ensures (λ z. grind (arith, common_steps)) told

pub loop-k-preserved : goal.loop-k-preserved
loop-k-preserved c =
    let none : fault_of c.check_vm.result ≡ 0 = search rules in
    vm_more c.loop-k.invariant c.loop-k-test.true c.check_vm.ensures none c.word.ensures c.word-in-loop-k.ensures refl

pub returns : goal.returns
returns c = vms_none c.loop-k.invariant c.loop-k-test.false c.read_regions.ensures
