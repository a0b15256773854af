-- What is still to be read gives what the whole gives (`Read`).
use borrow.Author.Rules.{rules}
use native.Mathlib.Omega.{arith}
use mathlib.Core.Path.{◌≡◌, refl}
use Rattle.std.proofs.lemmas.Grind.{common_steps}
use Rattle.image_reader.specs.Reader.{reading_of, refused}
use Rattle.image_reader.specs.Faults.{fault_of}
use Rattle.image_reader.proofs.RegionTurns.{region_bad, region_in, region_more, region_past, regions_none}
use Rattle.image_reader.proofs.reader.read_regions.Goals as goal

pub returns-then-at-ne5 : goal.returns-then-at-ne5
returns-then-at-ne5 c = region_past c.loop-n.invariant c.loop-n-test.true c.at.ensures c.if-at-ne5.true refl c.read_slots.ensures

pub returns-in_err-map_err : goal.returns-in_err-map_err
returns-in_err-map_err c =
    let told : reading_of c.from_residual.result ≡ refused (fault_of c.check_region.result) c.loop-n.at = search rules in
    region_bad c.loop-n.invariant c.loop-n-test.true c.at.ensures c.if-at-ne5.false c.check_region.ensures (λ z. grind (arith, common_steps)) told

pub bounds-regions-n : goal.bounds-regions-n
bounds-regions-n c =
    let none : fault_of c.check_region.result ≡ 0 = search rules in
    (region_in c.loop-n.invariant c.loop-n-test.true c.check_region.ensures none).1

pub bounds-regions-n-in-loop-n : goal.bounds-regions-n-in-loop-n
bounds-regions-n-in-loop-n c =
    let none : fault_of c.check_region.result ≡ 0 = search rules in
    (region_in c.loop-n.invariant c.loop-n-test.true c.check_region.ensures none).1

pub bounds-regions-n-in-loop-n-2 : goal.bounds-regions-n-in-loop-n-2
bounds-regions-n-in-loop-n-2 c =
    let none : fault_of c.check_region.result ≡ 0 = search rules in
    (region_in c.loop-n.invariant c.loop-n-test.true c.check_region.ensures none).1

pub bounds-regions-n-in-loop-n-3 : goal.bounds-regions-n-in-loop-n-3
bounds-regions-n-in-loop-n-3 c =
    let none : fault_of c.check_region.result ≡ 0 = search rules in
    (region_in c.loop-n.invariant c.loop-n-test.true c.check_region.ensures none).1

pub loop-n-preserved : goal.loop-n-preserved
loop-n-preserved c =
    let none : fault_of c.check_region.result ≡ 0 = search rules in
    region_more c.loop-n.invariant c.loop-n-test.true c.at.ensures c.if-at-ne5.false c.check_region.ensures none c.at-in-loop-n.ensures c.at-in-loop-n-2.ensures c.word.ensures c.word-in-loop-n.ensures (rw c.loop-n.invariant.counted)

pub returns : goal.returns
returns c = regions_none c.loop-n.invariant c.loop-n-test.false (rw c.at-2.ensures refl)
