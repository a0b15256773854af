-- The three answers of the definition.
use mathlib.Core.Path.{refl, sym, ◌∙◌, ◌≡◌}
use mathlib.Core.Bool.{true}
use native.Mathlib.Omega.{arith}
use Rattle.config.proofs.Legality.{legal_is}
use Rattle.config.specs.Sizes.{legal}
use Rattle.image_writer.proofs.Puts.{write_done, write_illegal, write_short}
use Rattle.image_writer.proofs.write.Goals as goal

pub returns-then-not-legal : goal.returns-then-not-legal
returns-then-not-legal c = write_illegal c.args.c.now c.args.b.now (sym c.legal.ensures ∙ c.if-not-legal.true)

pub returns-then-b-size : goal.returns-then-b-size
returns-then-b-size c = write_short c.args.c.now c.args.b.now _ c.size-size.ensures (sym c.legal.ensures ∙ c.if-not-legal.false) (omega arith)

pub put_records-requires : goal.put_records-requires
put_records-requires c =
    let kept : legal c.args.c.now ≡ true = sym c.legal.ensures ∙ c.if-not-legal.false in
    let l = legal_is _ kept in
    (l.vms.1, l.regions.few, l.table.1, omega (arith, c.size-size.ensures))

pub returns : goal.returns
returns c = write_done c.args.c.now c.args.b.now _ c.size-size.ensures (sym c.legal.ensures ∙ c.if-not-legal.false) _ _ (omega arith) c.put_records.ensures refl
