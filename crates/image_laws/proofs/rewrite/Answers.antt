-- An accepted image is the image of its configuration, which is legal.
use borrow.Author.Rules.{rules}
use mathlib.Core.Path.{refl, ◌∙◌, ◌≡◌}
use Rattle.image_laws.proofs.Values.{copy_bad, copy_good}
use Rattle.image_laws.specs.Returned.{written_again}
use Rattle.image_reader.proofs.Faults.{fault_some}
use Rattle.image_reader.specs.Faults.{fault_number}
use Rattle.image_reader.specs.Reader.{accepted}
use Rattle.image_writer.specs.Refusals.{refusal_number}
use Rattle.image_writer.specs.Writer.{unwritten}
use Rattle.image_laws.proofs.rewrite.Goals as goal

pub returns-in_err-config : goal.returns-in_err-config
returns-in_err-config c =
    let told : written_again c.from_residual.result ≡ unwritten (fault_number c.in_err-config.field-0.0.fault) = search rules in
    let bad = copy_bad c.args.s.now c.args.b.now _ c.in_err-config.ensures (fault_some c.in_err-config.field-0.0.fault) in
    (told ∙ bad.0, bad.1)

pub returns-in_err-size : goal.returns-in_err-size
returns-in_err-size c =
    let told : written_again c.from_residual-in_err-size.result ≡ unwritten (refusal_number c.in_err-size.field-0.0) = search rules in
    let good = copy_good c.args.s.now c.args.b.now _ (accepted c.in_ok-config.config) _ (λ i. (c.type_inv.s i).fits) c.in_ok-config.ensures refl c.in_err-size.ensures.0 c.in_err-size.ensures.1 in
    (told ∙ good.0, good.1)

pub returns : goal.returns
returns c = copy_good c.args.s.now c.args.b.now _ (accepted c.in_ok-config.config) _ (λ i. (c.type_inv.s i).fits) c.in_ok-config.ensures refl c.in_ok-size.ensures.0 c.in_ok-size.ensures.1
