-- A legal configuration is what its image is read as.
use borrow.Author.Rules.{rules}
use lib.ListN.{length}
use mathlib.Core.Path.{ap, refl, ◌∙◌, ◌≡◌}
use Rattle.image_laws.proofs.Values.{return_bad, return_good, return_read, size_in, size_taken}
use Rattle.image_laws.specs.Returned.{read_again}
use Rattle.image_reader.proofs.Faults.{fault_some}
use Rattle.image_reader.specs.Reader.{refused}
use Rattle.image_reader.specs.Reading.{Reading}
use Rattle.image_writer.proofs.Refusals.{refusal_some}
use Rattle.image_writer.specs.Refusals.{refusal_number}
use Rattle.image_writer.specs.Writer.{written}
use Rattle.image_laws.proofs.reread.Goals as goal

pub returns-in_err-size : goal.returns-in_err-size
returns-in_err-size c =
    let told : read_again c.from_residual.result ≡ refused (refusal_number c.in_err-size.field-0.0) 0 = search rules in
    (return_bad c.args.c.now (length c.args.b.now) _ _ c.in_err-size.ensures.0 (refusal_some c.in_err-size.field-0.0) told, c.in_err-size.ensures.1)

pub slice_bounds-read-end : goal.slice_bounds-read-end
slice_bounds-read-end c = size_in c.args.c.now c.args.b.now _ (written c.in_ok-size.size) c.in_ok-size.ensures.0 refl c.in_ok-size.ensures.1

pub slice_bounds-read-end-2 : goal.slice_bounds-read-end-2
slice_bounds-read-end-2 c = size_taken c.args.c.now c.args.b.now _ (written c.in_ok-size.size) c.in_ok-size.ensures.0 refl c.in_ok-size.ensures.1

-- what was written is not refused
pub returns-in_err-config : goal.returns-in_err-config
returns-in_err-config c =
    let read = return_read c.args.c.now c.args.b.now _ (written c.in_ok-size.size) c.typed.ensures c.in_ok-size.ensures.0 refl c.in_ok-size.ensures.1 in
    absurd (fault_some c.in_err-config.field-0.0.fault (ap (λ (r : Reading). r.fault) (c.in_err-config.ensures ∙ read)))

pub returns : goal.returns
returns c = (return_good c.args.c.now c.args.b.now _ (written c.in_ok-size.size) _ c.typed.ensures c.in_ok-size.ensures.0 refl c.in_ok-size.ensures.1 c.in_ok-config.ensures, c.in_ok-size.ensures.1)
