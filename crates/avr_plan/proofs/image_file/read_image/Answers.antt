use Rattle.std.proofs.Common.{[], rules}
use Rattle.avr_plan.specs.declared.image_file.TheConstants.{LARGEST_IMAGE_FILE}
use Rattle.avr_plan.proofs.Files.Images.{image_is_rest}
use Rattle.avr_plan.proofs.image_file.read_image.Goals as goal

pub returns-clause-read : goal.returns-clause-read
returns-clause-read g c =
    let was_fed = rw (c.file_kind.ensures, c.as_slice-bytes.ensures.value)
    at (c.fed-intake.ensures.feeds c.file_kind.result c.args.size [] c.in-Ok-new.ensures.0) in
    let first = rw c.if-prefix.false at c.in-Ok-read_first_bytes.ensures.kept.0 in
    let len = rw c.if-prefix.false at c.in-Ok-read_first_bytes.ensures.kept.1 in
    image_is_rest LARGEST_IMAGE_FILE _ c.args.size _ _ (g.D.Desk.view c.args.desk.now) (g.D.Desk.view c.open.new.self)
    (g.D.Desk.view c.read_first_bytes.new.desk) _ _ c.in-Ok.ensures.kept first len
    (c.read_rest.ensures.read LARGEST_IMAGE_FILE _ c.args.size _ was_fed (search rules))
