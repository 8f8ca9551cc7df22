use Rattle.std.proofs.Common.{get_or, arith}
use Rattle.avr_image.proofs.Fields.Shown.{filled_by_each, kept_byte}
use Rattle.avr_image.proofs.image.Image.fill.Goals as goal

pub returns : goal.returns
returns c = grind (arith, filled_by_each, get_or, kept_byte)
