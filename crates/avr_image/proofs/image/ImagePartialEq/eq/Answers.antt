use Rattle.std.proofs.lemmas.Bool.Decides.{nat_tests}
use Rattle.std.proofs.Common.{arith}
use Rattle.avr_image.proofs.Fields.Shown.{same_by_address}
use Rattle.avr_image.proofs.Fields.Equality.{notice_is_same}
use Rattle.avr_image.proofs.image.ImagePartialEq.eq.Goals as goal

pub returns : goal.returns
returns c = notice_is_same _ c.args.self.now c.args.other.now (grind (arith, nat_tests, same_by_address))

pub returns-then-ne : goal.returns-then-ne
returns-then-ne c = notice_is_same _ c.args.self.now c.args.other.now (grind (arith, nat_tests))
