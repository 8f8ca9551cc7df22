use Rattle.avr_image.proofs.Lemmas.{filled_is}
use Rattle.avr_image.proofs.laws.filled_is_by_address.Goals as goal

pub returns : goal.returns
returns c = filled_is
