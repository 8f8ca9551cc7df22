use Rattle.avr_image.proofs.Lemmas.{next_held}
use Rattle.avr_image.proofs.laws.first_from_is_the_next_held.Goals as goal

pub returns-clause-next : goal.returns-clause-next
returns-clause-next c = next_held
