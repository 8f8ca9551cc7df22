use Rattle.avr_laws.proofs.Outcomes.OverDamage.{over_damage}
use Rattle.avr_laws.proofs.damaged_frames.over_a_link_that_damages_one_byte_status_0_means_the_images.Goals as goal

pub returns : goal.returns
returns c = over_damage
