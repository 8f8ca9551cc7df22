use Rattle.avr_laws.proofs.Plans.Given.{seen_asked}
use Rattle.avr_laws.proofs.planning.a_plan_is_the_one_asked_for.Goals as goal

pub returns : goal.returns
returns c = λ s stock openings plan seen made. seen_asked stock s openings plan seen made
