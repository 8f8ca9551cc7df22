use Rattle.avr_laws.proofs.Plans.Fitted.{plan_fitted}
use Rattle.avr_laws.proofs.planning.a_plan_fits_its_part.Goals as goal

pub returns : goal.returns
returns c = plan_fitted
