use Rattle.avr_laws.proofs.Plans.FilesRead.{seen_is_planned}
use Rattle.avr_laws.proofs.planning.a_plan_is_of_whole_files.Goals as goal

pub returns : goal.returns
returns c = λ s stock openings. seen_is_planned stock s openings
