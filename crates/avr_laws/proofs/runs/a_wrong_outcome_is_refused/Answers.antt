use Rattle.avr_laws.proofs.Outcomes.Refused.{not_all_written, output_otherwise, touched_in_silence, too_much}
use Rattle.avr_laws.proofs.runs.a_wrong_outcome_is_refused.Goals as goal

pub returns-clause-memories : goal.returns-clause-memories
returns-clause-memories c = not_all_written

pub returns-clause-outputs : goal.returns-clause-outputs
returns-clause-outputs c = output_otherwise

pub returns-clause-silence : goal.returns-clause-silence
returns-clause-silence c = touched_in_silence

pub returns-clause-frames : goal.returns-clause-frames
returns-clause-frames c = too_much
