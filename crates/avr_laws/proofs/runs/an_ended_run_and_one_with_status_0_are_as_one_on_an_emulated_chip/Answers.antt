use Rattle.avr_laws.proofs.Outcomes.TwoRuns.{emulated_as_one}
use Rattle.avr_laws.proofs.runs.an_ended_run_and_one_with_status_0_are_as_one_on_an_emulated_chip.Goals as goal

pub returns : goal.returns
returns c = emulated_as_one
