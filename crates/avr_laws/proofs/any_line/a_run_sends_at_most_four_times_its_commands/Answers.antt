use Rattle.avr_laws.proofs.Bounds.Questions.{session_sends}
use Rattle.avr_laws.proofs.any_line.a_run_sends_at_most_four_times_its_commands.Goals as goal

pub returns : goal.returns
returns c = λ plan. session_sends plan
