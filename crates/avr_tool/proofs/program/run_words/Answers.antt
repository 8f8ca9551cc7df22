-- The clauses of `run_words`, at each exit where no search finds the proof.
use Rattle.stk_host.proofs.Transcripts.Streams.{true_now}
use Rattle.avr_tool.proofs.program.run_words.Goals as goal

pub returns-then-eq-clause-is_reported : goal.returns-then-eq-clause-is_reported
returns-then-eq-clause-is_reported g c = true_now _ _ _ _

pub returns-else-eq-clause-is_reported : goal.returns-else-eq-clause-is_reported
returns-else-eq-clause-is_reported g c = true_now _ _ _ _

pub returns-in-Err-Refused-clause-is_reported : goal.returns-in-Err-Refused-clause-is_reported
returns-in-Err-Refused-clause-is_reported g c = true_now _ _ _ _
