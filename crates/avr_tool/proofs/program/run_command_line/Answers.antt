-- The clauses of `run_command_line`, at each exit where no search finds the proof.
use Rattle.std.proofs.Common.{inl}
use Rattle.avr_desk.proofs.Desks.TwoWriters.{reported_all, true_now}
use Rattle.stk_host.proofs.Transcripts.Streams.{true_now as true_link}
use Rattle.avr_tool.proofs.program.run_command_line.Goals as goal

pub returns-in-Ok-clause-starts : goal.returns-in-Ok-clause-starts
returns-in-Ok-clause-starts g c =
    let runs = rw c.as_slice.ensures.value at c.run_program.ensures.runs in inl (_, c.in-Ok.ensures.given, runs)

pub returns-in-Ok-clause-shows : goal.returns-in-Ok-clause-shows
returns-in-Ok-clause-shows g c = c.run_program.ensures.stays c.args.desk.now (true_now _ _ _ _ _ _ c.args.desk.now)

pub returns-in-Ok-clause-all : goal.returns-in-Ok-clause-all
returns-in-Ok-clause-all g c = reported_all _ _ _ _ _ _ c.run_program.ensures.stays

pub returns-in-Err-clause-is_reported : goal.returns-in-Err-clause-is_reported
returns-in-Err-clause-is_reported g c = true_link _ _ _ _

pub returns-in-Err-clause-shows : goal.returns-in-Err-clause-shows
returns-in-Err-clause-shows g c = c.refuse_text.ensures.stays c.args.desk.now (true_now _ _ _ _ _ _ c.args.desk.now)

pub returns-in-Err-clause-all : goal.returns-in-Err-clause-all
returns-in-Err-clause-all g c = reported_all _ _ _ _ _ _ c.refuse_text.ensures.stays
