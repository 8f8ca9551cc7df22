-- The clauses of `run_port`, at each exit where no search finds the proof.
use Rattle.std.proofs.Common.{refl}
use Rattle.stk_host.proofs.Transcripts.Streams.{true_now}
use Rattle.avr_tool.proofs.program.run_port.Goals as goal

pub returns-in-Emulated-clause-runs : goal.returns-in-Emulated-clause-runs
returns-in-Emulated-clause-runs g c =
    rw c.in-Emulated.is (rw c.in-Emulated.is at c.run_emu.ensures.runs, refl, c.leave-in-Emulated.ensures.unused)

pub returns-in-Emulated-clause-is_reported : goal.returns-in-Emulated-clause-is_reported
returns-in-Emulated-clause-is_reported g c = true_now _ _ _ _

pub returns-in-Network-clause-runs : goal.returns-in-Network-clause-runs
returns-in-Network-clause-runs g c = rw c.in-Network.is (rw c.in-Network.is at c.run_net.ensures.runs, refl)

pub returns-in-Network-clause-is_reported : goal.returns-in-Network-clause-is_reported
returns-in-Network-clause-is_reported g c = true_now _ _ _ _

pub returns-in-Served-clause-runs : goal.returns-in-Served-clause-runs
returns-in-Served-clause-runs g c = rw c.in-Served.is (rw c.in-Served.is at c.serve_net.ensures.serves, refl)

pub returns-in-Served-clause-is_reported : goal.returns-in-Served-clause-is_reported
returns-in-Served-clause-is_reported g c = true_now _ _ _ _
