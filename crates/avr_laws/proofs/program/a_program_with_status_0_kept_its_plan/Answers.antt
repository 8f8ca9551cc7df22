use Rattle.avr_desk.specs.Shown.{system_desk_view}
use Rattle.avr_session.specs.Runs.{devices}
use Rattle.avr_tool.specs.Sockets.{peers_of}
use Rattle.stk_host.specs.Links.{stream_state}
use Rattle.avr_laws.specs.KeptByAny.{IsKeptByAny}
use Rattle.avr_laws.proofs.Table.Kept.{promised_by_any}
use Rattle.avr_laws.proofs.KeptByPort.EachPort.{words_kept}
use Rattle.avr_laws.proofs.Recorded.{files_recorded, output_recorded}
use Rattle.avr_laws.proofs.program.a_program_with_status_0_kept_its_plan.Goals as goal

pub returns-clause-plan : goal.returns-clause-plan
returns-clause-plan g c = λ zero silent.
    let t = g.T.AnyProgrammer in
    words_kept (IsKeptByAny t.part t.device t.view t.IsIn t.IsReady t.becomes)
    (promised_by_any t.part t.device t.view t.IsIn t.IsReady t.becomes) g.C.CommandLine
    (peers_of g.N.Network g.N.Listener.Callers g.N.Stream.Read g.N.Stream.Inlet.has_timed_out
    g.N.Stream.Write g.N.Stream.Side.closed)
    (devices (stream_state c.args.link.now) (system_desk_view c.args.desk.now))
    (devices (stream_state c.run_command_line.new.link) (system_desk_view c.run_command_line.new.desk))
    c.run_command_line.result c.run_command_line.ensures.starts zero silent

pub returns-clause-files : goal.returns-clause-files
returns-clause-files g c = λ fresh.
    files_recorded _ _ _ _ c.run_command_line.new.desk (c.run_command_line.ensures.all fresh)

pub returns-clause-shows : goal.returns-clause-shows
returns-clause-shows g c =
    output_recorded _ _ _ _ _ _ c.args.desk.now c.run_command_line.new.desk c.run_command_line.ensures.shows
