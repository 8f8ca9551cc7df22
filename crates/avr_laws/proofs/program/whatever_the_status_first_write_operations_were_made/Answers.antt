use Rattle.avr_desk.specs.Shown.{system_desk_view}
use Rattle.avr_session.specs.Runs.{devices}
use Rattle.avr_tool.specs.Sockets.{peers_of}
use Rattle.stk_host.specs.Links.{stream_state}
use Rattle.avr_laws.specs.BegunByPort.{IsBegunByAny, IsSparedByAny}
use Rattle.avr_laws.proofs.Outcomes.Begun.{words_begun}
use Rattle.avr_laws.proofs.Table.AnyStatus.{begun_by_any, spared_by_any}
use Rattle.avr_laws.proofs.program.whatever_the_status_first_write_operations_were_made.Goals as goal

pub returns : goal.returns
returns g c = record {
  begun = λ silent.
      let t = g.T.AnyProgrammer in
      words_begun (IsBegunByAny t.part t.device t.view t.IsIn t.IsReady t.becomes)
      (begun_by_any t.part t.device t.view t.IsIn t.IsReady t.becomes) g.C.CommandLine
      (peers_of g.N.Network g.N.Listener.Callers g.N.Stream.Read g.N.Stream.Inlet.has_timed_out
      g.N.Stream.Write g.N.Stream.Side.closed)
      (devices (stream_state c.args.link.now) (system_desk_view c.args.desk.now))
      (devices (stream_state c.run_command_line.new.link) (system_desk_view c.run_command_line.new.desk))
      c.run_command_line.result c.run_command_line.ensures.starts silent;
  spares = λ silent.
      let t = g.T.AnyProgrammer in
      words_begun (IsSparedByAny t.part t.device t.view t.IsIn t.IsReady t.becomes)
      (spared_by_any t.part t.device t.view t.IsIn t.IsReady t.becomes) g.C.CommandLine
      (peers_of g.N.Network g.N.Listener.Callers g.N.Stream.Read g.N.Stream.Inlet.has_timed_out
      g.N.Stream.Write g.N.Stream.Side.closed)
      (devices (stream_state c.args.link.now) (system_desk_view c.args.desk.now))
      (devices (stream_state c.run_command_line.new.link) (system_desk_view c.run_command_line.new.desk))
      c.run_command_line.result c.run_command_line.ensures.starts silent;
}
