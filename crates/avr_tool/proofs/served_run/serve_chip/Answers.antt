-- The clauses of `serve_chip`, at each exit where no search finds the proof.
use Rattle.std.proofs.Common.{[]}
use Rattle.stk_emu.specs.Programmer.{fresh_programmer}
use Rattle.avr_tool.proofs.ServedRuns.{is_fresh}
use Rattle.avr_tool.proofs.served_run.serve_chip.Goals as goal

pub returns-clause-serves : goal.returns-clause-serves
returns-clause-serves g c =
    let begun = c.new-emulator.ensures in
    let fresh = is_fresh c.args.chip c.new-emulator.result begun.held begun.programmer in
    let serves = rw fresh at c.serve_link-served.ensures.serves in
    let fed = rw fresh at begun.begins in
    record {
      served = c.serve_link-served.result;
      left = c.serve_link-served.new.emulator;
      reported_desk = g.D.Desk.view c.report_end.new.desk;
      serves = serves;
      in_turn = serves.in_turn (fresh_programmer c.args.chip) [] fed;
      leaves = serves.leaves (fresh_programmer c.args.chip) [] fed;
      fails = c.serve_link-served.ensures.failed;
      notice = c.report_end.ensures.notice;
      rises = c.report_end.ensures.follows;
      saved = rw (c.chip.ensures, c.status_of_served.ensures) at c.save_after.ensures.saved;
      follows = c.save_after.ensures.follows;
    }
