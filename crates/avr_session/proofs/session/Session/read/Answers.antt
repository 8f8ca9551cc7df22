use Rattle.std.proofs.Common.{ap, sym, ◌∙◌, true, rules}
use Rattle.stk_host.specs.Operations.{reading}
use Rattle.avr_session.specs.Actions.{SaveMemory}
use Rattle.avr_session.specs.Session.{fault_line_or, read_output}
use Rattle.avr_session.proofs.ActionByAction.FaultsReported.{read_none}
use Rattle.avr_session.proofs.ActionByAction.Sequences.{calls_of, does_one, operation_performs, given_concluded, given_reported, read_stops_report}
use Rattle.avr_session.proofs.session.Session.read.Goals as goal

pub report_read-reported-requires : goal.report_read-reported-requires
report_read-reported-requires g c = rw c.as_slice.ensures.value c.read-outcome.ensures.short

pub returns : goal.returns
returns g c =
    let plan = c.args.self.now.plan.now in
    let mem = c.args.mem in
    let format = c.args.target.format in
    let file = c.args.target.file.now in
    let items = c.read-outcome.new.out.items in
    let good = read_output plan.switches mem format file in
    let reports = rw c.as_slice.ensures.value at c.report_read-reported.ensures.reports in
    let does = does_one plan (SaveMemory mem format file)
    (operation_performs (reading plan.part mem) (fault_line_or plan.part good) reports true
    (read_stops_report plan.part good items (read_none plan.switches mem format file items) c.read-outcome.result _ _
    reports)
    (given_reported items good plan.part c.read-outcome.result reports) c.requires.0
    (calls_of (ap (λ part. reading part mem) c.requires.1) c.read-outcome.ensures.calls)
    (c.conclude.ensures ∙ sym (given_concluded items c.read-outcome.result c.report_read-reported.result))) in
    search rules
