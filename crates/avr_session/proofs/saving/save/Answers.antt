use Rattle.std.proofs.Common.{◌∙◌, sym, [], ◌∷◌, refl, rules}
use Rattle.avr_io.specs.OutputEvents.{WritesFile}
use Rattle.avr_io.specs.declared.stream.Stream.TheVariants.{File}
use Rattle.avr_io.proofs.Lines.ReportedAs.{failed_by, follows_on}
use Rattle.avr_session.specs.FileText.{file_text}
use Rattle.avr_session.specs.Runs.{NotCreated, cause_line}
use Rattle.avr_session.specs.Saving.{SaveStops}
use Rattle.avr_session.proofs.ActionByAction.Reports.{file_stops}
use Rattle.avr_session.proofs.ActionByAction.Saves.{saved_out, not_created, created_then}
use Rattle.avr_session.proofs.saving.save.Goals as goal

pub returns-then-is_dash : goal.returns-then-is_dash
returns-then-is_dash g c = search (rules, saved_out, sym c.is_dash.ensures ∙ c.if-is_dash.true)

pub returns-in-Ok : goal.returns-in-Ok
returns-in-Ok g c = rw (sym c.is_dash.ensures ∙ c.if-is_dash.false) (search (rules, created_then))

pub returns-in-Err : goal.returns-in-Err
unfolding cause_line
returns-in-Err g c =
    let failed = failed_by File (g.D.Desk.view c.args.desk.now) (g.D.Desk.view c.create.new.self) c.create.result _
    c.in-Err.is c.create.ensures.call.fault c.create.ensures.call.counts in
    let emits = file_stops (SaveStops c.args.target.file.now) _ (g.D.Desk.view c.create.new.self) _ _
    c.args.target.file.now NotCreated
    (not_created _ _ c.args.target.file.now c.create.result _
    (WritesFile (file_text c.args.target.format c.args.bytes.now) ∷ []) c.in-Err.is c.create.ensures.kept)
    failed c.create.ensures.call.counts.0 (λ notice stops. (refl, stops))
    (rw c.not_created_message.ensures at c.refuse.ensures.notice) in
    let follows = follows_on (g.D.Desk.view c.args.desk.now) (g.D.Desk.view c.create.new.self)
    (g.D.Desk.view c.refuse.new.desk) c.create.ensures.call.counts.0 c.refuse.ensures.notice.follows in
    rw (sym c.is_dash.ensures ∙ c.if-is_dash.false) (search rules)
