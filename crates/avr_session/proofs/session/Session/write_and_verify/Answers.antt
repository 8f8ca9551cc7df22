use Rattle.std.proofs.Common.{◌≡◌, refl, List, [], ◌∷◌, rules}
use Rattle.std.specs.Prelude.{if◌then◌else◌}
use Rattle.std.proofs.lemmas.Result.{err_from_is_err_and}
use Rattle.avr_session.specs.Actions.{SkippedWrite, WriteImage, CompareImage, SkipAction, Action, write_actions}
use Rattle.avr_session.proofs.ActionByAction.Sequences.{left_out_performs, ends_unreported, does_one, does_same, does_then, does_last}
use Rattle.avr_session.proofs.session.Session.write_and_verify.Goals as goal

pub returns-then-switches : goal.returns-then-switches
returns-then-switches g c =
    let plan = c.args.self.now.plan.now in
    let what = SkippedWrite c.args.mem c.args.image.now in
    let is_dry = rw c.switches.ensures at c.if-switches.true in
    let due : SkipAction what ∷ [] ≡ write_actions plan.switches c.args.mem c.args.image.now = rw is_dry refl in
    let reports = rw (c.switches-quiet.ensures, c.len.ensures) at c.report_bytes-emitted.ensures.reports in
    search (rules, does_same, does_one, left_out_performs, ends_unreported)

pub returns-in_err-write : goal.returns-in_err-write
returns-in_err-write g c =
    let p = err_from_is_err_and c.from_residual.result c.from_residual.ensures.1 in
    let plan = c.args.self.now.plan.now in
    let write = WriteImage c.args.mem c.args.image.now in
    let more : List Action = if plan.switches.no_verify then [] else CompareImage c.args.mem c.args.image.now ∷ [] in
    let is_not_dry = rw c.switches.ensures at c.if-switches.false in
    let due : write ∷ more ≡ write_actions plan.switches c.args.mem c.args.image.now = rw is_not_dry refl in
    let does = does_same plan _ _ due (does_last plan (write ∷ []) more _ c.in_err-write.ensures.performs) in
    rw (p.1, p.2) (search rules)

pub returns-then-switches-2 : goal.returns-then-switches-2
returns-then-switches-2 g c =
    let plan = c.args.self.now.plan.now in
    let write = WriteImage c.args.mem c.args.image.now in
    let is_not_dry = rw c.switches.ensures at c.if-switches.false in
    let is_left_out = rw (c.switches-2.ensures, c.in_ok-write.ensures.plan) at c.if-switches-2.true in
    let due : write ∷ [] ≡ write_actions plan.switches c.args.mem c.args.image.now =
    rw (is_not_dry, is_left_out) refl in
    search (rules, does_same)

pub returns : goal.returns
returns g c =
    let plan = c.args.self.now.plan.now in
    let write = WriteImage c.args.mem c.args.image.now in
    let compare = CompareImage c.args.mem c.args.image.now in
    let is_not_dry = rw c.switches.ensures at c.if-switches.false in
    let is_read_back = rw (c.switches-2.ensures, c.in_ok-write.ensures.plan) at c.if-switches-2.false in
    let due : write ∷ compare ∷ [] ≡ write_actions plan.switches c.args.mem c.args.image.now =
    rw (is_not_dry, is_read_back) refl in
    let does = does_same plan _ _ due (does_then plan (write ∷ []) (compare ∷ []) _ c.in_ok-write.ensures.performs
    (rw c.in_ok-write.ensures.plan at c.verify.ensures.performs)) in
    search rules
