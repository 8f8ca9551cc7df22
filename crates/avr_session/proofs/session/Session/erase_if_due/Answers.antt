use Rattle.std.proofs.Common.{◌≡◌, [], ◌∷◌, refl, rules}
use Rattle.avr_session.specs.Actions.{SkippedErase, EraseChip, SkipAction, erase_actions}
use Rattle.avr_session.specs.Session.{erased_output}
use Rattle.avr_session.proofs.ActionByAction.Sequences.{does_nothing, does_one, does_printed, does_same, ends_unreported, left_out_performs}
use Rattle.avr_session.proofs.session.Session.erase_if_due.Goals as goal

pub returns-then-switches-2 : goal.returns-then-switches-2
returns-then-switches-2 g c =
    let is_dry = rw c.switches-switches.ensures at c.if-switches.true in
    let is_asked = rw c.switches-switches.ensures at c.if-switches-2.true in
    let reports = rw c.switches-switches.ensures at c.warn-warned.ensures.reports in
    let due : SkipAction SkippedErase ∷ [] ≡ erase_actions c.args.self.now.plan.now.switches
    c.args.self.now.plan.now.tasks =
    rw (is_dry, is_asked) refl in
    search (rules, does_same, does_one, left_out_performs, ends_unreported)

pub returns-then-switches : goal.returns-then-switches
returns-then-switches g c =
    let is_dry = rw c.switches-switches.ensures at c.if-switches.true in
    let is_not_asked = rw c.switches-switches.ensures at c.if-switches-2.false in
    let none : [] ≡ erase_actions c.args.self.now.plan.now.switches c.args.self.now.plan.now.tasks =
    rw (is_dry, is_not_asked) refl in
    search (rules, does_same, does_nothing)

pub returns-then-is_erase_due : goal.returns-then-is_erase_due
returns-then-is_erase_due g c =
    let plan = c.args.self.now.plan.now in
    let is_not_dry = rw c.switches-switches.ensures at c.if-switches.false in
    let is_due = rw (c.is_erase_due.ensures, c.switches-switches.ensures, c.tasks.ensures.value) at
    c.if-is_erase_due.true in
    let due : EraseChip ∷ [] ≡ erase_actions plan.switches plan.tasks = rw (is_not_dry, is_due) refl in
    let does = does_same plan _ _ due (does_printed plan EraseChip (erased_output plan.switches.quiet plan.part) refl
    (λ stop. refl) c.requires refl c.erase-erased.ensures.calls c.report_step-reported.ensures.reports
    c.conclude-then-is_erase_due.ensures) in
    search rules

pub returns : goal.returns
returns g c =
    let is_not_dry = rw c.switches-switches.ensures at c.if-switches.false in
    let is_not_due = rw (c.is_erase_due.ensures, c.switches-switches.ensures, c.tasks.ensures.value) at
    c.if-is_erase_due.false in
    let none : [] ≡ erase_actions c.args.self.now.plan.now.switches c.args.self.now.plan.now.tasks =
    rw (is_not_dry, is_not_due) refl in
    search (rules, does_same, does_nothing)
