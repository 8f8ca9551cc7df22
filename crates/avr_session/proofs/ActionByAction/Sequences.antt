-- Actions of a session, one after another.
use Rattle.std.proofs.Common.{◌≡◌, ℕ, Bool, true, false, ◌||◌, ◌++◌, List, [], ◌∷◌, refl, ap, ◌∙◌, append_assoc, None, Result, Ok, Err, rules}
use Rattle.std.proofs.Math.Bool.{or-false}
use Rattle.std.specs.List.{list_any}
use Rattle.std.proofs.lemmas.List.Folds.{list_any-append}
use Rattle.avr_io.specs.Fault.{CountsNeverFall}
use Rattle.avr_io.specs.Record.{DeskState}
use Rattle.avr_io.specs.declared.desk.DeskFault.{DeskFault}
use Rattle.avr_plan.specs.declared.settings.Switches.{Switches}
use Rattle.avr_part.specs.Part.{Part}
use Rattle.stk_host.specs.declared.fault.HostFault.{HostFault}
use Rattle.stk_host.specs.Operations.{closing}
use Rattle.stk_host.specs.State.{HostState}
use Rattle.stk_host.specs.Play.{Progress}
use Rattle.stk_host.specs.Transcript.{LinkState, heard}
use Rattle.stk_host.specs.Tape.{Tape, on_tape}
use Rattle.stk_host.proofs.Transcripts.InDialogs.{followed, played_bind}
use Rattle.stk_host.proofs.Transcripts.Laws.{got_append}
use Rattle.std.specs.Result.{result_and}
use Rattle.stk_host.specs.Calls.{Calls}
use Rattle.stk_host.specs.Dialog.{Dialog, Done, ◌>>=◌, played, outputs}
use Rattle.avr_io.specs.OutputEvents.{OutputEvent, PrintsLine, ReportsLine}
use Rattle.avr_plan.specs.Plan.{Plan}
use Rattle.avr_session.specs.Standing.{Standing, NoFault, Over}
use Rattle.avr_session.specs.declared.ending.End.{End}
use Rattle.avr_session.specs.declared.ending.End.TheVariants as ends
use Rattle.avr_session.specs.Actions.{Action, action_allocates, actions}
use Rattle.avr_session.specs.Concluding.{HostIsUsable, conclusion, standing_after}
use Rattle.avr_session.specs.Lines.{fault_line}
use Rattle.avr_session.specs.Outcomes.{EndsWithFaultLine, outcome_of}
use Rattle.avr_session.specs.Session.{emits, standing, reported, unless_fault, fault_line_or, action_dialog, actions_dialog, ending, session, status_of}
use Rattle.avr_session.specs.Runs.{Cause, PrintingFailed, cause_line, reports_fault, Devices, devices, start, Terms, before_fault, ReportsCause, StopsAfterOutput, RunAllocationPoints, RanWhole}
use Rattle.avr_session.specs.Reporting.{DeskStops, PrintStops, ReadStops, Reports}
use Rattle.avr_session.specs.Run.{StopsSession}
use Rattle.avr_session.specs.Stopping.{RanToStatus}
use Rattle.avr_session.specs.AllocationPoints.{AtStartOnly, AtAllocation}
use Rattle.avr_session.specs.Performing.{has_fault, PerformsOnTerms, Performing, DoesPlanActions, EndsSession, PlaysSession, Runs}
use Rattle.avr_io.proofs.Stages.Outputs.{kept_none}
use Rattle.avr_io.proofs.Lines.ReportedAs.{follows_here, same_here}
use Rattle.avr_session.proofs.Runs.Calls.{none_failed_here, came_here, came_emitted, came_part, ran_from, ran_on, stops_in, broke_on, broke_part, broke_output, LacksLater, StopsReport, ReportedBy}
use Rattle.avr_session.proofs.ActionByAction.FaultsReported.{ReportsFault, fault_reported, prefix_reports_none, actions_report}
use Rattle.avr_session.proofs.ActionByAction.Actions.{actions_dialog_one, actions_dialog_append}
use Rattle.avr_session.proofs.ActionByAction.Operations.{Stop, fault_at, cause_at, StopsAs, StopsOver, operation_runs, stop_come, cause_is_reported}

-- An action before which no fault was reported, and which allocates at its start or never.
abbrev Performs : Bool → Dialog OutputEvent Standing → Performing
Performs allocates dialog = PerformsOnTerms (before_fault allocates) (AtStartOnly allocates) dialog

-- A failed write to the messages stops the run, whatever was reported.
pub print_stops_run : (terms : Terms) (o : LinkState) (d e : DeskState) → CountsNeverFall d e
    → (emitted : List OutputEvent) (cause : Cause) (notice : List ℕ) → PrintStops d e cause notice
    → StopsAfterOutput terms (devices o d) (devices o e) emitted cause notice
unfolding cause_line
print_stops_run terms o d e le emitted PrintingFailed notice stops = search (rules, same_here, follows_here)
print_stops_run terms o d e le emitted cause notice stops = absurd stops

-- A desk that failed at a file or at the messages stops the run, if no fault was reported.
desk_stops_run : (allocates : Bool) (o : LinkState) (d e : DeskState) → CountsNeverFall d e
    → (emitted : List OutputEvent) → reports_fault emitted ≡ false → (cause : Cause) (notice : List ℕ)
    → DeskStops d e cause notice
    → StopsAfterOutput (before_fault allocates) (devices o d) (devices o e) emitted cause notice
desk_stops_run allocates o d e le emitted none cause notice stops = search (rules, print_stops_run)

-- If a failed write to the messages stopped a report, it stopped the run after a prefix of this output.
pub print_stops_report : (terms : Terms) (o : LinkState) {d e : DeskState} {outputs : List OutputEvent}
    {notice : Result (Unit {0}) DeskFault} → Reports PrintStops d e outputs notice
    → StopsReport terms o d e outputs PrintStops
print_stops_report terms o {d = d} {e = e} reports mid cause prefix notice stops = search (rules, print_stops_run)

-- A stop whose line was reported was reported as the terms of a run without a fault want it.
notice_by : {R : Type 0} (allocates : Bool) (dialog : Dialog ⊥ R) (m : Progress) (o p : LinkState) {d e : DeskState}
    (stop : Stop) → StopsOver allocates dialog m o p stop → ReportsLine d e (cause_line (cause_at stop))
    → ReportedBy (before_fault allocates) (cause_at stop) (devices o d) (devices p e)
notice_by allocates dialog m o p {d = d} stop over some = search (rules, stop_come)

-- A call of an operation is a call of an equal one.
pub calls_of : {A : Type 0} {allocates : Bool} {a b : Dialog ⊥ (Result A HostFault)} {old new : HostState}
    {o p : LinkState} {outcome : Result A HostFault} → a ≡ b → Calls allocates a old new o p outcome
    → Calls allocates b old new o p outcome
calls_of {allocates = allocates} {old = old} {new = new} {o = o} {p = p} {outcome = outcome} is = search rules

-- An operation of the host and the output about its outcome, for a call that ended and was reported like this.
module _ {A : Type 0} (operation : Dialog ⊥ (Result A HostFault)) (outcome_output : Result A HostFault
    → List OutputEvent) {old new : HostState} {o p : LinkState} {d e : DeskState} {outcome : Result A HostFault}
    {notice : Result (Unit {0}) DeskFault} {result : Result (Unit {0}) End}
    {By : DeskState → DeskState → Cause → List ℕ → Type 0} (reports : Reports By d e (outcome_output outcome) notice)
  where
    -- On any terms, the operation and its report were performed as one action.
    action_performs : (terms : Terms) → StopsReport terms p d e (outcome_output outcome) By
        → ((stop : Stop) → StopsAs outcome stop → StopsOver terms.allocates operation old.progress o p stop
        → ReportedBy terms (cause_at stop) (devices o d) (devices p e)) → old.broken ≡ None
        → Calls terms.allocates operation old new o p outcome → result ≡ conclusion outcome notice
        → PerformsOnTerms terms (AtStartOnly terms.allocates) (reported operation outcome_output) old new (devices o d)
        (devices p e) (standing_after result)
    action_performs terms why is_reported sound calls is = search (rules, operation_runs)

    -- The same before any fault was reported.
    pub operation_performs : (allocates : Bool) → StopsReport (before_fault allocates) p d e (outcome_output outcome) By
        → ((stop : Stop) → StopsAs outcome stop → ReportsLine d e (cause_line (cause_at stop)))
        → old.broken ≡ None → Calls allocates operation old new o p outcome → result ≡ conclusion outcome notice
        → Performs allocates (reported operation outcome_output) old new (devices o d) (devices p e)
        (standing_after result)
    operation_performs allocates why some sound calls = search (rules, action_performs, notice_by)

-- The output in place of an action ran whole, or broke off.
left_out_runs : (allocates : Bool) (outputs : List OutputEvent) (m : Progress) (o : LinkState) (d e : DeskState)
    (notice : Result (Unit {0}) DeskFault) → Reports PrintStops d e outputs notice
    → Runs (emits outputs (Done NoFault)) m (devices o d) (devices o e) (before_fault allocates) (AtStartOnly allocates)
    (standing_after (conclusion {A = Unit {0}} (Ok tt) notice)) m
left_out_runs allocates outputs m o d e (Ok done) reports = search (rules, ran_from, came_emitted)
left_out_runs allocates outputs m o d e (Err _) reports = search (rules, broke_output, print_stops_report)

-- The output in place of an action was performed as an action.
pub left_out_performs : (allocates : Bool) (outputs : List OutputEvent) {host : HostState} {o : LinkState}
    {d e : DeskState} {notice : Result (Unit {0}) DeskFault} (result : Result (Unit {0}) End) → host.broken ≡ None
    → Reports PrintStops d e outputs notice → result ≡ conclusion {A = Unit {0}} (Ok tt) notice
    → Performs allocates (emits outputs (Done NoFault)) host host (devices o d) (devices o e) (standing_after result)
left_out_performs allocates outputs {host = host} {o = o} {d = d} {e = e} result sound reports is =
    search (rules, left_out_runs)

-- the output in place of an action reports no fault
pub ends_unreported : (part : Part) (view : DeskState) (notice : Result (Unit {0}) DeskFault)
    {result : Result (Unit {0}) End} → result ≡ conclusion {A = Unit {0}} (Ok tt) notice
    → EndsWithFaultLine part view (outcome_of result)
ends_unreported part view (Ok done) is = rw is tt
ends_unreported part view (Err _) is = rw is tt

-- A host that did nothing performed a dialog that is done, in each state that its link allows.
pub nothing_performs : {terms : Terms} {L : RunAllocationPoints} (standing : Standing) (host : HostState) (o : Devices)
    → HostIsUsable (Ok standing) host.broken → PerformsOnTerms terms L (Done standing) host host o o (Ok standing)
nothing_performs standing host o serves = search (rules, ran_from, came_here, follows_here)

-- after an action that was done a session goes on as its state chooses
module _ {first : Dialog OutputEvent Standing} {K : RunAllocationPoints} {x y : HostState} {o p : Devices}
    (allocates : Bool) (standing : Standing)
    (done : PerformsOnTerms (before_fault allocates) K first x y o p (Ok standing)) where
  -- What is known of both parts but their run holds of both together.
  after_done : {terms : Terms} {L M : RunAllocationPoints} {more whole : Dialog OutputEvent Standing} {z : HostState}
      {q : Devices} {result : Result Standing (Unit {0})} → PerformsOnTerms terms M more y z p q result
      → Runs whole x.progress o q (before_fault allocates) L result z.progress
      → PerformsOnTerms (before_fault allocates) L whole x z o q result
  after_done {q = q} rest runs = search rules

  -- The action and what follows it were performed as one.
  pub performs_on : {L M : RunAllocationPoints} (more_allocates : Bool) (go_on : Standing → Dialog OutputEvent Standing)
      {z : HostState} {q : Devices} (result : Result Standing (Unit {0})) → (more_allocates ≡ true → allocates ≡ true)
      → ReportsFault first → LacksLater L x.progress done.runs.during done.runs.events M y.progress
      → PerformsOnTerms (record { allocates = more_allocates; has_reported = has_fault standing }) M (go_on standing) y
      z p q result → PerformsOnTerms (before_fault allocates) L (first >>= go_on) x z o q result
  unfolding came_part
  performs_on more_allocates go_on (Ok then) both reporting lack rest =
      after_done rest (ran_on (came_part go_on done.runs) rest.runs)
  performs_on more_allocates go_on {q = q} (Err stopped) both reporting lack rest =
      after_done rest (broke_on (came_part go_on done.runs) (search (rules, stops_in, fault_reported)) lack rest.runs)

-- the same run of the host and its devices, as another action
abbrev performs_as : {terms all : Terms} {L M : RunAllocationPoints} {first whole : Dialog OutputEvent Standing}
    {x y : HostState} {o p : Devices} {one other : Result Standing (Unit {0})}
    → PerformsOnTerms terms L first x y o p one → Runs whole x.progress o p all M other y.progress
    → HostIsUsable other y.broken → PerformsOnTerms all M whole x y o p other
performs_as done runs serves =
    record { runs = runs; serves = serves; part = done.part; link = done.link; desk = done.desk }

module _ (allocates more_allocates : Bool) where
  -- An action that ended the session ended both, whichever of the two allocates.
  performs_last : {first : Dialog OutputEvent Standing} {L M : RunAllocationPoints} (more : Dialog OutputEvent Standing)
      {x y : HostState} {o p : Devices} (end : End) → LacksLater L x.progress [] [] M x.progress
      → PerformsOnTerms (before_fault allocates) M first x y o p (standing_after (Err end))
      → PerformsOnTerms (before_fault (allocates || more_allocates)) L (first >>=
      unless_fault more) x y o p (standing_after (Err end))
  performs_last more {o = o} {p = p} ends.Stopped lack done = search (rules, broke_part, none_failed_here)
  performs_last more end lack done = performs_as done (ran_from (came_part (unless_fault more) done.runs)) done.serves

-- ---- actions that allocate

-- An action that allocates at its start allocates as the only action of a list.
taking_one : (part : Part) (s : Switches) (action : Action) (m : Progress)
    → LacksLater (AtAllocation part s (action ∷ [])) m [] [] (AtStartOnly (action_allocates action)) m
taking_one part s action m during shown at = record {
  done = [];
  due = action;
  more = [];
  actions_are = refl;
  allocates = at.0;
  next = m.next;
  left = on_tape m.unread ++ heard during;
  is_played = search rules;
}

-- If an action of the first list allocates, an action of both lists does.
taking_prefix : (part : Part) (s : Switches) (xs ys : List Action) (m : Progress)
    → LacksLater (AtAllocation part s (xs ++ ys)) m [] [] (AtAllocation part s xs) m
taking_prefix part s xs ys m during shown at = search (rules, append_assoc)

-- If an action of the second list allocates after the first ran whole, an action of both lists does.
taking_then : (part : Part) (s : Switches) (xs ys : List Action) {m n : Progress} {o p : Devices}
    (ran : RanWhole (actions_dialog part s xs) m o p NoFault n)
    → LacksLater (AtAllocation part s (xs ++ ys)) m ran.during ran.events (AtAllocation part s ys) n
taking_then part s xs ys {m = m} {n = n} ran during shown at =
    let tape : Tape = on_tape m.unread ++ heard (ran.during ++ during) in
    let first = ap (λ (t : Tape). played (actions_dialog part s xs) m.next (on_tape m.unread ++ t))
    (got_append ran.during during) ∙ ran.plays.plays (heard during) in
    record {
      done = xs ++ at.done;
      due = at.due;
      more = at.more;
      actions_are = search (rules, append_assoc);
      allocates = at.allocates;
      next = at.next;
      left = at.left;
      is_played = search (rules, actions_dialog_append, played_bind, followed);
    }

-- ---- the actions of a plan

-- A host that can be used has done no actions.
pub does_nothing : (plan : Plan) (host : HostState) (o : Devices) → host.broken ≡ None
    → DoesPlanActions plan [] host host o o (Ok NoFault)
does_nothing plan host o sound = nothing_performs NoFault host o sound

-- An action that was performed stays so if allocation may fail at more points.
performs_lacking : {terms : Terms} {L M : RunAllocationPoints} {dialog : Dialog OutputEvent Standing} {x y : HostState}
    {o p : Devices} → LacksLater L x.progress [] [] M x.progress → (result : Result Standing (Unit {0}))
    → PerformsOnTerms terms M dialog x y o p result → PerformsOnTerms terms L dialog x y o p result
unfolding came_here
performs_lacking lack (Ok standing) done = performs_as done done.runs done.serves
performs_lacking {dialog = dialog} {x = x} {o = o} lack (Err stopped) done = performs_as done
    (broke_on (came_here dialog x.progress o) (λ emitted cause notice stops. stops) lack done.runs) done.serves

-- An action that was performed is a list of one action that was done.
pub does_one : (plan : Plan) (action : Action) {x y : HostState} {o p : Devices} {result : Result Standing (Unit {0})}
    → Performs (action_allocates action) (action_dialog plan.part plan.switches action) x y o p result
    → DoesPlanActions plan (action ∷ []) x y o p result
does_one plan action {x = x} {y = y} {o = o} {p = p} {result = result} done =
    search (rules, or-false, actions_dialog_one, performs_lacking, taking_one)

-- Actions that were done are done as an equal list.
pub does_same : (plan : Plan) (xs ys : List Action) {x y : HostState} {o p : Devices}
    {result : Result Standing (Unit {0})}
    → xs ≡ ys → DoesPlanActions plan xs x y o p result → DoesPlanActions plan ys x y o p result
does_same plan xs ys {x = x} {y = y} {o = o} {p = p} {result = result} same done = search rules

-- An operation of the host and the lines about its outcome were done as an action.
pub does_printed : (plan : Plan) (action : Action) {A : Type 0} {a b : Dialog ⊥ (Result A HostFault)}
    (outcome_output : Result A HostFault → List OutputEvent) {x y : HostState} {o p : LinkState} {d e : DeskState}
    {outcome : Result A HostFault} {notice : Result (Unit {0}) DeskFault} {result : Result (Unit {0}) End}
    → action_dialog plan.part plan.switches action ≡ reported b outcome_output
    → ((stop : Stop) → outcome_output (Err (fault_at stop)) ≡ PrintsLine (fault_line plan.part (fault_at stop)) ∷ [])
    → x.broken ≡ None → a ≡ b → Calls (action_allocates action) a x y o p outcome
    → Reports PrintStops d e (outcome_output outcome) notice → result ≡ conclusion outcome notice
    → DoesPlanActions plan (action ∷ []) x y (devices o d) (devices p e) (standing_after result)
does_printed plan action {b = b} outcome_output dialog line sound same calls reports is =
    does_one plan action (rw dialog (operation_performs b outcome_output reports (action_allocates action)
    (print_stops_report _ _ reports) (cause_is_reported plan.part outcome_output line reports) sound
    (calls_of same calls) is))

module _ (plan : Plan) (xs ys : List Action) where
  -- Actions of two lists that were performed in order, the second unless a fault skips them, were done as one list.
  does_both : {x y : HostState} {o p : Devices} {result : Result Standing (Unit {0})}
      → PerformsOnTerms (before_fault (list_any action_allocates xs || list_any action_allocates ys))
      (AtAllocation plan.part plan.switches (xs ++ ys)) (actions_dialog plan.part plan.switches xs
      >>= unless_fault (actions_dialog plan.part plan.switches ys)) x y o p result
      → DoesPlanActions plan (xs ++ ys) x y o p result
  does_both {x = x} {y = y} {o = o} {p = p} {result = result} done =
      search (rules, list_any-append, actions_dialog_append)

  -- If actions were done without a fault, and then others, the actions of both lists were done in order.
  pub does_then : {x y z : HostState} {o p q : Devices} (result : Result Standing (Unit {0}))
      → DoesPlanActions plan xs x y o p (Ok NoFault) → DoesPlanActions plan ys y z p q result
      → DoesPlanActions plan (xs ++ ys) x z o q result
  does_then result done rest =
      does_both (performs_on {K = AtAllocation plan.part plan.switches xs} _ NoFault
      (performs_as done done.runs done.serves) _ (unless_fault (actions_dialog plan.part plan.switches ys)) result
      (search rules) (actions_report _ plan.switches xs) (taking_then plan.part plan.switches xs ys done.runs) rest)

  -- If actions ended in a fault, the actions of both lists ended in it, because the others are skipped.
  pub does_last : {x y : HostState} {o p : Devices} (end : End)
      → DoesPlanActions plan xs x y o p (standing_after (Err end)) → DoesPlanActions plan (xs ++ ys) x y o p
      (standing_after (Err end))
  does_last {x = x} end done = search (rules, does_both, performs_last, taking_prefix)

-- ---- a read, whose bytes are in a vector

-- What an outcome carries does not decide how the session goes on.
pub given_concluded : {A : Type 0} (a : A) (outcome : Result (Unit {0}) HostFault)
    (notice : Result (Unit {0}) DeskFault) → conclusion (result_and outcome (Ok a)) notice ≡ conclusion outcome notice
given_concluded a outcome notice = search rules

-- A read that stopped the run was reported by the line of its cause: the bytes don't matter.
pub given_reported : {A : Type 0} (a : A) (good : A → List OutputEvent) {d e : DeskState} (part : Part)
    (outcome : Result (Unit {0}) HostFault) {notice : Result (Unit {0}) DeskFault}
    → Reports (ReadStops outcome) d e (fault_line_or part good (result_and outcome (Ok a))) notice
    → (stop : Stop) → StopsAs (result_and outcome (Ok a)) stop → ReportsLine d e (cause_line (cause_at stop))
given_reported a good part (Ok ok) reports stop is = absurd (cc)
given_reported a good part (Err fault) reports stop is =
    cause_is_reported part (fault_line_or part good) (λ stop. refl) reports stop is

-- What stopped the report of a read stopped the run: only bytes that were read are saved, and no fault was reported.
pub read_stops_report : (part : Part) (good : List ℕ → List OutputEvent) (items : List ℕ) → reports_fault (good items)
    ≡ false → (outcome : Result (Unit {0}) HostFault) (allocates : Bool) (o : LinkState) {d e : DeskState}
    {notice : Result (Unit {0}) DeskFault}
    → Reports (ReadStops outcome) d e (fault_line_or part good (result_and outcome (Ok items))) notice
    → StopsReport (before_fault allocates) o d e (fault_line_or part good (result_and outcome (Ok items)))
    (ReadStops outcome)
read_stops_report part good items none (Ok done) allocates o {d = d} {e = e} reports =
    search (rules, desk_stops_run, prefix_reports_none)
read_stops_report part good items none (Err fault) allocates o reports = search (rules, print_stops_report)

-- ---- the end of a session

-- What stopped the first part of a dialog stopped the whole.
pub performs_until : {terms : Terms} {L : RunAllocationPoints} {first : Dialog OutputEvent Standing}
    (go_on : Standing → Dialog OutputEvent Standing) {x y : HostState} {o p : Devices} (stopped : Unit {0})
    → PerformsOnTerms terms L first x y o p (Err stopped)
    → PerformsOnTerms terms L (first >>= go_on) x y o p (Err stopped)
performs_until go_on stopped done = search (rules, broke_part)

-- The terms after a fault was reported: nothing is allocated.
abbrev reported_before : Terms
reported_before = record { allocates = false; has_reported = true }

-- After a fault was reported nothing is allocated, and a failed link is not reported.
silent_at : {R : Type 0} (dialog : Dialog ⊥ R) (m : Progress) (o p : LinkState) (d : DeskState) (stop : Stop)
    → StopsOver false dialog m o p stop → ReportsCause true (cause_at stop) [] d d
silent_at dialog m o p d stop over = search rules

-- After a fault was reported, a failed link is reported as the terms want it: not at all.
reported_nothing : {A R : Type 0} (dialog : Dialog ⊥ R) (m : Progress) (o p : LinkState) {outcome : Result A HostFault}
    (d : DeskState) (stop : Stop) → StopsAs outcome stop
    → StopsOver false dialog m o p stop → ReportedBy reported_before (cause_at stop) (devices o d) (devices p d)
reported_nothing dialog m o p d stop is over =
    search (rules, stop_come false dialog m o p d stop over, silent_at dialog m o p d stop over, follows_here d)

-- programming mode is left without a report
pub quietly_performs : {old new : HostState} {o p : LinkState} (d : DeskState) {outcome : Result (Unit {0}) HostFault}
    {result : Result (Unit {0}) End} → old.broken ≡ None → Calls false closing old new o p outcome
    → result ≡ conclusion outcome (Ok tt)
    → PerformsOnTerms reported_before (AtStartOnly false) (reported closing (λ _. [])) old new (devices o d)
    (devices p d) (standing_after result)
quietly_performs {old = old} {o = o} {p = p} d sound calls is =
    let reports : Reports PrintStops d d [] (Ok tt) =
    record { emits = (kept_none d.kept, same_here d); follows = follows_here d } in
    search (rules, action_performs, print_stops_report, reported_nothing)

-- After programming mode was left, nothing more goes over the link.
pub quietly_over : {first : Dialog OutputEvent Standing} {L : RunAllocationPoints} {x y : HostState} {o p : Devices}
    (standing : Standing) → PerformsOnTerms reported_before L first x y o p (Ok standing)
    → PerformsOnTerms reported_before L (first >>= λ _. Done Over) x y o p (Ok Over)
quietly_over {y = y} {p = p} standing done =
    performs_as done (ran_on (came_part (λ _. Done Over) done.runs) (ran_from (came_here (Done Over) y.progress p))) tt

-- Actions that were done, and then the end for their state, were performed as a whole session.
pub ends_so : (plan : Plan) (standing : Standing) {x y z : HostState} {o p q : Devices}
    (result : Result Standing (Unit {0})) → DoesPlanActions plan (actions plan) x y o p (Ok standing)
    → EndsSession plan standing y z p q result → PlaysSession plan x z o q result
ends_so plan standing result done rest =
    performs_on _ standing done false (ending plan.part plan.switches) result (λ e. absurd (cc))
    (actions_report _ plan.switches (actions plan)) (λ during shown never. let e = never.0 in absurd (cc)) rest

-- A whole session that was performed ran to the status of its state.
pub session_played : (plan : Plan) {x y : HostState} {o p : Devices} (standing : Standing) → x.progress ≡ start
    → PlaysSession plan x y o p (Ok standing) → RanToStatus (session plan) o p (status_of standing)
unfolding session
session_played plan {x = x} {y = y} {o = o} {p = p} standing first done =
    let ran = ran_on (came_part (λ standing. Done (status_of standing)) done.runs)
    (ran_from (came_here (Done (status_of standing)) y.progress p)) in search rules

-- A session that stopped broke off.
pub session_stopped : (plan : Plan) {x y : HostState} {o p : Devices} (stopped : Unit {0}) → x.progress ≡ start
    → PlaysSession plan x y o p (Err stopped) → StopsSession plan o p
unfolding session
session_stopped plan {o = o} {p = p} stopped first done = search (rules, broke_part)
