-- A session's state records whether a fault was reported in it: laws of dialogs alone.
use Rattle.std.proofs.Common.{◌≡◌, ℕ, true, false, List, [], ◌∷◌, ◌++◌, map, refl, ap, ◌∙◌, subst, append-nil, Option, Some, None, Result, rules}
use Rattle.std.proofs.lemmas.Bool.{or_parts}
use Rattle.std.proofs.lemmas.List.Folds.{list_any-append}
use Rattle.avr_io.specs.Record.{DeskState, Bytes}
use Rattle.avr_plan.specs.declared.settings.Switches.{Switches}
use Rattle.avr_plan.specs.declared.update.Format.{Format}
use Rattle.avr_part.specs.Part.{Part}
use Rattle.avr_part.specs.declared.part.Mem.{Mem}
use Rattle.stk_host.specs.declared.fault.HostFault.{HostFault}
use Rattle.stk_host.specs.Tape.{Tape, Reading, on_tape, answer}
use Rattle.stk_host.specs.Play.{Progress}
use Rattle.stk_host.specs.Transcript.{heard}
use Rattle.stk_host.specs.Dialog.{Dialog, Done, Emit, Ask, ◌>>=◌, lifted, Event, Emitted, Played, played, continue_with_reading, next, outputs}
use Rattle.avr_io.specs.OutputEvents.{OutputEvent, PrintsLine}
use Rattle.avr_session.specs.Standing.{Standing, NoFault}
use Rattle.avr_session.specs.Actions.{Action, OpenSession}
use Rattle.avr_session.specs.Lines.{fault_line}
use Rattle.avr_session.specs.Performing.{has_fault}
use Rattle.avr_session.specs.Runs.{Devices, Cause, SendingFailed, reports_fault, RanWhole, StopsAt}
use Rattle.avr_session.specs.Reporting.{OutputsPrefix}
use Rattle.avr_session.specs.Session.{emits, standing, reported, unless_fault, read_output, action_dialog, actions_dialog}
use Rattle.avr_session.proofs.Runs.Stops.{outputs_by}

-- ---- along every path of a dialog

-- whatever is read, this holds of the whole output and the result
abbrev pub Along : {R : Type 0} → (List OutputEvent → R → Type 0) → Dialog OutputEvent R → Type 0
Along P (Done r) = P [] r
Along P (Emit e dialog) = Along (λ emitted r. P (e ∷ emitted) r) dialog
Along {R = R} P (Ask body resume) = (reading : Reading) → Along P (resume reading)

-- If P holds along a dialog, and Q along what follows each of its outputs and results, Q holds along both together.
pub along_bind : {A R : Type 0} (P : List OutputEvent → A → Type 0) (Q : List OutputEvent → R
    → Type 0) (dialog : Dialog OutputEvent A) (go_on : A → Dialog OutputEvent R) → Along P dialog
    → ((emitted : List OutputEvent) (a : A) → P emitted a → Along (λ more r. Q (emitted ++ more) r) (go_on a))
    → Along Q (dialog >>= go_on)
along_bind P Q (Done a) go_on f g = g [] a f
along_bind P Q (Emit e dialog) go_on f g =
    along_bind (λ emitted. P (e ∷ emitted)) (λ emitted. Q (e ∷ emitted)) dialog go_on f (λ emitted. g (e ∷ emitted))
along_bind P Q (Ask body resume) go_on f g = λ reading. along_bind P Q (resume reading) go_on (f reading) g

-- An operation of the host outputs nothing on any path.
pub along_lifted : {R : Type 0} (dialog : Dialog ⊥ R) → Along (λ emitted r. emitted ≡ []) (lifted dialog)
along_lifted (Done r) = refl
along_lifted (Emit e dialog) = absurd e
along_lifted (Ask body resume) = λ reading. along_lifted (resume reading)

-- What holds after these output events, put before, holds along the dialog that outputs them first.
pub along_output : {R : Type 0} (Q : List OutputEvent → R
    → Type 0) (xs : List OutputEvent) (dialog : Dialog OutputEvent R)
    → Along (λ more r. Q (xs ++ more) r) dialog → Along Q (emits xs dialog)
along_output Q [] dialog f = f
along_output Q (x ∷ xs) dialog f = along_output (λ emitted r. Q (x ∷ emitted) r) xs dialog f

-- a run follows one of the paths
abbrev Ends : {R : Type 0} → (List OutputEvent → R → Type 0) → List OutputEvent → Option (R × ℕ × Tape) → Type 0
Ends P emitted None = Unit {0}
Ends P emitted (Some x) = P emitted x.0

-- What holds along a dialog holds of the output and result of its run over any tape.
along_play : {R : Type 0} (P : List OutputEvent → R → Type 0) (dialog : Dialog OutputEvent R) (seq : ℕ) (tape : Tape)
    → Along P dialog → Ends P (outputs (played dialog seq tape).events) (played dialog seq tape).outcome
along_play P (Done r) seq tape f = f
along_play P (Emit e dialog) seq tape f = search (rules, along_play (λ emitted r. P (e ∷ emitted) r) dialog seq tape f)
along_play {R = R} P (Ask body resume) seq tape f =
    let go : Reading → Tape → Played OutputEvent R = λ r. played (resume r) (next seq) in
    elim (answer seq tape) as (λ o. let p = continue_with_reading go o in Ends P (outputs p.events) p.outcome) [
      | None ↦ tt
      | Some got ↦ along_play P (resume got.0) (next seq) got.1 (f got.0)
    ]

-- ---- the state of a session

-- The output has the line of a fault just if the state says that a fault was reported.
abbrev pub FaultAsInState : List OutputEvent → Standing → Type 0
FaultAsInState emitted standing = reports_fault emitted ≡ has_fault standing

-- This holds on each path of the dialog.
abbrev pub ReportsFault : Dialog OutputEvent Standing → Type 0
ReportsFault dialog = Along FaultAsInState dialog

-- A dialog that ran whole output the line of a fault just if its state says so.
pub fault_reported : {dialog : Dialog OutputEvent Standing} {m n : Progress} {o p : Devices} {standing : Standing}
    → ReportsFault dialog → (ran : RanWhole dialog m o p standing n) → reports_fault (outputs ran.events)
    ≡ has_fault standing
fault_reported {dialog = dialog} {m = m} f ran =
    subst (λ (p : Played OutputEvent Standing). Ends FaultAsInState (outputs p.events) p.outcome) (ran.plays.plays [])
    (along_play FaultAsInState dialog m.next (on_tape m.unread ++ (heard ran.during ++ [])) f)

-- It holds of two dialogs in order, the second of which a fault skips, if it holds of each.
pub then_reports : (first more : Dialog OutputEvent Standing) → ReportsFault first → ReportsFault more
    → ReportsFault (first >>= unless_fault more)
then_reports first more f g = search (rules, along_bind, list_any-append, append-nil)

-- It holds of an operation and its report, if it holds of the report about each outcome.
operation_reports : {A : Type 0} (operation : Dialog ⊥ (Result A HostFault))
    (outcome_output : Result A HostFault → List OutputEvent)
    → ((outcome : Result A HostFault) → reports_fault (outcome_output outcome) ≡ has_fault (standing outcome))
    → ReportsFault (reported operation outcome_output)
operation_reports operation outcome_output f =
    along_bind (λ emitted outcome. emitted ≡ []) FaultAsInState (lifted operation) _ (along_lifted operation)
    λ emitted outcome none. along_output (λ more after. FaultAsInState (emitted ++ more) after) (outcome_output outcome)
    (Done (standing outcome)) (search rules)

-- It holds of output without the line of a fault, after which no fault is noted.
output_reports : (outputs : List OutputEvent) → reports_fault outputs ≡ false
    → ReportsFault (emits outputs (Done NoFault))
output_reports outputs f = search (rules, along_output, append-nil)

-- ---- lines that report no fault, and those that do

-- A fault's line is the line of an error.
fault_reports : (part : Part) (fault : HostFault) → reports_fault (PrintsLine (fault_line part fault) ∷ []) ≡ true
unfolding fault_line
fault_reports part fault = refl

-- The output about bytes that were read has no line of an error.
pub read_none : (s : Switches) (mem : Mem) (format : Format) (file bytes : Bytes)
    → reports_fault (read_output s mem format file bytes) ≡ false
read_none s mem format file bytes = search rules

-- ---- the actions of a session

-- It holds of each action of a session.
pub action_reports : (part : Part) (s : Switches) (action : Action) → ReportsFault (action_dialog part s action)
action_reports part s OpenSession = search (rules, operation_reports, list_any-append, fault_reports)
action_reports part s action =
    search (rules, operation_reports, fault_reports, output_reports)

-- It holds of actions in order.
pub actions_report : (part : Part) (s : Switches) (actions : List Action) → ReportsFault (actions_dialog part s actions)
actions_report part s [] = refl
actions_report part s (action ∷ actions) =
    search (rules, then_reports, action_reports, actions_report part s actions)

-- ---- a prefix of output without a fault has none

-- Output events that are those of a list without the line of a fault have none.
quiet_by : (begun : List OutputEvent) (events : List (Event OutputEvent)) → map Emitted begun ≡ events
    → reports_fault (outputs events) ≡ false → reports_fault begun ≡ false
quiet_by begun events is none = ap reports_fault (outputs_by begun events is) ∙ none

-- The event that was begun when a cause stopped the output is no line of a fault, if none follows.
begun_none : (cause : Cause) (whole begun later : List OutputEvent)
    → StopsAt cause [] (map Emitted whole) (map Emitted begun) (map Emitted later) → reports_fault later ≡ false
    → reports_fault begun ≡ false
begun_none SendingFailed whole begun later x none = search (rules, quiet_by)
begun_none cause whole begun later x none = search (rules, quiet_by, outputs_by, or_parts)

-- A prefix of output without the line of a fault has none.
pub prefix_reports_none : {cause : Cause} {old new : DeskState} {outputs : List OutputEvent}
    (prefix : OutputsPrefix cause old new outputs) → reports_fault outputs ≡ false
    → reports_fault (prefix.whole ++ prefix.begun) ≡ false
prefix_reports_none {cause = cause} prefix none = search (rules, or_parts, list_any-append, begun_none)
