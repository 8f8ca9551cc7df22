-- An operation of the host and its report, as an action of a session.
use Rattle.std.proofs.Common.{◌≡◌, ℕ, ◌≤◌, Bool, true, List, [], length, ◌∷◌, Result, Ok, Err, inl, inr, ◌⊎◌, rules}
use Rattle.avr_io.specs.Record.{DeskState}
use Rattle.avr_io.specs.declared.desk.DeskFault.{DeskFault}
use Rattle.avr_part.specs.Part.{Part}
use Rattle.stk_host.specs.declared.fault.HostFault.{HostFault}
use Rattle.stk_host.specs.declared.fault.HostFault.TheVariants.{SendFailed, Memory, RecvFailed}
use Rattle.stk_host.specs.Operations.{operation}
use Rattle.stk_host.specs.Transcript.{LinkState}
use Rattle.stk_host.specs.Dialog.{Dialog, Done, played}
use Rattle.stk_host.specs.Play.{Progress, RunsOverLink, BreaksOverLink}
use Rattle.stk_host.proofs.Dialogs.Lifted.{outputs_raised}
use Rattle.avr_io.specs.OutputEvents.{OutputEvent, PrintsLine, ReportsLine}
use Rattle.avr_session.specs.Concluding.{conclusion, standing_after}
use Rattle.avr_session.specs.Lines.{fault_line}
use Rattle.avr_session.specs.Session.{standing, reported, opening_output}
use Rattle.avr_session.specs.AllocationPoints.{AtStartOnly}
use Rattle.avr_session.specs.Runs.{Cause, AllocationFailed, devices, Terms, cause_line, CauseOccurred}
use Rattle.avr_session.specs.Performing.{Runs}
use Rattle.avr_session.specs.Reporting.{PrintStops, OutputsOrStops, Reports}
use Rattle.avr_io.proofs.Lines.ReportedAs.{same_here}
use Rattle.avr_session.proofs.ActionByAction.Reports.{reported_some}
use Rattle.avr_session.proofs.Runs.Calls.{came_lifted, came_emitted, came_on, ran_from, broke_quietly, broke_output, broke_operation, broke_lacking, broken_cause, StopsReport, ReportedBy}

-- Why an operation stops a run: the link failed during it, or allocation failed.
pub data Stop : Type 0 where
  Unsent : Stop
  Unreceived : Stop
  Lacks : Stop

-- The fault that the host gives for such a stop.
abbrev pub fault_at : Stop → HostFault
fault_at Unsent = SendFailed
fault_at Unreceived = RecvFailed
fault_at Lacks = Memory

-- The cause that the run reports for such a stop.
abbrev pub cause_at : Stop → Cause
cause_at Lacks = AllocationFailed
cause_at stop = broken_cause (fault_at stop)

-- The outcome is the fault of this stop.
abbrev pub StopsAs : {A : Type 0} → Result A HostFault → Stop → Type 0
StopsAs outcome stop = outcome ≡ Err (fault_at stop)

-- the link broke the dialog off; or allocation, if it is needed, failed before anything was sent or received
abbrev pub StopsOver : {R : Type 0} → Bool → Dialog ⊥ R → Progress → LinkState → LinkState → Stop → Type 0
StopsOver allocates dialog m o p Lacks = (allocates ≡ true) × (p ≡ o)
StopsOver allocates dialog m o p stop = BreaksOverLink (fault_at stop) dialog m o p

-- How a call ended: it ran to an outcome that stops nothing, or it stopped.
abbrev pub Ended : {A : Type 0} → Bool → Dialog ⊥ (Result A HostFault) → Progress → LinkState → LinkState
    → Result A HostFault → Progress → Type 0
Ended allocates dialog m o p outcome n =
    (RunsOverLink dialog m o p outcome n × (standing_after (conclusion outcome (Ok tt)) ≡ Ok (standing outcome)))
    ⊎ ((stop : Stop) × StopsAs outcome stop × StopsOver allocates dialog m o p stop)

-- a stop is reported, if the line of such a fault is the whole output for it
pub cause_is_reported : {A : Type 0} (part : Part) (is_reported : Result A HostFault → List OutputEvent)
    → ((stop : Stop) → is_reported (Err (fault_at stop)) ≡ PrintsLine (fault_line part (fault_at stop)) ∷ [])
    → {d e : DeskState} {outcome : Result A HostFault} {emitted : Result (Unit {0}) DeskFault}
    → Reports PrintStops d e (is_reported outcome) emitted → (stop : Stop) → StopsAs outcome stop
    → ReportsLine d e (cause_line (cause_at stop))
unfolding cause_line fault_line
cause_is_reported part is_reported line {d = d} {e = e} {emitted = emitted} reports stop is =
    search (rules, reported_some)

-- Each fault that stops a run has its line alone as the output about opening.
pub opening_line : (quiet : ℕ) (part : Part) (stop : Stop)
    → opening_output quiet part (Err (fault_at stop)) ≡ PrintsLine (fault_line part (fault_at stop)) ∷ []
opening_line quiet part stop = search rules

-- what stops a run is counted, or is a failed allocation
pub stop_come : {R : Type 0} (allocates : Bool) (dialog : Dialog ⊥ R) (m : Progress) (o p : LinkState) (d : DeskState)
    (stop : Stop) → StopsOver allocates dialog m o p stop
    → CauseOccurred allocates (devices o d) (devices p d) (cause_at stop)
stop_come allocates dialog m o p d stop over = search (rules, same_here)

-- An operation and its report are an action of a session.
pub operation_runs : {A : Type 0} (operation : Dialog ⊥ (Result A HostFault))
    (outcome_output : Result A HostFault → List OutputEvent) (m n : Progress) {o p : LinkState} {d e : DeskState}
    (outcome : Result A HostFault) (emitted : Result (Unit {0}) DeskFault) (terms : Terms)
    (By : DeskState → DeskState → Cause → List ℕ → Type 0) → StopsReport terms p d e (outcome_output outcome) By
    → Ended terms.allocates operation m o p outcome n → length n.unread ≤ 281
    → OutputsOrStops By d e (outcome_output outcome) emitted
    → ((stop : Stop) → StopsAs outcome stop → StopsOver terms.allocates operation m o p stop
    → ReportedBy terms (cause_at stop) (devices o d) (devices p e))
    → Runs (reported operation outcome_output) m (devices o d) (devices p e) terms (AtStartOnly terms.allocates)
    (standing_after (conclusion outcome emitted)) n
unfolding came_lifted
operation_runs operation outcome_output m n {p = p} {d = d} outcome (Ok done) terms By why (inl played) few reports _ =
    rw played.1 (ran_from (came_on (came_lifted _ d played.0 few)
    (came_emitted (outcome_output outcome) (Done (standing outcome)) n p reports)))
operation_runs operation outcome_output m n {p = p} {d = d} outcome (Err _) terms By why (inl played) few reports _ =
    broke_quietly (came_lifted _ d played.0 few) (outputs_raised played.0.events)
    (broke_output (outcome_output outcome) (Done (standing outcome)) n p why reports)
operation_runs operation outcome_output m n outcome emitted terms By why (inr stops) few reports notice =
    search (rules, broke_lacking, broke_operation)
