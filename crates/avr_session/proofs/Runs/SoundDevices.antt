-- If no device failed, a run was complete, or its messages report that allocation failed.
use Rattle.std.proofs.Common.{◌≡◌, ℕ, Bool, false, rules}
use Rattle.avr_io.specs.Record.{Record}
use Rattle.avr_plan.specs.Plan.{Plan}
use Rattle.stk_host.specs.Play.{Progress}
use Rattle.stk_host.specs.Transcript.{LinkState}
use Rattle.stk_host.specs.Dialog.{Dialog}
use Rattle.avr_io.specs.OutputEvents.{OutputEvent}
use Rattle.avr_session.specs.Actions.{plan_allocates}
use Rattle.avr_session.specs.Runs.{AllocationFailed, Devices, devices, cause_line, before_fault, RunAllocationPoints, BrokeOff}
use Rattle.avr_session.specs.Run.{RunsSession}
use Rattle.avr_session.specs.Session.{session}
use Rattle.avr_session.specs.Stopping.{keeping, IsSound, EndWithLine, RanToStatus}

-- If no device failed, allocation is the only cause that is left, so the messages of a run that broke off end with its
-- line.
pub broke_lacks : {R : Type 0} {L : RunAllocationPoints} (dialog : Dialog OutputEvent R) (m : Progress)
    (o p : LinkState) (before after : Record) (a b : ℕ × ℕ) (allocates : Bool)
    → IsSound (devices o (keeping before a)) (devices p (keeping after b))
    → BrokeOff dialog m (devices o (keeping before a)) (devices p (keeping after b)) (before_fault allocates) L
    → EndWithLine (cause_line AllocationFailed) after.messages
broke_lacks dialog m o p before after a b allocates sound f = search rules

-- a run is complete if no device failed and, by its messages, no allocation did
pub sound_run : (plan : Plan) (o p : LinkState) (before after : Record) (a b : ℕ × ℕ) (status : ℕ)
    → IsSound (devices o (keeping before a)) (devices p (keeping after b))
    → (EndWithLine (cause_line AllocationFailed) after.messages → ⊥)
    → RunsSession plan (devices o (keeping before a)) (devices p (keeping after b)) status
    → RanToStatus (session plan) (devices o (keeping before a)) (devices p (keeping after b)) status
sound_run plan o p before after a b status sound has_memory k' = search (rules, broke_lacks)

-- if nothing is allocated, the run is complete, whatever the messages are
pub exact_run : (plan : Plan) (old new : Devices) (status : ℕ) → IsSound old new → plan_allocates plan ≡ false
    → RunsSession plan old new status → RanToStatus (session plan) old new status
exact_run plan old new status sound none g' = search rules
