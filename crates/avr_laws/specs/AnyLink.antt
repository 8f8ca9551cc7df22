-- What holds of a session over a link that forges no frame, besides what avr_tool's OverFaultyLink states: its
-- reports are true and expected, and few bad frames change nothing.
use Rattle.std.specs.Prelude.{ℕ, ◌≡◌, ◌⊎◌, true, List}
use Rattle.avr_io.specs.Record.{DeskState, ChangesRecord}
use Rattle.avr_io.specs.OutputEvents.{OutputEvent, after_events}
use Rattle.avr_plan.specs.Plan.{Plan}
use Rattle.avr_session.specs.Actions.{actions}
use Rattle.stk_emu.specs.Device.{device}
use Rattle.stk_emu.specs.Effect.{Memories, memories_of}
use Rattle.stk_emu.specs.Programmer.{Programmer, fresh_programmer}
use Rattle.stk_emu.specs.Exchange.{Exchange}
use Rattle.stk_emu.specs.Wire.{exchanges_of_fates}
use Rattle.stk_emu.specs.Wired.{WiredState, wired_link}
use Rattle.stk_host.specs.Dialog.{Event, outputs}
use Rattle.stk_host.specs.Transcript.{sent}
use Rattle.avr_session.specs.Run.{StopsSession}
use Rattle.avr_session.specs.Runs.{devices}
use Rattle.avr_tool.specs.OverFaultyLink.{EndsOverExchanges, OverExchanges, events_over, memories}
use Rattle.avr_tool.specs.ExpectedOutput.{IsExpectedOutput, OutputToFault}
use Rattle.avr_tool.specs.ExpectedRun.{expected_run}
use Rattle.avr_tool.specs.Items.{items, has_erase}
use Rattle.avr_tool.specs.Outcome.{IsExpectedRun}
use Rattle.avr_laws.specs.Again.{AgreesOnTwoChips}
use Rattle.avr_laws.specs.FewBadFrames.{AtMostThreeBadOfSeven}
use Rattle.avr_laws.specs.TrueReports.{IsTrueReport, EmittedTrue}

-- Everything reported among these events was true of the chip as the frames sent before had left it.
abbrev pub ReportsWereTrue : Plan → Programmer → List Exchange → List (Event OutputEvent) → Type 0
ReportsWereTrue plan p exchanges events =
    EmittedTrue device (λ q event. IsTrueReport plan (memories_of p.chip) (memories_of q.chip) event)
    events exchanges p

-- What holds of a session however it ends, also if it breaks off or waits forever. These are its events over what was
-- received.
pub record ReportsOverExchanges (plan : Plan) (p q : Programmer) (exchanges : List Exchange) (bytes : List ℕ)
    (events : List (Event OutputEvent)) : Type 0 where
  pub leaves : OverExchanges plan p q exchanges bytes
  -- each line reported and each file written was true of the chip at that moment
  pub reports_are_true : ReportsWereTrue plan p exchanges events
  -- the output is the expected run's, or that of the actions that ended and then the line of a failed step
  pub output_is_expected : IsExpectedOutput plan (memories_of p.chip) (outputs events)

-- The output and the status of a session at its end: those of the expected run, or status 1 after a failed step.
abbrev pub EndsAsExpected : Plan → Memories → List OutputEvent → ℕ → Type 0
EndsAsExpected plan m output_events status =
    ((output_events ≡ (expected_run plan m).output_events) × (status ≡ (expected_run plan m).status))
    ⊎ (OutputToFault plan.part plan.switches (actions plan) m output_events × (status ≡ 1))

-- What holds besides for a session with this status.
pub record EndsAndReportsOverExchanges (plan : Plan) (before after : Memories) (exchanges : List Exchange)
    (output_events : List OutputEvent) (status : ℕ) : Type 0 where
  pub comes : EndsOverExchanges plan before after exchanges output_events status
  -- with the line of a failed step the status is 1
  pub emitted : EndsAsExpected plan before output_events status
  -- few bad frames change nothing
  pub if_few_bad : AtMostThreeBadOfSeven exchanges → IsExpectedRun plan before after output_events status
  -- then some plans succeed, whatever the chip held
  pub again : AtMostThreeBadOfSeven exchanges → has_erase (items plan) ≡ true → AgreesOnTwoChips plan → status ≡ 0

-- What holds of a session that ran whole.
abbrev pub WholeSessionOverExchanges : Plan → Programmer → Programmer → List Exchange → List ℕ
    → List (Event OutputEvent) → ℕ → Type 0
WholeSessionOverExchanges plan p q exchanges bytes events status =
    ReportsOverExchanges plan p q exchanges bytes events
    × EndsAndReportsOverExchanges plan (memories_of p.chip) (memories_of q.chip) exchanges (outputs events) status

-- What a session did between these states of a wire: what avr_tool's `SessionOverWire` states, and all of this.
pub record OverAnyWire (plan : Plan) (before after : WiredState) (old now : DeskState) (status : ℕ) : Type 0 where
  pub along_exchanges : ReportsOverExchanges plan (fresh_programmer before.wire.programmer.chip) after.wire.programmer
      (exchanges_of_fates before.wire.fates) (sent after.transcript) (events_over plan after)
  pub end : (EndsAndReportsOverExchanges plan (memories before) (memories after) (exchanges_of_fates before.wire.fates)
      (outputs (events_over plan after)) status × ChangesRecord (after_events (outputs (events_over plan after))) old
      now) ⊎ (StopsSession plan (devices (wired_link before) old) (devices (wired_link after) now) × (status ≡ 1))
