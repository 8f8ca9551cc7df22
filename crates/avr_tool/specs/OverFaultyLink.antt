-- What the session of a plan did over a link, whatever the link loses, delays and corrupts. It is stated first by the
-- exchanges of its frames, then over a wire to the emulated programmer, by their fates.
use Rattle.std.specs.List.{AllByRecursion}
use Rattle.std.specs.Prelude.{ℕ, ◌*◌, ◌≡◌, ◌≤◌, ◌⊎◌, false, List, map, flat_map, sum_by, length}
use Rattle.avr_plan.specs.declared.settings.Switches.{Switches}
use Rattle.avr_io.specs.Record.{DeskState, ChangesRecord}
use Rattle.avr_io.specs.OutputEvents.{OutputEvent, after_events}
use Rattle.avr_part.specs.declared.part.Mem.{Mem}
use Rattle.avr_plan.specs.Plan.{Plan}
use Rattle.avr_session.specs.PlanSteps.{run_steps}
use Rattle.avr_session.specs.Run.{StopsSession}
use Rattle.avr_session.specs.Runs.{devices}
use Rattle.avr_session.specs.Session.{session}
use Rattle.stk_emu.specs.Effect.{Memories, memories_of}
use Rattle.stk_emu.specs.Programmer.{Programmer, fresh_programmer}
use Rattle.stk_emu.specs.Exchange.{Exchange, AsIntended}
use Rattle.stk_emu.specs.Wire.{exchanges_of_fates}
use Rattle.stk_emu.specs.Wired.{WiredState, wired_link}
use Rattle.stk_frame.specs.Commands.{body}
use Rattle.stk_frame.specs.Cut.{body_of, frames}
use Rattle.stk_host.specs.Dialog.{Event, played, outputs}
use Rattle.stk_host.specs.Transcript.{sent, heard}
use Rattle.avr_tool.specs.ExpectedRun.{expected_run}
use Rattle.avr_tool.specs.Items.{asked_items}
use Rattle.avr_tool.specs.Outcome.{IsExpectedRun, IsDone, MakesWriteOperations}
use Rattle.avr_tool.specs.Written.{IsWritten, comparing}

-- No frame goes wrong.
abbrev pub AllArriveRight : List Exchange → Type 0
AllArriveRight exchanges = AllByRecursion (λ one_exchange. one_exchange ≡ AsIntended) exchanges

-- A session of this plan, however it ends, also if it breaks off or waits forever. Its frames had these exchanges and
-- led the programmer from `p` to `q`, and these bytes were sent.
pub record OverExchanges (plan : Plan) (p q : Programmer) (exchanges : List Exchange) (bytes : List ℕ) : Type 0 where
  -- the first write operations of the plan were made: those completed, and perhaps one more
  pub write_operations : MakesWriteOperations plan p exchanges (length (frames bytes)) (memories_of p.chip)
      (memories_of q.chip)
  -- At most four frames for each command of the plan's steps, by every weight of bodies. Weight 1 counts frames, the
  -- body's length counts bytes, and 1 or 0 counts one command.
  pub four : (weight : List ℕ → ℕ) → sum_by weight (map body_of (frames bytes))
      ≤ 4 * sum_by weight (flat_map (map body) (run_steps plan))

-- What also holds of a session that ended with this status. The expected run is the output, the status and the memories
-- of the same plan over a perfect link.
pub record EndsOverExchanges (plan : Plan) (before after : Memories) (exchanges : List Exchange)
    (output_events : List OutputEvent) (status : ℕ) : Type 0 where
  -- with status 0 the session is its expected run: only faults of the link were hidden
  pub success : status ≡ 0 → IsExpectedRun plan before after output_events status
  -- all that the plan writes was written, and all that it compares agreed
  pub done : status ≡ 0 → IsDone plan before after
  -- each memory holds its images, later over earlier; the rest is as it was, or as an erase leaves it
  pub images : status ≡ 0 → plan.switches.no_verify ≡ false → IsWritten plan.part (asked_items plan) before after
  -- so a further run that compares memories with their images has status 0, if none of its frames goes wrong
  pub further : status ≡ 0 → plan.switches.no_verify ≡ false → (s : Switches) (mems : List Mem) → s.erase ≡ false
      → (expected_run (comparing plan s mems) after).status ≡ 0
  -- if no frame goes wrong, the session is its expected run
  pub good : AllArriveRight exchanges → IsExpectedRun plan before after output_events status

-- ---- over a wire

-- The memories of the wire's chip; below, all events of the session over what was received.
abbrev pub memories : WiredState → Memories
memories w = memories_of w.wire.programmer.chip

abbrev pub events_over : Plan → WiredState → List (Event OutputEvent)
events_over plan w = (played (session plan) 1 (heard w.transcript)).events

-- What a session of this plan did between these states of a wire, whatever the fates of its frames. It ran to its
-- status, and all its output was done at the desk; or it stopped with status 1.
pub record SessionOverWire (plan : Plan) (before after : WiredState) (old now : DeskState) (status : ℕ) : Type 0 where
  pub along_exchanges : OverExchanges plan (fresh_programmer before.wire.programmer.chip) after.wire.programmer
      (exchanges_of_fates before.wire.fates) (sent after.transcript)
  pub end : (EndsOverExchanges plan (memories before) (memories after) (exchanges_of_fates before.wire.fates)
      (outputs (events_over plan after)) status × ChangesRecord (after_events (outputs (events_over plan after))) old
      now) ⊎ (StopsSession plan (devices (wired_link before) old) (devices (wired_link after) now) × (status ≡ 1))
