-- THE PROMISE FOR ANY PROGRAMMER THAT KEEPS THE TABLE: what status 0 means for the chip and the desk, over a link that
-- forges no frame. docs/CHECK.md reads it out.
use Rattle.std.specs.Prelude.{ℕ, List, []}
use Rattle.avr_io.specs.Record.{Record}
use Rattle.avr_part.specs.declared.part.Mem.{Mem}
use Rattle.avr_part.specs.Part.{Part, IsPart}
use Rattle.avr_plan.specs.Plan.{Plan}
use Rattle.stk_emu.specs.Device.{Device}
use Rattle.stk_emu.specs.Effect.{Memories}
use Rattle.stk_emu.specs.Exchange.{Execution}
use Rattle.stk_emu.specs.Settled.{FitsPart}
use Rattle.stk_frame.specs.Cut.{frames}
use Rattle.stk_host.specs.Transcript.{Transcript, heard, sent}
use Rattle.avr_laws.specs.AnyTape.{after_sent_frames}
use Rattle.avr_laws.specs.Kept.{HasGeometryOf, KeepsOnPart, NoneForged, on_part}
use Rattle.avr_laws.specs.Sheet.{IsVouched, SuitsPlan}
use Rattle.avr_laws.specs.Table.{IsProgrammer}

-- WHAT STATUS 0 MEANS, by what passed over the link. Whatever state the programmer was in, whichever of the frames sent
-- it executed, in order, and wherever it restarted, the plan was kept, if these hold. The programmer keeps the rows that
-- the sheet vouches for. Its chip's part has the geometry of the plan's part. The plan asks for no other row.
abbrev pub IsKeptByAny : {P : Type 0} → Part → Device P → (P → Memories) → (P → Type 0) → (P → Type 0)
    → (Mem → ℕ → ℕ) → Plan → Transcript → Record → Record → Type 0
IsKeptByAny {P = P} part m view IsIn IsReady becomes plan passed old now =
    IsPart part → HasGeometryOf plan.part part
    → IsProgrammer part m view IsIn IsReady (IsVouched becomes part)
    → (p : P) (executions : List Execution) → IsIn p → FitsPart part (view p)
    → SuitsPlan becomes (on_part part plan) (view p)
    → NoneForged m (frames (sent passed)) (heard passed) p executions []
    → KeepsOnPart part plan (view p) (view (after_sent_frames m (frames (sent passed)) executions p)) old now
