-- WHATEVER THE STATUS: which write operations a program made, by the port that the command line names.
use Rattle.std.specs.Prelude.{◌≡◌, ◌⊎◌, ℕ, false, List, [], Some, None}
use Rattle.clap.specs.Words.{matches_of}
use Rattle.avr_plan.specs.Command.{avrstk}
use Rattle.avr_plan.specs.declared.settings.Port.{Port}
use Rattle.avr_plan.specs.declared.settings.Port.TheVariants.{Stdio, Emulated, Network, Served}
use Rattle.avr_plan.specs.declared.settings.Settings.{Settings}
use Rattle.avr_io.specs.Record.{Bytes, Record}
use Rattle.avr_laws.specs.AskedSettings.{AsksFor, AsksToServe}
use Rattle.avr_laws.specs.AnyTape.{after_sent_frames}
use Rattle.avr_laws.specs.Kept.{HasGeometryOf, NoneForged, on_part}
use Rattle.avr_laws.specs.KeptByPort.{ConnectionState, KeepsPlan}
use Rattle.avr_laws.specs.Sheet.{IsVouched, SuitsPlan}
use Rattle.avr_laws.specs.Table.{IsProgrammer}
use Rattle.avr_part.specs.Part.{Part, IsPart}
use Rattle.avr_part.specs.Sound.{IsSoundChip}
use Rattle.avr_part.specs.declared.part.Mem.{Mem}
use Rattle.avr_plan.specs.Plan.{Plan}
use Rattle.avr_tool.specs.Outcome.{HasFirstOperations}
use Rattle.stk_emu.specs.Device.{Device, device}
use Rattle.stk_emu.specs.Effect.{Memories, memories_of}
use Rattle.stk_emu.specs.Exchange.{Execution}
use Rattle.stk_emu.specs.Programmer.{Programmer}
use Rattle.stk_emu.specs.Settled.{FitsPart}
use Rattle.stk_frame.specs.Cut.{frames}
use Rattle.stk_host.specs.Transcript.{LinkState, Transcript, heard, sent}

-- THE PLAN'S FIRST WRITE OPERATIONS WERE MADE, in order, and no others: perhaps none of them, perhaps all. The
-- programmer keeps the rows that the sheet vouches for. It may be in any state, lose any command, and restart. Its
-- chip's part has the geometry of the plan's part, and the plan asks for no other row. Without -F the chip has the
-- signature of the plan's part. The programmer executed some of the frames sent, in order and each at most once,
-- and the link forges no frame.
abbrev pub IsBegunByAny : {P : Type 0} → Part → Device P → (P → Memories) → (P → Type 0) → (P → Type 0)
    → (Mem → ℕ → ℕ) → Plan → Transcript → Type 0
IsBegunByAny {P = P} part m view IsIn IsReady becomes plan passed =
    IsPart part → HasGeometryOf plan.part part
    → (plan.switches.force ≡ false → part.signature ≡ plan.part.signature)
    → IsProgrammer part m view IsIn IsReady (IsVouched becomes part)
    → (p : P) (executions : List Execution) → IsIn p → FitsPart part (view p)
    → SuitsPlan becomes (on_part part plan) (view p)
    → NoneForged m (frames (sent passed)) (heard passed) p executions []
    → HasFirstOperations (on_part part plan) (view p)
    (view (after_sent_frames m (frames (sent passed)) executions p))

-- The same of the emulated programmer, for any plan. Its chip is sound and of the plan's part.
abbrev pub IsBegun : Plan → Transcript → Type 0
IsBegun plan passed =
    (p : Programmer) (executions : List Execution) → IsSoundChip p.chip → p.chip.part ≡ plan.part
    → NoneForged device (frames (sent passed)) (heard passed) p executions []
    → HasFirstOperations plan (memories_of p.chip)
    (memories_of (after_sent_frames device (frames (sent passed)) executions p).chip)

-- WITHOUT -F A CHIP OF ANOTHER SIGNATURE IS LEFT AS IT WAS, if the programmer keeps the rows that the sheet vouches for,
-- in any state. The plan's part and the chip's meet `IsPart`. The chip may have any geometry, and the plan may ask for
-- any row. On the link it is the same condition.
abbrev pub IsSparedByAny : {P : Type 0} → Part → Device P → (P → Memories) → (P → Type 0) → (P → Type 0)
    → (Mem → ℕ → ℕ) → Plan → Transcript → Type 0
IsSparedByAny {P = P} part m view IsIn IsReady becomes plan passed =
    IsPart plan.part → IsPart part → plan.switches.force ≡ false → (part.signature ≡ plan.part.signature → ⊥)
    → IsProgrammer part m view IsIn IsReady (IsVouched becomes part)
    → (p : P) (executions : List Execution) → IsIn p → FitsPart part (view p)
    → NoneForged m (frames (sent passed)) (heard passed) p executions []
    → view (after_sent_frames m (frames (sent passed)) executions p) ≡ view p

-- By the port, and by what `Begun` says of a plan. Over standard streams nothing was sent unless there is a plan. At
-- another port nothing passed over them, and at one that is not of the network the network was left unused.
abbrev pub BeginsPlanAt : (Plan → Transcript → Type 0) → ConnectionState → Type 0 → Port → Settings → Transcript
    → Record → Record → Type 0
BeginsPlanAt Begun At Unused Stdio settings passed old new =
    ((sent passed ≡ []) ⊎ KeepsPlan settings old new [] (λ plan. Begun plan passed)) × Unused
BeginsPlanAt Begun At Unused (Network address) settings passed old new =
    (passed ≡ []) × ((Unused ⊎ At address None)
    ⊎ ((link : LinkState) × At address (Some link)
    × KeepsPlan settings old new [] (λ plan. Begun plan link.transcript)))
BeginsPlanAt Begun At Unused (Emulated file) settings passed old new = (passed ≡ []) × Unused
BeginsPlanAt Begun At Unused (Served port file) settings passed old new = ⊥

-- Nothing passed over standard streams and the network was left unused; or the words ask for a service, and nothing
-- passed over standard streams; or the words ask for these settings, and this holds of their plan.
abbrev pub BeginsCommandLine : (Plan → Transcript → Type 0) → (List Bytes → Type 0) → ConnectionState → Type 0
    → Transcript → Record → Record → Type 0
BeginsCommandLine Begun AreWords At Unused passed old new =
    ((passed ≡ []) × Unused)
    ⊎ ((words : List Bytes) × AreWords words
    × ((AsksToServe (matches_of avrstk words) × (passed ≡ []))
    ⊎ ((settings : Settings) × AsksFor (matches_of avrstk words) settings
    × BeginsPlanAt Begun At Unused settings.port settings passed old new)))
