-- WHAT STATUS 0 MEANS IF ONLY READING CAN BE BELIEVED, as over a bootloader that erases elsewhere: each image that was
-- compared after the plan's last write is in its memory.
use Rattle.std.specs.Prelude.{◌≡◌, ℕ, false, List, [], ◌∷◌}
use Rattle.avr_part.specs.declared.part.Mem.{Mem}
use Rattle.avr_part.specs.declared.part.Mem.TheVariants.{Flash, Eeprom, Lock, Signature, Calibration}
use Rattle.avr_part.specs.Part.{Part, IsPart}
use Rattle.avr_plan.specs.Plan.{Plan}
use Rattle.avr_plan.specs.declared.planned.Task.{Task}
use Rattle.avr_plan.specs.declared.planned.Task.TheVariants as task
use Rattle.avr_plan.specs.declared.settings.Switches.{Switches}
use Rattle.stk_emu.specs.Device.{Device}
use Rattle.stk_emu.specs.Effect.{Memories, memory_in}
use Rattle.stk_emu.specs.Exchange.{Execution}
use Rattle.stk_emu.specs.Settled.{FitsPart}
use Rattle.stk_emu.specs.StepData.{HoldsImage}
use Rattle.stk_frame.specs.Cut.{frames}
use Rattle.stk_host.specs.Transcript.{Transcript, heard, sent}
use Rattle.avr_laws.specs.AnyTape.{after_sent_frames}
use Rattle.avr_laws.specs.Kept.{NoneForged}
use Rattle.avr_laws.specs.Table.{IsProgrammer, IsRow, Row, ReadsFlash, ReadsEeprom, ReadsFuse, ReadsLock, ReadsSignature, ReadsCalibration, fuse_memory}

-- The row reads one of these memories.
abbrev pub ReadsOneOf : (Mem → Type 0) → (part : Part) → (row : Row) → IsRow part row → Memories → Type 0
ReadsOneOf Reads part row (ReadsFlash start count some few inside even evens is) x = Reads Flash
ReadsOneOf Reads part row (ReadsEeprom start count some few inside is) x = Reads Eeprom
ReadsOneOf Reads part row (ReadsFuse fuse is) x = Reads (fuse_memory fuse)
ReadsOneOf Reads part row (ReadsLock is) x = Reads Lock
ReadsOneOf Reads part row (ReadsSignature place few is) x = Reads Signature
ReadsOneOf Reads part row (ReadsCalibration is) x = Reads Calibration
ReadsOneOf Reads part row other x = ⊥

-- A READER OF A PART: a device that keeps the rows of the table that read these memories. Whatever body it receives, it
-- stays in its states. Any other row may do anything to the memories.
pub record IsReader {P : Type 0} (part : Part) (m : Device P) (view : P → Memories) (IsIn : P → Type 0)
    (Reads : Mem → Type 0) : Type 0 where
  pub keeps : IsProgrammer part m view IsIn IsIn (ReadsOneOf Reads part)
  pub stays : (body : List ℕ) (p : P) → IsIn p → IsIn (m.after body p)
  pub sizes : (p : P) → IsIn p → FitsPart part (view p)

-- These tasks write nothing, and read only these memories.
abbrev pub OnlyRead : (Mem → Type 0) → List Task → Type 0
OnlyRead Reads [] = Unit {0}
OnlyRead Reads (task.Write mem image ∷ tasks) = ⊥
OnlyRead Reads (task.Verify mem image ∷ tasks) = Reads mem × OnlyRead Reads tasks
OnlyRead Reads (task.Read mem format file ∷ tasks) = Reads mem × OnlyRead Reads tasks

-- What these tasks compared after their last write is there. A written image is compared, unless the run is dry or
-- verifying is off.
abbrev pub LastAgree : Part → Switches → (Mem → Type 0) → List Task → Memories → Type 0
LastAgree part s Reads [] x = Unit {0}
LastAgree part s Reads (task.Write mem image ∷ tasks) x =
    (s.dry ≡ false → s.no_verify ≡ false → Reads mem → OnlyRead Reads tasks
    → HoldsImage image (memory_in part mem x)) × LastAgree part s Reads tasks x
LastAgree part s Reads (task.Verify mem image ∷ tasks) x =
    (Reads mem → OnlyRead Reads tasks → HoldsImage image (memory_in part mem x)) × LastAgree part s Reads tasks x
LastAgree part s Reads (task.Read mem format file ∷ tasks) x = LastAgree part s Reads tasks x

-- WHAT STATUS 0 MEANS, by what passed over the link. Whatever state the reader was in, whichever of the frames sent it
-- executed, in order, and wherever it restarted, what was compared last is there.
abbrev pub LastIsThere : {P : Type 0} → Device P → (P → Memories) → (P → Type 0) → (Mem → Type 0) → Plan → Transcript
    → Type 0
LastIsThere {P = P} m view IsIn Reads plan passed =
    IsPart plan.part → IsReader plan.part m view IsIn Reads
    → (p : P) (executions : List Execution) → IsIn p
    → NoneForged m (frames (sent passed)) (heard passed) p executions []
    → LastAgree plan.part plan.switches Reads plan.tasks
    (view (after_sent_frames m (frames (sent passed)) executions p))
