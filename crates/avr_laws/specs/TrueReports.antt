-- What a run reports is true of the chip when it is reported.
use Rattle.std.specs.Prelude.{ℕ, zero, suc, ◌≡◌, ◌⊎◌, List, [], ◌∷◌, ◌++◌, length, Contains, Err, ⊤, codes, decimal}
use Rattle.avr_io.specs.Record.{Bytes}
use Rattle.avr_plan.specs.declared.update.Format.{Format}
use Rattle.avr_image.specs.Image.{byte_count}
use Rattle.avr_io.specs.Lines.{spaced_digits, information, warning}
use Rattle.avr_io.specs.OutputEvents.{OutputEvent, PrintsLine, CreatesFile, WritesFile, WritesOutput}
use Rattle.avr_part.specs.Mem.{name_of}
use Rattle.avr_part.specs.declared.part.Mem.{Mem}
use Rattle.avr_plan.specs.Plan.{Plan}
use Rattle.avr_session.specs.Actions.{SkippedErase, SkippedWrite, EraseChip, CompareImage, SaveMemory, SkipAction, actions}
use Rattle.avr_session.specs.FileText.{file_text}
use Rattle.avr_session.specs.Lines.{fault_line}
use Rattle.avr_session.specs.Session.{bytes_to_save}
use Rattle.stk_host.specs.Dialog.{Dialog, Done, Emit, Ask, Event, Frame, Emitted}
use Rattle.stk_host.specs.Operations.{comparison, host_fault}
use Rattle.stk_host.specs.declared.fault.HostFault.{HostFault}
use Rattle.stk_host.specs.declared.fault.StepFault.{StepFault}
use Rattle.stk_emu.specs.Device.{Device, after_frame}
use Rattle.stk_emu.specs.Effect.{Image, Item, Erase, Write, Memories, effect, effects, memory_in}
use Rattle.stk_emu.specs.Exchange.{Exchange, after_exchange, reading_of_exchange, first_exchange, later_exchanges}
use Rattle.stk_emu.specs.StepData.{HoldsImage}
use Rattle.avr_tool.specs.Items.{items}

-- Each output of a dialog along these exchanges holds of the programmer that executed the commands before it.
abbrev pub ReportsTrue : {E R P : Type 0} → Device P → (P → E → Type 0) → ℕ → Dialog E R → P → List Exchange → Type 0
ReportsTrue m IsTrueReport k (Done r) p exchanges = ⊤
ReportsTrue m IsTrueReport k (Emit e dialog) p exchanges =
    IsTrueReport p e × ReportsTrue m IsTrueReport k dialog p exchanges
ReportsTrue m IsTrueReport zero (Ask bytes go_on) p exchanges = ⊤
ReportsTrue m IsTrueReport (suc k) (Ask bytes go_on) p exchanges =
    ReportsTrue m IsTrueReport k (go_on (reading_of_exchange (first_exchange exchanges) (m.reply bytes p)))
    (after_exchange (first_exchange exchanges) (m.after bytes p) p m.reset) (later_exchanges exchanges)

-- The line for `count` bytes of a memory that were written, verified or read.
abbrev pub count_line : Mem → ℕ → Bytes → OutputEvent
count_line mem count done = PrintsLine (information (name_of mem ∷ codes ": " ∷ decimal count ∷ done ∷ []))

-- What a plan keeps of a memory that it reads: the chip's bytes.
abbrev pub saved_bytes : Plan → Mem → Memories → List ℕ
saved_bytes plan mem now = bytes_to_save mem plan.switches.all (memory_in plan.part mem now)

-- What a run of a plan reports, and what it means for the memories now, given those before the run.
--
-- ChipErased: the plan's erase has been done, and nothing else. BytesWritten: the plan's items up to this write have
-- been done. BytesVerified: the plan compares the memory with this image, and the memory holds it. BytesSaved,
-- BytesRead: the memory has what is saved. Differed: the reported difference exists. The others report the chip's
-- signature, what the plan skips, why a step failed, and the end.
pub data IsTrueReport (plan : Plan) (before now : Memories) (event : OutputEvent) : Type 0 where
  SignatureRead : event ≡ PrintsLine (information (codes "device signature = " ∷ spaced_digits plan.part.signature
      ∷ [])) → IsTrueReport plan before now event
  ChipErased : Contains (actions plan) EraseChip → event ≡ PrintsLine (information (codes "chip erased" ∷ []))
      → now ≡ effect plan.part Erase before → IsTrueReport plan before now event
  EraseLeftOut : Contains (actions plan) (SkipAction SkippedErase)
      → event ≡ PrintsLine (warning (codes "chip not erased because of -n" ∷ [])) → IsTrueReport plan before now event
  BytesWritten : (mem : Mem) (image : Image) (first later : List Item)
      → event ≡ count_line mem (byte_count image) (codes " bytes written")
      → items plan ≡ first ++ Write mem image ∷ later → now ≡ effects plan.part (first ++ Write mem image ∷ []) before
      → IsTrueReport plan before now event
  WriteLeftOut : (mem : Mem) (image : Image) → Contains (actions plan) (SkipAction (SkippedWrite mem image))
      → event ≡ count_line mem (byte_count image) (codes " bytes not written") → IsTrueReport plan before now event
  BytesVerified : (mem : Mem) (image : Image) → Contains (actions plan) (CompareImage mem image)
      → event ≡ count_line mem (byte_count image) (codes " bytes verified")
      → HoldsImage image (memory_in plan.part mem now)
      → IsTrueReport plan before now event
  Differed : (mem : Mem) (image : Image) (fault : HostFault) → Contains (actions plan) (CompareImage mem image)
      → event ≡ PrintsLine (fault_line plan.part fault) → comparison mem image (memory_in plan.part mem now)
      ≡ Err fault → IsTrueReport plan before now event
  BytesSaved : (mem : Mem) (format : Format) (file : Bytes) → Contains (actions plan) (SaveMemory mem format file)
      → (event ≡ CreatesFile file) ⊎ ((event ≡ WritesFile (file_text format (saved_bytes plan mem now)))
      ⊎ (event ≡ WritesOutput (file_text format (saved_bytes plan mem now)))) → IsTrueReport plan before now event
  BytesRead : (mem : Mem) (format : Format) (file : Bytes) → Contains (actions plan) (SaveMemory mem format file)
      → event ≡ count_line mem (length (saved_bytes plan mem now)) (codes " bytes read")
      → IsTrueReport plan before now event
  StepFailed : (fault : StepFault) → event ≡ PrintsLine (fault_line plan.part (host_fault fault))
      → IsTrueReport plan before now event
  SessionDone : event ≡ PrintsLine (information (codes "done" ∷ [])) → IsTrueReport plan before now event

-- Each output among the events holds of the programmer as the frames sent before it left it, by their exchanges.
abbrev pub EmittedTrue : {E P : Type 0} → Device P → (P → E → Type 0) → List (Event E) → List Exchange → P → Type 0
EmittedTrue m IsTrueReport [] exchanges p = ⊤
EmittedTrue m IsTrueReport (Frame bytes ∷ events) exchanges p =
    EmittedTrue m IsTrueReport events (later_exchanges exchanges) (after_exchange (first_exchange exchanges)
    (after_frame m bytes p) p m.reset)
EmittedTrue m IsTrueReport (Emitted e ∷ events) exchanges p =
    IsTrueReport p e × EmittedTrue m IsTrueReport events exchanges p
