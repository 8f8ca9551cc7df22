-- THE PROMISE: what status 0 means for the chip and the desk, over a link that forges no frame. It is stated by what
-- was sent and received alone. docs/CHECK.md reads it out.
use Rattle.std.specs.Prelude.{◌≡◌, ℕ, false, not, ◌&&◌, List, [], ◌∷◌, ◌++◌, filter, take, if◌then◌else◌}
use Rattle.avr_plan.specs.declared.settings.Switches.{Switches}
use Rattle.avr_io.specs.Named.{is_dash}
use Rattle.avr_io.specs.Record.{Bytes, Record, all_uses, files_among}
use Rattle.avr_io.specs.declared.record.Writing.{Writing}
use Rattle.avr_laws.specs.AnyTape.{after_sent_frames}
use Rattle.avr_laws.specs.NoForgedFrame.{AreNotForged, frame_of_reply}
use Rattle.avr_part.specs.Sound.{IsSoundChip}
use Rattle.avr_part.specs.Part.{Part}
use Rattle.avr_plan.specs.Plan.{Plan}
use Rattle.avr_plan.specs.declared.planned.Task.{Task}
use Rattle.avr_plan.specs.declared.planned.Task.TheVariants as task
use Rattle.avr_session.specs.Actions.{is_erase_due}
use Rattle.avr_laws.specs.SavedText.{saved_text}
use Rattle.avr_session.specs.Session.{bytes_to_save}
use Rattle.avr_tool.specs.Authentic.{first_execution, later_executions, on_reading}
use Rattle.avr_tool.specs.Items.{asked_items}
use Rattle.avr_tool.specs.Written.{IsWritten}
use Rattle.stk_emu.specs.Device.{Device, device}
use Rattle.stk_emu.specs.Effect.{Memories, Erase, Write, effect, effects, memories_of, memory_in}
use Rattle.stk_emu.specs.Programmer.{Programmer}
use Rattle.stk_emu.specs.StepData.{HoldsImage}
use Rattle.stk_emu.specs.Exchange.{Execution, after_execution}
use Rattle.stk_frame.specs.Cut.{body_of, cut, frames, seq_of}
use Rattle.stk_host.specs.Tape.{Tape, answer, leading_bytes, reply_byte_limit}
use Rattle.stk_host.specs.Transcript.{Transcript, heard, sent}

-- THE LINK FORGES NO FRAME: these frames were sent, in order, and each waited for its reply on the tape. Each good
-- frame cut from the tape until that came is a refusal, or the reply to one of the last 256 frames sent.
abbrev pub NoneForged : {P : Type 0} → Device P → List (List ℕ) → Tape → P → List Execution → List (List ℕ) → Type 0
NoneForged m [] tape p executions before = Unit {0}
NoneForged m (piece ∷ pieces) tape p executions before =
    let n = seq_of piece in
    let execution = first_execution executions in
    let replies = frame_of_reply m n (body_of piece) p execution ∷ before in
    on_reading (λ reading left.
    AreNotForged n replies (cut (take reply_byte_limit (leading_bytes tape)))
    × NoneForged m pieces left (after_execution execution (m.after (body_of piece) p) p m.reset)
    (later_executions executions) replies) (answer n tape)

-- ---- what status 0 means

-- The memories after a task. A write changes its memory, unless the run is dry. No other task changes any.
abbrev pub after_task : Part → Switches → Task → Memories → Memories
after_task part s (task.Write mem image) m = if s.dry then m else effect part (Write mem image) m
after_task part s (task.Verify mem image) m = m
after_task part s (task.Read mem format file) m = m

-- What these tasks compare agrees, in order. After a write the memory has to hold its image, unless the run is dry or
-- verifying is off.
abbrev pub TasksAgree : Part → Switches → List Task → Memories → Type 0
TasksAgree part s [] m = Unit {0}
TasksAgree part s (task.Write mem image ∷ tasks) m =
    let after = after_task part s (task.Write mem image) m in
    (s.dry ≡ false → s.no_verify ≡ false → HoldsImage image (memory_in part mem after))
    × TasksAgree part s tasks after
TasksAgree part s (task.Verify mem image ∷ tasks) m =
    HoldsImage image (memory_in part mem m) × TasksAgree part s tasks m
TasksAgree part s (task.Read mem format file ∷ tasks) m = TasksAgree part s tasks m

-- The files that these tasks read memories into, in order: the text is of what the chip holds then, by `-A` with the
-- trailing FF.
abbrev pub tasks_files : Part → Switches → List Task → Memories → List Writing
tasks_files part s [] m = []
tasks_files part s (task.Read mem format file ∷ tasks) m =
    record { name = file; bytes = saved_text format (bytes_to_save mem s.all (memory_in part mem m)) }
    ∷ tasks_files part s tasks m
tasks_files part s (task.Write mem image ∷ tasks) m =
    tasks_files part s tasks (after_task part s (task.Write mem image) m)
tasks_files part s (task.Verify mem image ∷ tasks) m = tasks_files part s tasks m

-- The memories that a plan's first task finds, if the chip has these before the run: an erase that is due comes first.
abbrev pub before_tasks : Plan → Memories → Memories
before_tasks plan m =
    if not plan.switches.dry && is_erase_due plan.switches plan.tasks then effect plan.part Erase m else m

-- What a plan compares agrees; below, the files that it reads memories into.
abbrev pub PlanAgrees : Plan → Memories → Type 0
PlanAgrees plan m = TasksAgree plan.part plan.switches plan.tasks (before_tasks plan m)

-- The files that a plan reads memories into, with their texts.
abbrev pub saved_files : Plan → Memories → List Writing
saved_files plan m = tasks_files plan.part plan.switches plan.tasks (before_tasks plan m)

-- The files with a name; `-` is standard output.
abbrev pub named_files : List Writing → List Writing
named_files files = filter (λ file. not (is_dash file.name)) files

-- The bytes that `-` gets, in order.
abbrev pub dash_output : List Writing → Bytes
dash_output [] = []
dash_output (file ∷ files) = if is_dash file.name then file.bytes ++ dash_output files else dash_output files

-- Between these records of a desk these files were created, in order, and no others; the output is that of `-`.
pub record FilesAreSaved (files : List Writing) (old now : Record) : Type 0 where
  pub created : files_among (all_uses now) ≡ files_among (all_uses old) ++ named_files files
  pub output : now.output ≡ old.output ++ dash_output files

-- A run of this plan with status 0 led from these memories and this record of the desk to those.
pub record Keeps (plan : Plan) (before after : Memories) (old now : Record) : Type 0 where
  -- all that the plan writes was written, and all that it compares agreed
  pub made : after ≡ effects plan.part (asked_items plan) before
  pub agrees : PlanAgrees plan before
  -- unless verifying was off, each memory holds its images, and elsewhere what it held, or an erase's FF
  pub images : plan.switches.no_verify ≡ false → IsWritten plan.part (asked_items plan) before after
  -- each file that a memory was read into has the text of what the chip held then
  pub saved : FilesAreSaved (saved_files plan before) old now

-- ---- the chip's own part

-- The plan for a chip of this part.
abbrev pub on_part : Part → Plan → Plan
on_part part plan = record plan { part = part }

-- The part has the sizes and pages of the other one, and EESAVE at the same bit of the high fuse. Its id and signature
-- may be others.
abbrev pub HasGeometryOf : Part → Part → Type 0
HasGeometryOf other part = part ≡ record other { id = part.id; signature = part.signature }

-- A run of this plan with status 0 led from these memories of a chip of this part and this record to those.
pub record KeepsOnPart (part : Part) (plan : Plan) (before after : Memories) (old now : Record) : Type 0 where
  -- the plan for the chip's own part was kept
  pub keeps : Keeps (on_part part plan) before after old now
  -- without -F the chip has the signature of the plan's part
  pub signature : plan.switches.force ≡ false → part.signature ≡ plan.part.signature

-- WHAT STATUS 0 MEANS, by what passed over the link. Whatever the programmer was, whichever of the frames sent it
-- executed, in order, and wherever it restarted, the plan was kept, if its chip has the geometry of the plan's part.
abbrev pub IsKept : Plan → Transcript → Record → Record → Type 0
IsKept plan passed old now =
    (p : Programmer) (executions : List Execution) → IsSoundChip p.chip → HasGeometryOf plan.part p.chip.part
    → NoneForged device (frames (sent passed)) (heard passed) p executions []
    → KeepsOnPart p.chip.part plan (memories_of p.chip)
    (memories_of (after_sent_frames device (frames (sent passed)) executions p).chip) old now
