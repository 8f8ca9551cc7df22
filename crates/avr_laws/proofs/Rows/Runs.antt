-- What the promise refuses: worked wrong outcomes of its two laws. docs/CHECK.md lists them.
use Rattle.std.proofs.Common.{◌≡◌, ◌∙◌, ap, refl, sym, arith, ℕ, suc, Bool, true, false, ◌≤◌, List, [], ◌∷◌, ◌++◌, length, Some, None, rules}
use Rattle.std.specs.Prelude.{codes, get_or, if◌then◌else◌, unwrap_or}
use Rattle.std.specs.Str.{bytes_eq}
use Rattle.avr_plan.specs.declared.settings.Settings.{Settings}
use Rattle.avr_plan.specs.declared.settings.Switches.{Switches}
use Rattle.avr_plan.specs.declared.update.Format.TheVariants.{Raw}
use Rattle.avr_plan.specs.declared.update.Op.TheVariants as op
use Rattle.avr_io.specs.Named.{newest}
use Rattle.avr_io.specs.Record.{Bytes}
use Rattle.avr_io.specs.declared.record.Writing.{Writing}
use Rattle.avr_io.specs.Stage.{Produced}
use Rattle.avr_io.specs.declared.record.Opening.{Opening}
use Rattle.avr_io.specs.declared.record.Opening.TheVariants.{Found}
use Rattle.avr_part.specs.BuiltIn.{m328p}
use Rattle.avr_part.specs.ChipFile.{chip_file}
use Rattle.avr_part.specs.Part.{Part, IsPart}
use Rattle.avr_part.specs.Sound.{IsSoundChip}
use Rattle.avr_part.specs.State.{ChipState as Chip, fresh_state}
use Rattle.avr_part.specs.declared.part.Mem.TheVariants.{Flash, Lfuse}
use Rattle.avr_laws.proofs.Plans.Fitted.{plan_fitted}
use Rattle.avr_laws.specs.AskedPlan.{Files, HasImage, FileHolds, IsAsked}
use Rattle.avr_plan.specs.Plan.{Plan}
use Rattle.avr_plan.specs.Planning.{planned}
use Rattle.avr_plan.specs.declared.planned.Task.{Task}
use Rattle.avr_plan.specs.declared.planned.Task.TheVariants.{Read, Write}
use Rattle.avr_laws.specs.SavedText.{saved_text}
use Rattle.avr_session.specs.Runs.{Devices}
use Rattle.stk_emu.specs.Device.{device, after_frames}
use Rattle.stk_emu.specs.Effect.{Memories, Image, effects, memories_of}
use Rattle.stk_emu.specs.Programmer.{Programmer, fresh_programmer}
use Rattle.stk_emu.specs.Exchange.{Execution, ThenRestarted}
use Rattle.stk_frame.specs.Commands.{body}
use Rattle.stk_frame.specs.Cut.{frames}
use Rattle.stk_frame.specs.Frame.{frame}
use Rattle.stk_frame.specs.HostCommands.{program_page}
use Rattle.stk_host.specs.Places.{load_flash}
use Rattle.stk_host.specs.Transcript.{heard, sent}
use Rattle.avr_laws.specs.Again.{chip_filled_with}
use Rattle.avr_laws.specs.AnyTape.{ReceivedSentFrames, FramesByRestart, adding_received, after_sent_frames, received_frames}
use Rattle.avr_tool.specs.Items.{items, asked_items}
use Rattle.avr_laws.specs.Kept.{NoneForged, named_files, saved_files}
use Rattle.avr_tool.specs.Written.{IsWritten}
use Rattle.avr_laws.proofs.SecondRun.PlanRows.{tiny, erasing}
use Rattle.avr_laws.proofs.Outcomes.Kept.{kept}
use Rattle.avr_laws.proofs.Outcomes.OtherPart.{kept_on_plan, same_geometry}
use Rattle.avr_tool.specs.Headline.{IsRun}
use Rattle.avr_laws.specs.Promise.{Promised}
use Rattle.avr_laws.specs.Worked.{worked_settings}

-- ---- over any link: an erase, and one page of two bytes, 01 02, on a chip of 00

-- a part that a part file can have
abbrev small_part : Part
small_part = record tiny { id = codes "small_part" }

is_part : IsPart small_part
is_part = search rules

abbrev flash_plan : Image → Plan
flash_plan image = record { part = small_part; tasks = Write Flash image ∷ []; switches = erasing }

abbrev plan : Plan
plan = flash_plan (Some 1 ∷ Some 2 ∷ None ∷ None ∷ [])

abbrev old : Memories
old = chip_filled_with small_part 0

-- the memories with these bytes of flash
abbrev with_flash : List ℕ → Memories
with_flash flash = record old { flash = flash; lock = 255 }

-- The promise is an equation: with status 0 the chip holds these bytes, and no others.
pub the_images : effects small_part (items plan) old ≡ with_flash (1 ∷ 2 ∷ 255 ∷ 255 ∷ [])
the_images = refl

-- So a run with status 0 leaves them, if its link forges no frame.
pub only_the_images : (s : Settings) (before now : Devices) (r : IsRun s before now 0)
    → (planned s r.openings).stage_outcome ≡ Produced plan → before.link.transcript ≡ []
    → (p : Programmer) (executions : List Execution) → IsSoundChip p.chip
    → p.chip.part ≡ small_part → memories_of p.chip ≡ old
    → NoneForged device (frames (sent now.link.transcript)) (heard now.link.transcript) p executions []
    → memories_of (after_sent_frames device (frames (sent now.link.transcript)) executions p).chip
    ≡ with_flash (1 ∷ 2 ∷ 255 ∷ 255 ∷ [])
only_the_images s before now r is silent p executions sound part held none =
    (kept_on_plan plan p.chip.part (memories_of p.chip)
    (memories_of (after_sent_frames device (frames (sent now.link.transcript)) executions p).chip)
    before.desk.kept now.desk.kept part (kept s plan before now r is silent p executions sound
    (same_geometry small_part p.chip.part part) none)).made
    ∙ ap (effects small_part (asked_items plan)) held

abbrev Leaves : List ℕ → Type 0
Leaves flash = IsWritten small_part (asked_items plan) old (with_flash flash)

-- A plan for another size: no settings and files give this plan for four bytes of flash,
pub another_size : (s : Settings) (openings : List Opening)
    → (planned s openings).stage_outcome ≡ Produced (flash_plan (Some 1 ∷ Some 2 ∷ [])) → ⊥
another_size s openings is = search (rules, plan_fitted s openings _ is)

-- and no chip of two bytes is of its part.
pub another_chip : (chip : Chip) → chip.flash ≡ 1 ∷ 2 ∷ [] → IsSoundChip chip → chip.part ≡ plan.part → ⊥
another_chip chip is sound part = search rules

-- The chip from before the erase: old bytes stay where no image has a byte.
pub before_the_erase : Leaves (1 ∷ 2 ∷ 0 ∷ 0 ∷ []) → ⊥
before_the_erase holds = let byte : 0 ≡ 255 = holds.rest_of_flash 2 (omega arith) refl in omega (arith, byte)

-- A programmer that keeps half a page: a part of the page is written, with status 0,
pub half_a_page : Leaves (1 ∷ 255 ∷ 255 ∷ 255 ∷ []) → ⊥
half_a_page holds = let byte : 255 ≡ 2 = holds.images Flash 1 2 refl (omega arith) in omega (arith, byte)

-- or what a killed run left in its buffer, here 00, reaches the chip.
abbrev killed : Programmer
killed = record (fresh_programmer (record (fresh_state small_part) { flash_buffer = 0 ∷ 0 ∷ [] })) { mode = true }

-- the whole page is written, whatever was in the buffer
pub whole_page : (after_frames device
    (frames (frame 1 (body (load_flash small_part 0)) ++ frame 2 (body (program_page (1 ∷ 2 ∷ []))))) killed).chip
    ≡ record (fresh_state small_part) { flash = 1 ∷ 2 ∷ 255 ∷ 255 ∷ [] }
whole_page = refl

-- A frame that was sent once and reaches the programmer twice.
abbrev sign_on : List ℕ
sign_on = frame 1 (0x01 ∷ [])

-- one frame is received at most once
one_more : (execution : Execution) (piece : List ℕ) (g : FramesByRestart) → length (adding_received execution piece g).0
    ≤ suc (length g.0)
one_more (ThenRestarted execution) piece g = let one = one_more execution piece ([], g.0 ∷ g.1) in omega (arith, one)
one_more z0 piece g = omega arith

-- without a frame nothing is received
none_received : (executions : List Execution) → length (received_frames executions []).0 ≡ 0
none_received [] = refl
none_received (execution ∷ more) = refl

-- so a frame that was sent once is received at most once
received_once : (executions : List Execution) → length (received_frames executions (sign_on ∷ [])).0 ≤ 1
received_once [] = omega arith
received_once (execution ∷ more) = search (rules, one_more, none_received)

-- it can't be received twice
pub twice : (executions : List Execution) → ReceivedSentFrames (sign_on ++ sign_on) [] (sign_on ∷ []) executions → ⊥
twice executions came =
    let few = received_once executions in
    search rules

-- Status 0 with a wrong byte, or with a byte missing.
pub a_wrong_byte : Leaves (1 ∷ 3 ∷ 255 ∷ 255 ∷ []) → ⊥
a_wrong_byte holds = let byte : 3 ≡ 2 = holds.images Flash 1 2 refl (omega arith) in omega (arith, byte)

-- flash with a byte too few
pub a_missing_byte : Leaves (1 ∷ 2 ∷ 255 ∷ []) → ⊥
a_missing_byte holds = let size : 3 ≡ 4 = holds.flash_size in omega (arith, size)

-- ---- over files: `-p m328p -U lfuse:w:low:r`, with or without -V, and files of one byte each

abbrev switches : Bool → Switches
switches off = record worked_settings.switches { no_verify = off }

abbrev settings : Bool → Settings
settings off = record worked_settings {
  updates = record { memory = Lfuse; op = op.Write; format = Raw; file = codes "low" } ∷ [];
  switches = switches off;
}

-- The chip file `chip` is absent, so the chip is a fresh one.
abbrev files : Files
files name =
    if bytes_eq name (codes "low") then Some (0xE2 ∷ [])
    else if bytes_eq name (codes "other") then Some (0x62 ∷ [])
    else None

abbrev tasks : ℕ → List Task
tasks byte = Write Lfuse (Some byte ∷ []) ∷ []

-- the plan that writes this byte
abbrev fuse_plan : ℕ → Plan
fuse_plan byte = record { part = m328p; tasks = tasks byte; switches = switches false }

-- An image of another update: the plan has the byte of the named file,
pub the_file_named : (planned (settings false)
    (Found (record { name = codes "low"; bytes = 0xE2 ∷ []; ended = true }) ∷ [])).stage_outcome
    ≡ Produced (fuse_plan 0xE2)
the_file_named = refl

-- the byte of the first task
abbrev first_byte : List Task → ℕ
first_byte (Write mem (Some byte ∷ image) ∷ more) = byte
first_byte more = 0

-- not that of another one,
pub another_file : IsAsked (settings false) (FileHolds files) [] (fuse_plan 0x62) → ⊥
another_file asked = search rules

-- and not at another address.
pub another_address : HasImage (FileHolds files) (codes "low") Raw 2 (None ∷ Some 0xE2 ∷ []) [] → ⊥
another_address has = search rules

-- The promise over files is an equation too: these bytes are in the chip file, and no others.
abbrev fresh_with : ℕ → Chip
fresh_with byte = record (fresh_state m328p) { lfuse = byte }

abbrev file_of : Memories → Bytes
file_of m = m.flash ++ m.eeprom ++ m.lfuse ∷ m.hfuse ∷ m.efuse ∷ m.lock ∷ []

-- the fuse's place in a chip file
fuse_in_file : (flash eeprom more : Bytes) (a b : ℕ) → flash ++ eeprom ++ a ∷ more ≡ flash ++ eeprom ++ b ∷ more → a ≡ b
fuse_in_file [] [] more a b e = cc e
fuse_in_file [] (x ∷ eeprom) more a b e = fuse_in_file [] eeprom more a b (cc e)
fuse_in_file (x ∷ flash) eeprom more a b e = fuse_in_file flash eeprom more a b (cc e)

module _ (off : Bool) (after : Files) (p : Promised (settings off) (codes "chip") files after) where
  -- the plan is for an m328p
  part_is : m328p ≡ p.plan.part
  part_is = search rules

  -- and writes this byte
  tasks_are : p.plan.tasks ≡ tasks 0xE2
  tasks_are = search rules

  -- so the chip has this fuse, and is fresh otherwise
  made : memories_of p.left ≡ memories_of (fresh_with 0xE2)
  made = p.made ∙ rw (p.was, sym part_is, tasks_are, p.asked.switches) refl

  -- and the chip file holds this chip
  pub the_chip_file : after (codes "chip") ≡ Some (chip_file (fresh_with 0xE2))
  the_chip_file = p.is ∙ ap (λ m. Some (file_of m)) made

  -- a chip with another fuse isn't in the file
  another_byte : (byte : ℕ) → (byte ≡ 0xE2 → ⊥) → after (codes "chip") ≡ Some (chip_file (fresh_with byte)) → ⊥
  another_byte byte differs is =
      differs (fuse_in_file (fresh_with byte).flash (fresh_with byte).eeprom (255 ∷ 255 ∷ 255 ∷ []) byte 0xE2
      (ap (λ held. unwrap_or held []) (sym is ∙ the_chip_file)))

  -- refused: a wrong byte; no image; another file changed; a file created
  pub a_wrong_fuse : after (codes "chip") ≡ Some (chip_file (fresh_with 0x62)) → ⊥
  a_wrong_fuse = another_byte 0x62 (λ e. omega (arith, e))

  pub no_image : after (codes "chip") ≡ Some (chip_file (fresh_with 0xFF)) → ⊥
  no_image = another_byte 0xFF (λ e. omega (arith, e))

  abbrev first_byte_of : Bytes → ℕ
  first_byte_of [] = 0
  first_byte_of (byte ∷ bytes) = byte

  -- no task reads a memory
  abbrev saved_by : Switches → List Task → List Writing
  saved_by s these = saved_files (record { part = p.plan.part; tasks = these; switches = s }) (memories_of p.chip)

  -- no memory was read into a file
  none_saved : saved_files p.plan (memories_of p.chip) ≡ []
  none_saved = search (rules, tasks_are)

  -- so the other files are as they were
  unchanged : (name : Bytes) → (name ≡ codes "chip" → ⊥) → after name ≡ files name
  unchanged name differs = p.others name differs
      ∙ ap (λ (saved : List Writing). newest name (files name) (named_files saved)) none_saved

  -- refused: another file changed
  pub another_changed : after (codes "other") ≡ Some (0x63 ∷ []) → ⊥
  another_changed is = search (rules, unchanged)

  -- refused: a file that was created
  pub another_created : after (codes "new") ≡ Some [] → ⊥
  another_created is = cc (sym is ∙ unchanged (codes "new") (λ e. cc e))

-- ---- over files, a memory that is read: `-p m328p -U lfuse:r:fuse:r`

abbrev read_settings : Settings
read_settings = record worked_settings {
  updates = record { memory = Lfuse; op = op.Read; format = Raw; file = codes "fuse" } ∷ [];
}

abbrev read_tasks : List Task
read_tasks = Read Lfuse Raw (codes "fuse") ∷ []

abbrev saved_of : Part → Switches → List Task → Chip → List Writing
saved_of part s these chip = saved_files (record { part = part; tasks = these; switches = s }) (memories_of chip)

two_names : codes "fuse" ≡ codes "chip" → ⊥
two_names same = let first : 102 ≡ 99 = ap (λ (name : Bytes). get_or name 0 0) same in omega (arith, first)

-- a fresh chip's fuse is FF
saved_there : saved_of m328p worked_settings.switches read_tasks (fresh_state m328p)
    ≡ record { name = codes "fuse"; bytes = 0xFF ∷ [] } ∷ []
unfolding saved_text
saved_there = refl

module _ (after : Files) (p : Promised read_settings (codes "chip") files after) where
  -- the plan is for an m328p
  its_part : m328p ≡ p.plan.part
  its_part = search rules

  -- and reads the low fuse
  its_tasks : p.plan.tasks ≡ read_tasks
  its_tasks = search rules

  -- so this file was saved
  saved : saved_files p.plan (memories_of p.chip) ≡ record { name = codes "fuse"; bytes = 0xFF ∷ [] } ∷ []
  saved = search (rules, its_tasks, its_part, saved_there)

  -- so the file has it, and no other text
  pub the_file_read : after (codes "fuse") ≡ Some (0xFF ∷ [])
  the_file_read = search (rules, two_names, saved)

  -- a file with another byte
  pub another_text_read : after (codes "fuse") ≡ Some (0x62 ∷ []) → ⊥
  another_text_read is = search (rules, the_file_read)
