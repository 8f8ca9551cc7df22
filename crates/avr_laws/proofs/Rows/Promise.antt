-- Nothing in the promise is empty. First a run that meets all its premises, and what this run kept. It is `-p m328p
-- -U lfuse:w:0xE2:m` over a fresh chip, on a link that loses nothing. Then worlds that meet relations of the law, and
-- worlds that these refuse. The README of this crate has the table.
use Rattle.std.proofs.Common.{◌≡◌, ◌∙◌, ap, sym, subst, refl, arith, rules, inl, inr, ℕ, true, ◌<◌, List, [], ◌∷◌, ◌++◌, length, append-nil, Option, Some, None, Result, Ok, append_assoc}
use lib.Utf8.{encode}
use Rattle.std.proofs.lemmas.List.{length-replicate}
use Rattle.std.proofs.lemmas.List.Elements.{All-cons, All-nil, All-replicate}
use Rattle.std.specs.Prelude.{IfSome, codes, find, get_or}
use Rattle.std.specs.Str.{chars}
use Rattle.std.specs.declared.io.Read.{Ghosts as Reads}
use Rattle.std.specs.declared.io.Write.{Ghosts as Writes}
use Rattle.clap.specs.Takes.{flags_pass, walk_passes}
use Rattle.clap.specs.Walk.{bundle_met, walked}
use Rattle.clap.specs.Words.{first_of, matches_of, takes}
use Rattle.avr_plan.specs.Command.{avrstk, options, settings_from_arguments}
use Rattle.avr_plan.specs.Settings.{switches_of}
use Rattle.avr_plan.specs.declared.settings.Port.TheVariants.{Stdio, Emulated, Network, Served}
use Rattle.avr_plan.specs.declared.settings.Settings.{Settings}
use Rattle.avr_plan.specs.declared.settings.SettingsFault.{SettingsFault}
use Rattle.avr_plan.specs.declared.update.Format.TheVariants.{Immediate}
use Rattle.avr_plan.specs.declared.update.Op.TheVariants as op
use Rattle.avr_desk.specs.Handles.{IsTrueUse}
use Rattle.avr_desk.specs.Journal.{SystemCalls, Opens, calls_of_record, no_calls}
use Rattle.avr_io.specs.OutputEvents.{after_events}
use Rattle.avr_io.specs.Record.{Bytes, DeskState, Record, all_openings, nothing_kept, showing, with_absent, with_replaced}
use Rattle.avr_desk.specs.Shown.{IsNewDesk, Shown}
use Rattle.avr_desk.specs.declared.file_system.FileSystem.{Ghosts}
use Rattle.avr_io.specs.declared.record.FileUse.{FileUse}
use Rattle.avr_io.specs.declared.record.FileUse.TheVariants.{Opened, Created}
use Rattle.avr_io.specs.declared.record.Opening.{Opening}
use Rattle.avr_io.specs.declared.record.Opening.TheVariants.{Absent, Found}
use Rattle.avr_io.specs.declared.record.Writing.{Writing}
use Rattle.avr_desk.specs.declared.system.OpenFile.TheVariants.{Nothing}
use Rattle.avr_part.specs.BuiltIn.{built_in_parts, has_id, m328p}
use Rattle.avr_part.specs.Part.{Part, IsPart}
use Rattle.avr_part.specs.Sound.{IsSoundChip}
use Rattle.avr_part.specs.State.{ChipState as Chip, fresh_state}
use Rattle.avr_part.specs.declared.part.Mem.{Mem}
use Rattle.avr_part.specs.declared.part.Mem.TheVariants.{Calibration, Lfuse}
use Rattle.avr_plan.specs.Plan.{Plan, IsFitted}
use Rattle.avr_plan.specs.declared.planned.Task.TheVariants.{Verify, Write}
use Rattle.avr_laws.specs.SavedText.{saved_text}
use Rattle.avr_session.specs.Runs.{devices}
use Rattle.avr_session.specs.Session.{session}
use Rattle.avr_session.specs.Stopping.{link_state}
use Rattle.stk_emu.proofs.Replies.BodySizes.{reply_fits_frame}
use Rattle.stk_emu.specs.Device.{device}
use Rattle.stk_emu.specs.DialogOverExchanges.{SendsValidBodies}
use Rattle.stk_emu.specs.Effect.{Memories, memories_of}
use Rattle.stk_emu.specs.Exchange.{Execution, Executed}
use Rattle.stk_emu.specs.Programmer.{Programmer}
use Rattle.stk_frame.specs.Cut.{frames}
use Rattle.stk_frame.specs.Frame.{frame}
use Rattle.stk_host.specs.Dialog.{Dialog, Done, Emit, Ask, bytes_sent, frames_in, next, outputs, played}
use Rattle.stk_host.specs.Links.{StreamState, EachTimedOut, TimedOutAfter, TranscriptIsTrueSince}
use Rattle.stk_host.specs.Operations.{handshake, opening, closing, operation}
use Rattle.stk_host.specs.Steps.{exchange, attempt, attempts_or_fault, play}
use Rattle.stk_host.specs.declared.link.Item.TheVariants.{Byte, Silence, End}
use Rattle.stk_host.specs.Tape.{Replied, Tape, answer, bytes_on_tape, on_tape}
use Rattle.stk_host.specs.Transcript.{LinkState, Transcript, Sent, Got, heard, sent}
use Rattle.avr_tool.proofs.OverFaultyLink.FrameSizes.{session_asks}
use Rattle.avr_tool.specs.Headline.{IsRun, run}
use Rattle.avr_tool.specs.Items.{asked_items}
use Rattle.avr_tool.specs.Sockets.{IsOverAddress}
use Rattle.avr_tool.specs.Written.{IsWritten}
use Rattle.avr_tool.specs.declared.network.Network.{Ghosts as Networks}
use Rattle.avr_laws.proofs.Asked.Settings.{serves_or_asks, settings_are, settings_read}
use Rattle.avr_laws.proofs.KnownFiles.LongerTape.{run_more}
use Rattle.avr_laws.proofs.Lines.Damaged.{brings_no_frame}
use Rattle.avr_laws.proofs.Outcomes.Kept.{its_none_forged, kept}
use Rattle.avr_laws.proofs.Held.Chip.{chip_in_file, from_file, with_memories}
use Rattle.avr_laws.proofs.Rows.Held.{one_value}
use Rattle.avr_laws.proofs.Rows.Kept.{executed, programmer, reading_plan, worked_forges_none}
use Rattle.avr_laws.proofs.Rows.PerfectLine.{perfect_transcript, in_turn}
use Rattle.avr_laws.specs.AnyTape.{after_sent_frames}
use Rattle.avr_laws.specs.AskedPlan.{GivesText, IsAsked, WasOpened}
use Rattle.avr_laws.specs.AskedSettings.{AsksFor, AsksToServe}
use Rattle.avr_laws.specs.ChipFound.{AreInFile, file_of_memories}
use Rattle.avr_laws.specs.Damaged.{Arrival, FrameArrives, BringsReplies, tape_of_arrivals}
use Rattle.avr_laws.specs.Kept.{FilesAreSaved, HasGeometryOf, IsKept, Keeps, KeepsOnPart, NoneForged, PlanAgrees, saved_files}
use Rattle.avr_laws.specs.EmulatedStates.{HasEmptyBuffers, HasPart, chip_memories}
use Rattle.avr_laws.specs.KeptByAny.{IsKeptByAny}
use Rattle.avr_laws.specs.Sheet.{IsVouched, SuitsPlan}
use Rattle.avr_laws.specs.Table.{IsProgrammer}
use Rattle.stk_emu.specs.Settled.{FitsPart}
use Rattle.avr_laws.proofs.Table.Emulated.{emulated_meets}
use Rattle.avr_laws.proofs.Table.Kept.{kept_by_any}
use Rattle.avr_tool.proofs.StepData.FirstSteps.{sound_fits, sound_idle}
use Rattle.avr_laws.specs.KeptByPort.{ConnectionState, IsKeptInFile, KeepsCommandLine, KeepsPlan, KeepsPlanAt}
use Rattle.avr_laws.specs.Recorded.{RecordsFiles, RecordsOutput}
use Rattle.avr_laws.specs.Worked.{fuse_plan, worked_frames, worked_replies, worked_settings}
use Rattle.avr_laws.proofs.Rows.Served.{begun}

-- ---- the run

abbrev settings : Settings
settings = record worked_settings {
  updates = record { memory = Lfuse; op = op.Write; format = Immediate; file = codes "0xE2" } ∷ [];
}

abbrev plan : Plan
plan = record { part = m328p; tasks = Write Lfuse (Some 0xE2 ∷ []) ∷ []; switches = worked_settings.switches }

abbrev passed : Transcript
passed = perfect_transcript (session plan) 1 programmer

abbrev executions : List Execution
executions = Executed ∷ Executed ∷ Executed ∷ Executed ∷ Executed ∷ Executed ∷ Executed ∷ Executed ∷ []

-- it ends with status 0, after eight frames
pub succeeds : (openings : List Opening) → (run settings openings (heard passed)).outcome ≡ Some (0, 9, [])
unfolding session opening handshake operation closing play attempts_or_fault attempt exchange answer
succeeds openings = refl

sends : (openings : List Opening) → bytes_sent (run settings openings (heard passed)).events ≡ sent passed
unfolding session opening handshake operation closing play attempts_or_fault attempt exchange answer
sends openings = refl

pub is_part : IsPart m328p
is_part = search rules

-- the session sends valid bodies
asks : SendsValidBodies (session plan)
asks = session_asks plan is_part
    (All-cons (IsFitted m328p) (Write Lfuse (Some 0xE2 ∷ [])) [] (refl, refl) (All-nil (IsFitted m328p)))

-- the desk after the run
abbrev reported : DeskState
reported = showing (after_events (outputs (run settings [] (heard passed)).events) nothing_kept) 0 0

-- the run
abbrev ran : IsRun settings (devices (link_state [] 0) begun) (devices (link_state passed 0) reported) 0
ran = record {
  openings = [];
  during = passed;
  events = (run settings [] (heard passed)).events;
  next = 9;
  left = [];
  is = λ later more. run_more settings later (heard passed) more 0 9 [] (succeeds later);
  in_turn = λ later. in_turn (session plan) 1 programmer asks;
  all_sent = sends [];
  grows = refl;
  kept = refl;
  few = omega arith;
  sound = (refl, (refl, refl));
}

-- so its plan was kept
pub run_is_kept : IsKept plan passed nothing_kept reported.kept
run_is_kept =
    kept settings plan (devices (link_state [] 0) begun) (devices (link_state passed 0) reported) ran refl refl

-- ---- its premises hold

-- a fresh chip of any part is sound
fresh_is_sound : (part : Part) → IsPart part → IsSoundChip (fresh_state part)
fresh_is_sound part is =
    search (rules, length-replicate, All-replicate (λ b. b < 256), All-replicate (λ o. IfSome o (λ b. b < 256)))

pub chip_is_sound : IsSoundChip (fresh_state m328p)
chip_is_sound = fresh_is_sound m328p is_part

-- the replies, one after the other
abbrev arrivals : {E R : Type 0} → Dialog E R → ℕ → Programmer → List Arrival
arrivals (Done r) n p = []
arrivals (Emit e d) n p = arrivals d n p
arrivals (Ask bytes go_on) n p =
    FrameArrives (frame n (device.reply bytes p))
    ∷ arrivals (go_on (Replied (device.reply bytes p))) (next n) (device.after bytes p)

abbrev tape : Tape
tape = tape_of_arrivals (arrivals (session plan) 1 programmer)

-- this is what was received
its_tape : tape ≡ heard passed
unfolding session opening handshake operation closing play attempts_or_fault attempt exchange answer
its_tape = refl

-- the frames that were sent
its_frames : frames_in (played (session plan) 1 tape).events ++ [] ≡ frames (sent passed)
unfolding session opening handshake operation closing play attempts_or_fault attempt exchange answer
its_frames = refl

-- each reply arrived whole
brings_each : BringsReplies device (session plan) 1 (arrivals (session plan) 1 programmer) programmer executions []
unfolding session opening handshake operation closing play attempts_or_fault attempt exchange answer
brings_each = search rules

-- so none is forged
none_forged : NoneForged device (frames (sent passed)) (heard passed) programmer executions []
none_forged =
    subst (λ (t : Tape). NoneForged device (frames (sent passed)) t programmer executions []) its_tape
    (subst (λ (fs : List (List ℕ)). NoneForged device fs tape programmer executions []) its_frames
    (its_none_forged device (session plan) 1 tape programmer executions [] (brings_no_frame device reply_fits_frame
    (session plan) 1 (arrivals (session plan) 1 programmer) programmer executions [] tt brings_each)))

-- all at once
pub premises_hold : IsSoundChip programmer.chip × HasGeometryOf plan.part programmer.chip.part
    × NoneForged device (frames (sent passed)) (heard passed) programmer executions []
premises_hold = (chip_is_sound, refl, none_forged)

-- ---- so does what it kept

-- the memories before the run
abbrev fresh : Memories
fresh = memories_of (fresh_state m328p)

-- the chip after it
abbrev left_chip : Chip
left_chip = (after_sent_frames device (frames (sent passed)) executions programmer).chip

-- its plan was kept on its part
pub kept_on_part : KeepsOnPart m328p plan fresh (memories_of left_chip) nothing_kept reported.kept
kept_on_part = run_is_kept programmer executions chip_is_sound refl none_forged

-- so it was kept
pub plan_kept : Keeps plan fresh (memories_of left_chip) nothing_kept reported.kept
plan_kept = kept_on_part.keeps

-- its comparisons agreed
pub compared : PlanAgrees plan fresh
compared = plan_kept.agrees

-- its fuse was written
pub fuse_written : IsWritten m328p (asked_items plan) fresh (memories_of left_chip)
fuse_written = plan_kept.images refl

-- with another fuse they don't agree
pub another_fuse : (m : Memories) → (m.lfuse ≡ 0xE2 → ⊥) → PlanAgrees fuse_plan m → ⊥
another_fuse m other agrees = other (agrees.0 0 0xE2 refl (omega arith))

-- a fuse that wasn't written
pub fuse_unwritten : IsWritten m328p (asked_items plan) fresh fresh → ⊥
fuse_unwritten written = let byte : 255 ≡ 0xE2 = written.images Lfuse 0 0xE2 refl (omega arith) in omega (arith, byte)

-- a run that wrote nothing: the frames of `-p m328p`
pub plan_unkept : (old now : Record) → Keeps plan fresh fresh old now → ⊥
plan_unkept old now keeps =
    let byte : 255 ≡ 0xE2 = ap (λ (m : Memories). m.lfuse) keeps.made in omega (arith, byte)

-- so its plan isn't kept, if it has a write
pub write_unsent : (old now : Record) → IsKept plan (Sent worked_frames ∷ Got worked_replies ∷ []) old now → ⊥
write_unsent old now kept =
    let keeps : KeepsOnPart m328p plan fresh
    (memories_of (after_sent_frames device (frames worked_frames) executed programmer).chip) old now =
    kept programmer executed chip_is_sound refl worked_forges_none in
    let byte : 255 ≡ 0xE2 = ap (λ (m : Memories). m.lfuse) keeps.keeps.made in omega (arith, byte)

-- ---- by the table

abbrev whole : Mem → ℕ → ℕ
whole mem byte = byte

-- what is kept with the emulated programmer and a fresh chip, of which no fuse bit stays
abbrev pub Any : Plan → Transcript → Record → Record → Type 0
Any = IsKeptByAny m328p device chip_memories (HasPart m328p) (HasEmptyBuffers m328p) whole

-- at any programmer that keeps the rows
pub run_is_kept_by_any : IsKeptByAny m328p device chip_memories (HasPart m328p) (HasEmptyBuffers m328p) whole plan
    passed nothing_kept reported.kept
run_is_kept_by_any =
    kept_by_any m328p device chip_memories (HasPart m328p) (HasEmptyBuffers m328p) whole settings plan
    (devices (link_state [] 0) begun) (devices (link_state passed 0) reported) ran refl refl

-- the emulated programmer does
pub rows_kept : IsProgrammer m328p device chip_memories (HasPart m328p) (HasEmptyBuffers m328p) (IsVouched whole m328p)
rows_kept = emulated_meets m328p is_part (IsVouched whole m328p)

-- it has a chip of the part
pub is_in : HasPart m328p programmer
is_in =
    let idle = sound_idle programmer chip_is_sound in
    record { part_is = idle.part_is; flash_buffer = idle.flash_buffer; eeprom_buffer = idle.eeprom_buffer }

-- whose memories fit the part
pub chip_fits_part : FitsPart m328p fresh
chip_fits_part = sound_fits (fresh_state m328p) chip_is_sound

-- memories of another size don't
pub flash_short : FitsPart m328p (record fresh { flash = 1 ∷ 2 ∷ [] }) → ⊥
flash_short fits = let short = fits.flash in omega (arith, short)

-- the plan suits the sheet
pub plan_suits : SuitsPlan whole plan fresh
plan_suits = ((λ written. refl), tt)

-- so it was kept
pub kept_by_table : KeepsOnPart m328p plan fresh (memories_of left_chip) nothing_kept reported.kept
kept_by_table =
    run_is_kept_by_any is_part refl rows_kept programmer executions is_in chip_fits_part plan_suits none_forged

-- a write that wasn't sent
pub write_unsent_to_any : (old now : Record)
    → IsKeptByAny m328p device chip_memories (HasPart m328p) (HasEmptyBuffers m328p) whole plan
    (Sent worked_frames ∷ Got worked_replies ∷ []) old now → ⊥
write_unsent_to_any old now kept =
    let keeps : KeepsOnPart m328p plan fresh
    (memories_of (after_sent_frames device (frames worked_frames) executed programmer).chip) old now =
    kept is_part refl rows_kept programmer executed is_in chip_fits_part plan_suits worked_forges_none in
    let byte : 255 ≡ 0xE2 = ap (λ (m : Memories). m.lfuse) keeps.keeps.made in omega (arith, byte)

-- a plan that compares the calibration
pub calibration_unvouched : (becomes : Mem → ℕ → ℕ) (m : Memories)
    → SuitsPlan becomes (record plan { tasks = Verify Calibration (Some 255 ∷ []) ∷ [] }) m → ⊥
calibration_unvouched becomes m suits = suits.0

-- a reply that the programmer didn't send
pub frame_forged : NoneForged device (frame 1 (0x05 ∷ []) ∷ []) (on_tape (frame 1 (0x05 ∷ 0x00 ∷ []))) programmer
    (Executed ∷ []) [] → ⊥
unfolding answer
frame_forged none = search rules

-- ---- files

-- a record of these uses
abbrev used : List FileUse → Record
used uses = record nothing_kept { uses = uses }

-- a file with the low fuse was saved
pub file_saved : (m : Memories) → FilesAreSaved (saved_files reading_plan m) nothing_kept
    (used (Created (record { name = codes "fuse"; bytes = m.lfuse ∷ [] }) ∷ []))
unfolding saved_text
file_saved m = record { created = refl; output = refl }

-- a file that was read to its end gave its text
pub whole_read : (name text : Bytes) → WasOpened name text
    (all_openings (used (Opened (Found (record { name = name; bytes = text; ended = true })) ∷ [])))
whole_read name text = refl

-- the settings ask for this plan
pub plan_asked : (Gives : GivesText) → IsAsked settings Gives [] plan
plan_asked Gives = record {
  parts = [];
  first = [];
  rest = [];
  in_order = refl;
  are_parts = (refl, refl);
  part = refl;
  tasks = ([], [], refl, (refl, refl, (one_value, refl)), refl);
  switches = refl;
}

-- without a chip file the chip is fresh
pub no_chip_file : AreInFile m328p None fresh
no_chip_file = refl

-- a chip file that is too short
pub short_chip_file : (m : Memories) → AreInFile m328p (Some []) m → ⊥
short_chip_file m are =
    let size : 0 ≡ 33796 =
    (from_file m328p (Some []) (with_memories m328p m) (chip_in_file m328p (Some []) m are)).0 in
    omega (arith, size)

-- ---- over the emulator, without a chip file

abbrev file : Bytes
file = codes "chip"

abbrev loaded_desk : Record
loaded_desk = with_absent file nothing_kept

abbrev saved_desk : Record
saved_desk = with_replaced file (file_of_memories (memories_of left_chip)) loaded_desk

-- the chip was saved
pub chip_saved : IsKeptInFile file None plan nothing_kept saved_desk
chip_saved = record {
  before = fresh;
  after = memories_of left_chip;
  ended = loaded_desk;
  was = no_chip_file;
  keeps = record {
    made = plan_kept.made;
    agrees = plan_kept.agrees;
    images = plan_kept.images;
    saved = record { created = refl; output = refl };
  };
  saved = refl;
}

-- a list with an element isn't empty
not_none : (xs : List Writing) (x : Writing) → xs ++ x ∷ [] ≡ [] → ⊥
not_none [] x e = cc
not_none (y ∷ xs) x e = cc

-- a run that tried to save nothing
pub chip_unsaved : (name : Bytes) (found : Option Bytes) (other : Plan) (old new : Record) → new.tried ≡ []
    → IsKeptInFile name found other old new → ⊥
chip_unsaved name found other old new none kept =
    not_none kept.ended.tried (record { name = name; bytes = file_of_memories kept.after })
    (sym (ap (λ (r : Record). r.tried) kept.saved) ∙ none)

-- ---- streams: a side of a socket, or a stream, as the bytes that it will give and those that it took

abbrev reads : Reads (List ℕ)
reads = record { remaining = λ unread. Some unread }

abbrev timed_out : List ℕ → Type 0
timed_out reader = Unit {0}

abbrev writes : Writes (List ℕ)
writes = record { contents = λ taken. Some taken }

abbrev streams : List ℕ → List ℕ → Transcript → StreamState (List ℕ) (List ℕ)
streams unread taken transcript =
    record { reader = unread; writer = taken; failures = 0; last_error = None; transcript = transcript }

-- a reader that may always time out had each timeout
each_timeout : (before : List ℕ) (tape : Tape)
    → EachTimedOut (TimedOutAfter reads.remaining timed_out (before ++ bytes_on_tape tape)) before tape
each_timeout before [] = tt
each_timeout before (Silence ∷ tape) = ((bytes_on_tape tape, tt, refl), each_timeout before tape)
each_timeout before (Byte byte ∷ tape) =
    subst
    (λ (bytes : List ℕ). EachTimedOut (TimedOutAfter reads.remaining timed_out bytes) (before ++ byte ∷ []) tape)
    (append_assoc before (byte ∷ []) (bytes_on_tape tape)) (each_timeout (before ++ byte ∷ []) tape)
each_timeout before (End ∷ tape) = each_timeout before tape

-- all that passed is in the transcript
pub all_passed : (during : Transcript) → TranscriptIsTrueSince reads.remaining timed_out writes.contents
    (streams (bytes_on_tape (heard during)) [] []) (streams [] (sent during) during)
all_passed during = let paused = each_timeout [] (heard during) in search (rules, append-nil)

-- a byte that the writer didn't take
pub byte_lost : TranscriptIsTrueSince reads.remaining timed_out writes.contents (streams [] [] [])
    (streams [] [] (Sent (0 ∷ []) ∷ [])) → ⊥
byte_lost truly =
    let none : 0 ≡ 1 = ap (λ (bytes : List ℕ). length bytes) (truly.took ∙ ap sent (sym truly.grows)) in
    omega (arith, none)

-- a reader that times out only after its last byte
abbrev spent : List ℕ → Type 0
spent unread = unread ≡ []

pub pause_passed : TranscriptIsTrueSince reads.remaining spent writes.contents (streams (0 ∷ []) [] [])
    (streams [] [] (Got (Byte 0 ∷ Silence ∷ []) ∷ []))
pause_passed = record {
  during = Got (Byte 0 ∷ Silence ∷ []) ∷ [];
  grows = refl;
  gave = refl;
  paused = (([], refl, refl), tt);
  took = refl;
  counted = omega arith;
}

-- the timeout before that byte
pub pause_moved : TranscriptIsTrueSince reads.remaining spent writes.contents (streams (0 ∷ []) [] [])
    (streams [] [] (Got (Silence ∷ Byte 0 ∷ []) ∷ [])) → ⊥
pause_moved truly =
    let first = (subst (λ (during : Transcript). EachTimedOut (TimedOutAfter reads.remaining spent (0 ∷ [])) []
    (heard during)) (sym truly.grows) truly.paused).0 in
    let none : 1 ≡ 0 = ap (λ (bytes : List ℕ). length bytes) (first.2 ∙ first.1) in
    omega (arith, none)

-- a timeout that no reader had
pub pause_made_up : TranscriptIsTrueSince reads.remaining (λ reader. ⊥) writes.contents (streams [] [] [])
    (streams [] [] (Got (Silence ∷ []) ∷ [])) → ⊥
pause_made_up truly =
    (subst (λ (during : Transcript). EachTimedOut (TimedOutAfter reads.remaining (λ (reader : List ℕ). ⊥) []) []
    (heard during)) (sym truly.grows) truly.paused).0.1

abbrev address : Bytes
address = codes "here:1"

-- a network with one address
abbrev pub network : Networks ℕ (List ℕ) ℕ
network = record {
  reaches = λ side name. name ≡ address;
  misses = λ name. ⊥;
  listens = λ listener port. ⊥;
  is_shut = λ port. ⊥;
  unused = ⊥;
}

-- the connection was made to it
pub connected : (during : Transcript)
    → IsOverAddress network reads timed_out writes (λ side. Unit {0}) address (Some (link_state during 0))
connected during = search (rules, all_passed during)

-- a connection to another address
pub elsewhere : (now : LinkState)
    → IsOverAddress network reads timed_out writes (λ side. Unit {0}) (codes "away:1") (Some now) → ⊥
elsewhere now over =
    let first : 97 ≡ 104 = ap (λ (name : Bytes). get_or name 0 0) over.new.reader in omega (arith, first)

-- ---- the record of a desk: the chip file was absent, and then made

abbrev one_file : Ghosts SystemCalls (List ℕ) (List ℕ) (List ℕ)
one_file = record {
  has_done = λ done now. done ≡ now;
  is_input = λ input. ⊥;
  is_of = λ opened name. ⊥;
  closed = λ opened. ⊥;
  lacks = λ name. name ≡ file;
  holds = λ hold name. ⊥;
  denies = λ name. ⊥;
  fails = λ name error. ⊥;
  replaced = λ name bytes. name ≡ file;
  left = λ now name found. ⊥;
  began = λ name found. ⊥;
}

-- a desk with which nothing was done
abbrev unused : Shown SystemCalls (List ℕ) (List ℕ) (List ℕ) ℕ ℕ
unused = record {
  system = no_calls;
  output = 0;
  messages = 0;
  failures = 0;
  message_failures = 0;
  last_error = None;
  opened = Nothing;
  hold = None;
  kept = nothing_kept;
}

-- it is new
pub desk_new : IsNewDesk one_file unused
desk_new = record { fresh = refl; unheld = λ name found may. may; opened = refl; hold = refl; kept = refl }

-- a desk that holds a file isn't
pub desk_used : IsNewDesk one_file (record unused { hold = Some [] }) → ⊥
desk_used desk = let none : ◌≡◌ {A = Option (List ℕ)} (Some []) None = desk.hold in cc

-- the chip file wasn't there
abbrev absent : FileUse
absent = Opened (Absent file)

-- then it was made
abbrev made : FileUse
made = Created (record { name = file; bytes = 0 ∷ [] })

abbrev uses : Record
uses = record nothing_kept { uses = absent ∷ made ∷ [] }

-- the record shows each call
pub record_true : RecordsFiles one_file reads writes reads
    (record unused { system = calls_of_record uses; kept = uses })
record_true =
    search (rules, All-cons (IsTrueUse one_file reads writes reads), All-nil (IsTrueUse one_file reads writes reads))

-- a file that was opened and not recorded
pub call_unrecorded : RecordsFiles one_file reads writes reads
    (record unused { system = record { calls = Opens file ∷ []; holds = 0 } }) → ⊥
call_unrecorded truly =
    let none : 0 ≡ 1 = ap (λ (done : SystemCalls). length done.calls) truly.has_done in omega (arith, none)

-- ---- messages: a line that their writer took, and one that it didn't

-- a desk whose writer of messages took this, and whose record has that
abbrev printing : Bytes → Bytes → Shown SystemCalls (List ℕ) (List ℕ) (List ℕ) Bytes Bytes
printing taken recorded = record {
  system = no_calls;
  output = [];
  messages = taken;
  failures = 0;
  message_failures = 0;
  last_error = None;
  opened = Nothing;
  hold = None;
  kept = record nothing_kept { messages = recorded };
}

-- a line that the writer took
pub line_taken : (line : Bytes) → RecordsOutput writes writes (printing [] []) (printing line line)
line_taken line = record { messages = (line, refl, refl); output = ([], refl, λ apart none. refl) }

-- a line that it didn't take
pub line_untaken : RecordsOutput writes writes (printing [] []) (printing [] (0 ∷ [])) → ⊥
line_untaken shown =
    let none : 1 ≡ 0 = ap (λ (bytes : Bytes). length bytes) (shown.messages.1 ∙ sym shown.messages.2) in
    omega (arith, none)

-- ---- each port

-- the run followed its plan
pub plan_followed : KeepsPlan settings nothing_kept reported.kept []
    (λ made. Any made passed nothing_kept reported.kept)
unfolding session opening handshake attempts_or_fault attempt exchange answer play operation closing
plan_followed = (plan, [], refl, plan_asked WasOpened, run_is_kept_by_any)

-- over standard streams
pub over_streams : (At : ConnectionState) → KeepsPlanAt Any At Stdio settings passed nothing_kept reported.kept
over_streams At = plan_followed

-- over the network
pub over_network : KeepsPlanAt Any (IsOverAddress network reads timed_out writes (λ side. Unit {0})) (Network address)
    settings [] nothing_kept reported.kept
over_network = (
  refl,
  (
    link_state passed 0,
    connected passed,
    plan_followed,
  ),
)

-- over the emulator
pub over_emulator : (At : ConnectionState) → KeepsPlanAt Any At (Emulated file) settings [] nothing_kept saved_desk
over_emulator At = (refl, (None, (plan, [], refl, plan_asked WasOpened, chip_saved)))

-- a part that nobody knows
abbrev pub unknown : Settings
unknown = record worked_settings { part = codes "none" }

-- so no plan was kept
pub part_unknown : (At : ConnectionState) (during : Transcript) (old new : Record)
    → KeepsPlanAt Any At Stdio unknown during old new → ⊥
part_unknown At during old new (other, opened, is, asked, keeps) =
    let none : ◌≡◌ {A = Option Part} None (Some other.part) =
    subst (λ (parts : List Part). find (has_id (codes "none")) (parts ++ built_in_parts) ≡ Some other.part)
    asked.are_parts.0 asked.part in cc

-- a run whose connection was never made
pub not_connected : (At : ConnectionState) (name : Bytes) (s : Settings) (during : Transcript) (old new : Record)
    → ((link : LinkState) → At name (Some link) → ⊥) → KeepsPlanAt Any At (Network name) s during old new → ⊥
not_connected At name s during old new none (_, (link, over, keeps)) = none link over

-- a run that tried to save nothing
pub file_unsaved : (At : ConnectionState) (name : Bytes) (s : Settings) (during : Transcript) (old new : Record)
    → new.tried ≡ [] → KeepsPlanAt Any At (Emulated name) s during old new → ⊥
file_unsaved At name s during old new none (_, (found, (other, opened, is, asked, keeps))) =
    chip_unsaved name found other old new none keeps

-- ---- the command line

abbrev words : List Bytes
words = codes "avrstk" ∷ codes "-p" ∷ codes "m328p" ∷ codes "-P" ∷ codes "stdio:" ∷ codes "-U" ∷ codes "lfuse:w:0xE2:m"
    ∷ []

-- a run, and no request for help
pub words_taken : takes avrstk words ≡ true
unfolding avrstk options bundle_met walked chars encode walk_passes flags_pass
words_taken = refl

words_read : settings_from_arguments words ≡ Ok settings
unfolding avrstk options bundle_met walked chars encode
words_read = refl

none_serves : first_of (codes "serve") (matches_of avrstk words) ≡ None
unfolding avrstk options bundle_met walked chars encode
none_serves = refl

-- the command line asks for these settings
pub settings_asked : AsksFor (matches_of avrstk words) settings
settings_asked = settings_are (matches_of avrstk words) settings words_read none_serves

-- these words name another part
pub part_unasked : AsksFor (matches_of avrstk words) unknown → ⊥
part_unasked asks =
    let clash : ◌≡◌ {A = Option Bytes} (Some (codes "none")) (Some (codes "m328p")) =
    sym asks.part ∙ settings_asked.part in
    absurd (cc clash)

-- a service, and a run that is none
abbrev service_words : List Bytes
service_words =
    codes "avrstk" ∷ codes "-p" ∷ codes "m328p" ∷ codes "--serve" ∷ codes "5000" ∷ codes "--chip" ∷ codes "c.bin" ∷ []

abbrev service : Settings
service = record {
  part = codes "m328p";
  port = Served (codes "5000") (codes "c.bin");
  parts = None;
  updates = [];
  switches = switches_of [];
}

service_read : settings_from_arguments service_words ≡ Ok service
unfolding avrstk options bundle_met walked chars encode
service_read = refl

service_given : first_of (codes "serve") (matches_of avrstk service_words) ≡ Some (codes "5000")
unfolding avrstk options bundle_met walked chars encode
service_given = refl

-- the words ask for a service
pub service_asked : AsksToServe (matches_of avrstk service_words)
service_asked = elim (serves_or_asks service_words service (sym service_read)) [
  | inl (serves, named) ↦ serves
  | inr asks ↦
      let clash : ◌≡◌ {A = Option Bytes} (Some (codes "5000")) None = sym service_given ∙ asks.runs in
      absurd (cc clash)
]

-- a run without `--serve`
pub service_unasked : AsksToServe (matches_of avrstk words) → ⊥
service_unasked serves =
    let clash : ◌≡◌ {A = Option Bytes} None (Some serves.number.0) = sym none_serves ∙ serves.number.1 in
    absurd (cc clash)

-- so what it asks for was kept
pub line_kept : KeepsCommandLine Any (λ given. given ≡ words) (λ name seen. ⊥) passed nothing_kept
    reported.kept
line_kept = (words, refl, λ taken. inr (settings, settings_asked, over_streams (λ name seen. ⊥)))

-- a command line with a part that nobody knows
abbrev other_words : List Bytes
other_words = codes "avrstk" ∷ codes "-p" ∷ codes "none" ∷ codes "-P" ∷ codes "stdio:" ∷ []

other_taken : takes avrstk other_words ≡ true
unfolding avrstk options bundle_met walked chars encode walk_passes flags_pass
other_taken = refl

other_read : settings_from_arguments other_words ≡ Ok unknown
unfolding avrstk options bundle_met walked chars encode
other_read = refl

none_serves_others : first_of (codes "serve") (matches_of avrstk other_words) ≡ None
unfolding avrstk options bundle_met walked chars encode
none_serves_others = refl

-- equal results have equal settings
ok_is : (a b : Settings) → ◌≡◌ {A = Result Settings SettingsFault} (Ok a) (Ok b) → a ≡ b
ok_is a b e = cc

-- so nothing was kept
pub line_unkept : (At : ConnectionState) (during : Transcript) (old new : Record)
    → KeepsCommandLine Any (λ given. given ≡ other_words) At during old new → ⊥
line_unkept At during old new (given, is, keeps) = elim (keeps (ap (takes avrstk) is ∙ other_taken)) [
  | inl (serves, none) ↦
      let clash : ◌≡◌ {A = Option Bytes} None (Some serves.number.0) =
      sym (ap (λ (w : List Bytes). first_of (codes "serve") (matches_of avrstk w)) is ∙ none_serves_others)
      ∙ serves.number.1 in
      absurd (cc clash)
  | inr (s, asks, keeps_plan) ↦
      part_unknown At during old new (subst (λ (s : Settings). KeepsPlanAt Any At s.port s during old new)
      (ok_is s unknown (sym (settings_read (matches_of avrstk given) s asks) ∙ (ap settings_from_arguments is
      ∙ other_read))) keeps_plan)
]
