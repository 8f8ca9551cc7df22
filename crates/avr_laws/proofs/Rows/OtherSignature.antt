-- `-p m328 -F`, of a part file, over the worked run: its chip, an m328p, has another id and signature, and the same
-- geometry.
use Rattle.std.proofs.Common.{◌≡◌, ◌≢◌, ◌∙◌, ap, sym, arith, inl, inr, ℕ, Bool, true, false, List, [], ◌∷◌, ◌++◌, drop, refl, Some}
use Rattle.std.proofs.lemmas.Bool.{true≢false}
use Rattle.std.specs.Prelude.{codes, slice_index}
use Rattle.avr_plan.specs.declared.update.Format.TheVariants.{Raw}
use Rattle.avr_io.specs.Record.{Bytes, Record, all_uses, files_among}
use Rattle.avr_io.specs.declared.record.Writing.{Writing}
use Rattle.avr_part.specs.BuiltIn.{m328p, t85}
use Rattle.avr_part.specs.Part.{Part}
use Rattle.avr_part.specs.declared.part.Mem.TheVariants.{Signature}
use Rattle.avr_plan.specs.Plan.{Plan}
use Rattle.avr_plan.specs.declared.planned.Task.TheVariants.{Read}
use Rattle.avr_laws.specs.SavedText.{saved_text}
use Rattle.avr_session.specs.Session.{session}
use Rattle.stk_emu.specs.Device.{device}
use Rattle.stk_emu.specs.Effect.{Memories}
use Rattle.stk_frame.specs.Cut.{frames}
use Rattle.stk_host.specs.Dialog.{bytes_sent, played}
use Rattle.stk_host.specs.Operations.{handshake, opening, closing, operation}
use Rattle.stk_host.specs.Steps.{exchange, attempt, attempts_or_fault, play}
use Rattle.stk_host.specs.Tape.{answer}
use Rattle.avr_laws.specs.AnyTape.{executions_by_arrival}
use Rattle.avr_laws.specs.Damaged.{Arrived, Arrival, FrameArrives, BringsReplies, tape_of_arrivals}
use Rattle.avr_laws.specs.Kept.{FilesAreSaved, HasGeometryOf, KeepsOnPart, named_files, on_part, saved_files}
use Rattle.avr_laws.specs.Worked.{worked_frames, worked_replies, worked_settings}
use Rattle.avr_laws.proofs.Rows.Kept.{programmer}

abbrev pub m328 : Part
m328 = record m328p { id = codes "m328"; signature = 0x1E ∷ 0x95 ∷ 0x14 ∷ [] }

abbrev plan : Bool → Plan
plan force = record { part = m328; tasks = []; switches = record worked_settings.switches { force = force } }

-- With -F the run ends with status 0, and without it with status 1. It sends the frames of the worked run, whose
-- programmer meets the other premises (`worked_came` and `worked_forges_none` of Rows/Kept).
pub forced_run_succeeds : (played (session (plan true)) 1 worked_replies).outcome ≡ Some (0, 7, [])
unfolding session opening handshake operation closing play attempts_or_fault attempt exchange answer
forced_run_succeeds = refl

-- it sends the frames of the worked run
pub its_frames : bytes_sent (played (session (plan true)) 1 worked_replies).events ≡ worked_frames
unfolding session opening handshake operation closing play attempts_or_fault attempt exchange answer
its_frames = refl

-- without -F
pub unforced_run_fails : (played (session (plan false)) 1 worked_replies).outcome ≡ Some (1, 7, [])
unfolding session opening handshake operation closing play attempts_or_fault attempt exchange answer
unforced_run_fails = refl

-- the chip has the geometry of the plan's part
pub chip_fits : HasGeometryOf m328 m328p
chip_fits = refl

-- ---- over a link that damages one byte: the first reply came twice, at first with another number

abbrev first : List ℕ
first = 0x1B ∷ 0x01 ∷ 0x00 ∷ 0x0B ∷ 0x0E ∷ 0x01 ∷ 0x00 ∷ 0x08 ∷ 0x53 ∷ 0x54 ∷ 0x4B ∷ 0x35 ∷ 0x30 ∷ 0x30 ∷ 0x5F ∷ 0x32
    ∷ 0x02 ∷ []

abbrev second : List ℕ
second = 0x1B ∷ 0x02 ∷ 0x00 ∷ 0x02 ∷ 0x0E ∷ 0x10 ∷ 0x00 ∷ 0x05 ∷ []

abbrev third : List ℕ
third = 0x1B ∷ 0x03 ∷ 0x00 ∷ 0x04 ∷ 0x0E ∷ 0x1B ∷ 0x00 ∷ 0x1E ∷ 0x00 ∷ 0x17 ∷ []

abbrev fourth : List ℕ
fourth = 0x1B ∷ 0x04 ∷ 0x00 ∷ 0x04 ∷ 0x0E ∷ 0x1B ∷ 0x00 ∷ 0x95 ∷ 0x00 ∷ 0x9B ∷ []

abbrev fifth : List ℕ
fifth = 0x1B ∷ 0x05 ∷ 0x00 ∷ 0x04 ∷ 0x0E ∷ 0x1B ∷ 0x00 ∷ 0x0F ∷ 0x00 ∷ 0x00 ∷ []

abbrev sixth : List ℕ
sixth = 0x1B ∷ 0x06 ∷ 0x00 ∷ 0x02 ∷ 0x0E ∷ 0x11 ∷ 0x00 ∷ 0x00 ∷ []

abbrev damaged : List ℕ
damaged = 0x1B ∷ 0x07 ∷ 0x00 ∷ 0x0B ∷ 0x0E ∷ drop 5 first

-- what arrives: the damaged reply, and then all six
abbrev come : List Arrival
come = FrameArrives damaged ∷ FrameArrives first ∷ FrameArrives second ∷ FrameArrives third ∷ FrameArrives fourth
    ∷ FrameArrives fifth ∷ FrameArrives sixth ∷ []

-- over this link the run ends with status 0
pub damaged_run_succeeds : (played (session (plan true)) 1 (tape_of_arrivals come)).outcome ≡ Some (0, 7, [])
unfolding session opening handshake operation closing play attempts_or_fault attempt exchange answer
damaged_run_succeeds = refl

-- it sends the same frames
pub damaged_run_sends : bytes_sent (played (session (plan true)) 1 (tape_of_arrivals come)).events ≡ worked_frames
unfolding session opening handshake operation closing play attempts_or_fault attempt exchange answer
damaged_run_sends = refl

another_number : ◌≢◌ {A = ℕ} 0x01 0x07
another_number same = omega (arith, same)

-- all six frames came whole
abbrev all_whole : List Bool
all_whole = true ∷ true ∷ true ∷ true ∷ true ∷ true ∷ []

-- the bytes after the first ones
abbrev from : ℕ → List ℕ
from n = drop n worked_frames

-- so all frames arrived
pub damaged_run_arrived : Arrived (frames worked_frames) all_whole worked_frames
damaged_run_arrived =
    (from 7, refl, (from 25, refl, (from 37, refl, (from 49, refl, (from 61, refl, ([], refl, refl))))))

-- nothing is skipped behind a reply that is taken
none_skipped : {A : Type 0} → true ≡ false → A
none_skipped skipped = absurd (true≢false skipped)

-- each reply arrives, whole or damaged in one byte
pub damaged_run_brings_replies : BringsReplies device (session (plan true)) 1 come programmer
    (executions_by_arrival all_whole) []
unfolding session opening handshake operation closing play attempts_or_fault attempt exchange answer
damaged_run_brings_replies = (
  omega arith,
  (inl (inr (inl (0x07, drop 5 first, refl, inl (another_number, refl)))), λ skipped. (inl (inl refl), none_skipped)),
  (
    omega arith,
    (inl (inl refl), none_skipped),
    (
      omega arith,
      (inl (inl refl), none_skipped),
      (
        omega arith,
        (inl (inl refl), none_skipped),
        (omega arith, (inl (inl refl), none_skipped), (omega arith, (inl (inl refl), none_skipped), tt)),
      ),
    ),
  ),
)

-- ---- what is refused: a chip of another size

pub another_size : HasGeometryOf m328 t85 → ⊥
another_size fits = let sizes : 8192 ≡ 32768 = ap (λ (part : Part). part.flash_size) fits in omega (arith, sizes)

-- without -F, another signature

pub not_forced : (before after : Memories) (old now : Record)
    → KeepsOnPart m328p (plan false) before after old now → ⊥
not_forced before after old now kept =
    let last : 0x0F ≡ 0x14 = ap (λ (bytes : Bytes). slice_index bytes 2) (kept.signature refl) in omega (arith, last)

-- `-U signature:r:found:r` reads the chip's signature, so a file with that of the plan's part

abbrev reading : Plan
reading = record (plan true) { tasks = Read Signature Raw (codes "found") ∷ [] }

-- the file has the chip's signature
pub the_signature_saved : (m : Memories)
    → saved_files (on_part m328p reading) m ≡ record { name = codes "found"; bytes = 0x1E ∷ 0x95 ∷ 0x0F ∷ [] } ∷ []
unfolding saved_text
the_signature_saved m = refl

abbrev last_byte : List Writing → ℕ
last_byte [] = 0
last_byte (file ∷ files) = slice_index file.bytes 2

-- a file with that of the plan's part isn't what was saved
pub another_signature : (m : Memories) (old now : Record) → files_among (all_uses old) ≡ []
    → FilesAreSaved (saved_files (on_part m328p reading) m) old now
    → files_among (all_uses now) ≡ record { name = codes "found"; bytes = m328.signature } ∷ [] → ⊥
another_signature m old now empty saved is =
    let same : record { name = codes "found"; bytes = m328.signature } ∷ []
    ≡ [] ++ named_files (record { name = codes "found"; bytes = m328p.signature } ∷ []) =
    sym is ∙ (saved.created
    ∙ (ap (λ (files : List Writing). files ++ named_files (saved_files (on_part m328p reading) m)) empty
    ∙ ap named_files (the_signature_saved m))) in
    let last : 0x14 ≡ 0x0F = ap last_byte same in omega (arith, last)
