-- The premises of the promise on links are met by a worked run, `-p m328p` with all its replies; and what they refuse.
use Rattle.std.proofs.Common.{◌≡◌, ◌∙◌, ap, sym, arith, ℕ, Bool, false, List, [], ◌∷◌, ◌++◌, length, drop, take, refl}
use Rattle.std.proofs.lemmas.Bool.{false≢true}
use Rattle.std.specs.Prelude.{codes, slice_index}
use Rattle.avr_plan.specs.declared.update.Format.TheVariants.{Raw}
use Rattle.avr_io.specs.Record.{Bytes, Record, all_uses, files_among}
use Rattle.avr_io.specs.declared.record.Opening.{Opening}
use Rattle.avr_io.specs.declared.record.Opening.TheVariants.{Found}
use Rattle.avr_io.specs.declared.record.Writing.{Writing}
use Rattle.avr_part.specs.declared.part.Mem.TheVariants.{Lfuse}
use Rattle.avr_plan.specs.Plan.{Plan}
use Rattle.avr_plan.specs.declared.planned.Task.TheVariants.{Read}
use Rattle.avr_laws.specs.SavedText.{saved_text}
use Rattle.stk_emu.specs.Effect.{Memories}
use Rattle.avr_part.specs.BuiltIn.{m328p}
use Rattle.avr_part.specs.State.{fresh_state}
use Rattle.stk_emu.specs.Device.{device}
use Rattle.stk_emu.specs.Programmer.{Programmer, fresh_programmer}
use Rattle.stk_emu.specs.Exchange.{Execution, Executed, ThenRestarted}
use Rattle.stk_frame.specs.Cut.{frames}
use Rattle.stk_host.specs.Tape.{answer}
use Rattle.avr_laws.proofs.Lines.NoneForgedTest.{by_test}
use Rattle.avr_laws.specs.AnyTape.{ReceivedSentFrames}
use Rattle.avr_laws.specs.AskedPlan.{WasOpened}
use Rattle.avr_laws.specs.Kept.{FilesAreSaved, NoneForged, named_files, saved_files}
use Rattle.avr_laws.specs.Worked.{worked_frames, fuse_plan, worked_replies}

abbrev pub programmer : Programmer
programmer = fresh_programmer (fresh_state m328p)

abbrev pub executed : List Execution
executed = Executed ∷ Executed ∷ Executed ∷ Executed ∷ Executed ∷ Executed ∷ []

-- all its frames were received
pub worked_came : ReceivedSentFrames worked_frames [] (frames worked_frames) executed
worked_came = record { good = refl }

-- and each reply is the programmer's own
pub worked_forges_none : NoneForged device (frames worked_frames) worked_replies programmer executed []
unfolding answer
worked_forges_none = by_test device (frames worked_frames) worked_replies programmer executed [] refl

-- ---- the same run, if the programmer restarts just before LEAVE

abbrev pub idle : List Execution
idle = Executed ∷ Executed ∷ Executed ∷ Executed ∷ ThenRestarted Executed ∷ Executed ∷ []

-- all its frames were received, the last one after the restart
pub idle_came : ReceivedSentFrames (take 61 worked_frames) (drop 61 worked_frames ∷ []) (frames worked_frames) idle
idle_came = record { good = refl }

-- each reply is the programmer's own
pub idle_forges_none : NoneForged device (frames worked_frames) worked_replies programmer idle []
unfolding answer
idle_forges_none = by_test device (frames worked_frames) worked_replies programmer idle [] refl

-- ---- `-U lfuse:r:fuse:r`: the file has the chip's byte, and no other

abbrev pub reading_plan : Plan
reading_plan = record fuse_plan { tasks = Read Lfuse Raw (codes "fuse") ∷ [] }

-- the file has the low fuse
pub the_file_saved : (m : Memories)
    → saved_files reading_plan m ≡ record { name = codes "fuse"; bytes = m.lfuse ∷ [] } ∷ []
unfolding saved_text
the_file_saved m = refl

abbrev first_byte : List Writing → ℕ
first_byte [] = 0
first_byte (file ∷ files) = slice_index file.bytes 0

-- a file with another byte isn't what was saved
pub another_text : (m : Memories) (old now : Record) (byte : ℕ) → (m.lfuse ≡ byte → ⊥) → files_among (all_uses old) ≡ []
    → FilesAreSaved (saved_files reading_plan m) old now
    → files_among (all_uses now) ≡ record { name = codes "fuse"; bytes = byte ∷ [] } ∷ [] → ⊥
another_text m old now byte differs empty saved is =
    let same : record { name = codes "fuse"; bytes = byte ∷ [] } ∷ []
    ≡ [] ++ named_files (record { name = codes "fuse"; bytes = m.lfuse ∷ [] } ∷ []) =
    sym is ∙ (saved.created ∙ (ap (λ (files : List Writing). files ++ named_files (saved_files reading_plan m)) empty
    ∙ ap named_files (the_file_saved m))) in
    differs (sym (ap first_byte same))

-- nor is no file
pub no_file : (m : Memories) (old now : Record) → files_among (all_uses old) ≡ []
    → FilesAreSaved (saved_files reading_plan m) old now → files_among (all_uses now) ≡ [] → ⊥
no_file m old now empty saved is =
    let same : [] ≡ [] ++ named_files (record { name = codes "fuse"; bytes = m.lfuse ∷ [] } ∷ []) =
    sym is ∙ (saved.created ∙ (ap (λ (files : List Writing). files ++ named_files (saved_files reading_plan m)) empty
    ∙ ap named_files (the_file_saved m))) in
    let none : 0 ≡ 1 = ap length same in omega (arith, none)

-- ---- a file that wasn't read to its end gave nothing

abbrev is_ended : List Opening → Bool
is_ended (Found reading ∷ openings) = reading.ended
is_ended openings = false

pub half_read : (name text : Bytes)
    → WasOpened name text (Found (record { name = name; bytes = text; ended = false }) ∷ []) → ⊥
half_read name text given = false≢true (ap is_ended given)
