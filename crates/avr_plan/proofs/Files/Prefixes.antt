-- What the first bytes of a file decide about the whole.
use Rattle.std.proofs.Common.{◌≡◌, ◌∙◌, sym, ap, refl, ℕ, [], ◌++◌, Some, None, Err, append-nil, rules}
use Rattle.avr_image.specs.Raw as raw_file
use Rattle.avr_io.specs.Record.{Bytes}
use Rattle.avr_records.proofs.Readers.Fed.{reads_sound}
use Rattle.avr_records.specs.Closed.{ended_lines_fault}
use Rattle.avr_records.specs.Reading.{ok_unless}
use Rattle.avr_records.specs.Reader.{ReaderState, memory_size}
use Rattle.avr_records.specs.declared.kind.Found.{Found}
use Rattle.avr_records.specs.declared.kind.Kind.{Kind}
use Rattle.avr_records.specs.declared.fault.RecordFault.{RecordFault}
use Rattle.avr_records.proofs.Readers.WholeFiles.{none_or}
use Rattle.avr_plan.proofs.Files.FirstFaults.{ended_lines_fault-more, ended_lines_fault-whole}
use Rattle.avr_plan.specs.ImageFile.{image_of_file, fault_of_long_file}
use Rattle.avr_plan.specs.Intake.{HasCertainFault, RecordReaderWasFed, RawReaderWasFed, found_as, in_long_file}
use Rattle.avr_plan.specs.declared.intake.BadFile.{BadFile}
use Rattle.avr_plan.specs.declared.intake.BadFile.TheVariants.{Record, TooLong}

-- A fault of a line that has ended is certain, whatever follows.
decides-record : (kind : Kind) (size : ℕ) (fault : RecordFault) (text : Bytes)
    → ended_lines_fault kind text size ≡ Some fault → HasCertainFault (found_as kind) size (Record fault) text
decides-record kind size fault text is = search (rules, ended_lines_fault-whole, ended_lines_fault-more)

-- The fault that a reader of records returns is certain.
pub record-decides : (found : Found) (size : ℕ) (reader : ReaderState) (fault : RecordFault) (text piece : Bytes)
    → RecordReaderWasFed found size reader text
    → Err fault ≡ ok_unless (ended_lines_fault reader.kind (text ++ piece) (memory_size reader)) (tt {0})
    → HasCertainFault found size (Record fault) (text ++ piece)
record-decides found size reader fault text piece was_fed is =
    let own : ended_lines_fault reader.kind (text ++ piece) size ≡ Some fault =
    ap (ended_lines_fault reader.kind (text ++ piece)) (sym was_fed.of_size)
    ∙ none_or (ended_lines_fault reader.kind (text ++ piece) (memory_size reader))
    fault is in
    rw was_fed.of_kind (decides-record reader.kind size fault (text ++ piece) own)

-- A certain fault is the fault of the whole file.
pub decided-whole : (found : Found) (size : ℕ) (fault : BadFile) (text : Bytes) → HasCertainFault found size fault text
    → Err fault ≡ image_of_file found text size
decided-whole found size fault text d = sym (ap (λ t. image_of_file found t size) (sym (append-nil text)) ∙ d.whole [])

-- A certain fault is that of a longer file, or the file is too long.
pub decided-long : (found : Found) (size : ℕ) (fault : BadFile) (text : Bytes) → HasCertainFault found size fault text
    → in_long_file fault ≡ fault_of_long_file found text size
decided-long found size fault text d = sym (ap (λ t. fault_of_long_file found t size) (sym (append-nil text)) ∙ d.long
    [])

-- A longer file without a fault in its first lines is too long.
sound-long : (kind : Kind) (size : ℕ) (text : Bytes) → ended_lines_fault kind text size ≡ None
    → TooLong ≡ fault_of_long_file (found_as kind) text size
sound-long kind size text none = search rules

-- A longer file whose lines so far have no fault is too long.
pub records-long : (found : Found) (size : ℕ) (reader : ReaderState) (text : Bytes)
    → RecordReaderWasFed found size reader text → TooLong ≡ fault_of_long_file found text size
records-long found size reader text was_fed =
    let none : ended_lines_fault reader.kind text size ≡ None =
    ap (ended_lines_fault reader.kind text) (sym was_fed.of_size)
    ∙ reads_sound reader.kind reader.progress reader.part text was_fed.stands.reads in
    rw was_fed.of_kind (sound-long reader.kind size text none)

-- A longer raw file is too long.
pub raw-too-long : (found : Found) (size : ℕ) (reader : raw_file.RawReaderState) (text : Bytes)
    → RawReaderWasFed found size reader text → TooLong ≡ fault_of_long_file found text size
raw-too-long found size reader text was_fed = rw was_fed.of_kind refl
