-- Files that are created and written.
use Rattle.std.proofs.Common.{◌≡◌, ℕ, true, List, [], ◌∷◌, map, bytes_eq, codes, Result, Ok, Err, ◌∙◌, refl, rules}
use Rattle.std.proofs.lemmas.Slice.Eq.{bytes_eq-Decides}
use Rattle.avr_io.specs.Record.{DeskState, ChangesRecord, after_create}
use Rattle.avr_io.specs.Fault.{CountsFailure, CountsNeverFall, HasFailedAt, HasSameCounts}
use Rattle.avr_io.specs.Stream.{SendsPart}
use Rattle.avr_io.specs.declared.stream.Stream.{Stream}
use Rattle.avr_io.specs.declared.stream.Stream.TheVariants.{File, Output, Messages}
use Rattle.avr_io.specs.declared.desk.DeskFault.{DeskFault}
use Rattle.stk_host.specs.Dialog.{Emitted}
use Rattle.avr_io.specs.OutputEvents.{OutputEvent, CreatesFile, WritesFile, WritesOutput, ReportsLine, after_events}
use Rattle.avr_io.proofs.Stages.Outputs.{kept_none}
use Rattle.avr_io.proofs.Lines.ReportedAs.{follows_on}
use Rattle.avr_session.specs.Runs.{Cause, FileFailed, NotCreated, NotWritten, cause_line}
use Rattle.avr_session.specs.Reporting.{OutputsPrefix, OutputsOrStops, Reports, DeskStops}
use Rattle.avr_session.specs.Session.{saving_output}
use Rattle.avr_session.specs.Saving.{SaveStops, WritesSome, WritesAll}
use Rattle.avr_session.proofs.Runs.Stops.{file_part, output_part, prefix_from}

-- If a file could not be created, nothing of its events was done.
pub not_created : (old new : DeskState) (file : List ℕ) (result : Result (Unit {0}) DeskFault) (fault : DeskFault)
    (more : List OutputEvent) → result ≡ Err fault → ChangesRecord (after_create file result) old new
    → OutputsPrefix (FileFailed file NotCreated) old new (CreatesFile file ∷ more)
not_created old new file (Ok done) fault more is kept = cc
not_created old new file (Err other) fault more is kept =
    prefix_from [] [] (CreatesFile file ∷ more) (refl, map Emitted more, refl) tt
    (kept ∙ kept_none old.kept)

-- if a file can't be saved, the desk has failed
pub save_is_desk : (file : List ℕ) (before now : DeskState) (cause : Cause) (notice : List ℕ)
    → SaveStops file before now cause notice → DeskStops before now cause notice
save_is_desk file before now cause notice stops = search rules

-- a file was created, and its bytes were written, or a prefix of them
text_then : (old mid new : DeskState) (file text : List ℕ) (result : Result (Unit {0}) DeskFault)
    → ChangesRecord (after_events (CreatesFile file ∷ [])) old mid → HasSameCounts old mid
    → WritesAll File file mid new text result → OutputsOrStops (SaveStops file) old new (CreatesFile file
    ∷ WritesFile text ∷ []) result
text_then old mid new file text (Ok done) kept same writes = search rules
text_then old mid new file text (Err _) kept same writes =
    search (rules, file_part old mid writes.between file text kept writes.part)

-- A file was created, and then all its bytes were written or a cause stopped them: this is a report.
pub created_then : (old mid new : DeskState) (file text : List ℕ) (created : Result (Unit {0}) DeskFault)
    (result : Result (Unit {0}) DeskFault) {done : Unit {0}} → created ≡ Ok done
    → ChangesRecord (after_create file created) old mid → CountsFailure File old mid created → CountsNeverFall mid new
    → WritesAll File file mid new text result
    → Reports (SaveStops file) old new (CreatesFile file ∷ WritesFile text ∷ []) result
created_then old mid new file text created result is kept first last writes = search (rules, text_then, follows_on)

-- bytes were written to standard output, or a prefix of them
put_out : (old new : DeskState) (file text : List ℕ) (result : Result (Unit {0}) DeskFault) → file ≡ codes "-"
    → WritesAll Output file old new text result → OutputsOrStops (SaveStops file) old new (WritesOutput text
    ∷ []) result
put_out old new file text (Ok done) named writes = writes
put_out old new file text (Err _) named writes =
    search (rules, output_part old writes.between file text named writes.part)

-- If the name is `-`, the bytes that were written to standard output are what was to be saved.
pub saved_out : (old new : DeskState) (file text : List ℕ) (result : Result (Unit {0}) DeskFault)
    → bytes_eq file (codes "-") ≡ true → WritesAll Output file old new text result → CountsNeverFall old new
    → Reports (SaveStops file) old new (saving_output file text) result
saved_out old new file text result same writes follows = search (rules, put_out, bytes_eq-Decides)

-- a stream that fails during writing fails as a file
pub failed_at_file : (stream : Stream) (old new : DeskState) → (stream ≡ Messages → ⊥) → HasFailedAt stream old new
    → HasFailedAt File old new
failed_at_file stream old new written failed = search rules

-- If writing broke off and this was reported, a prefix of the bytes was written.
pub writes_some : (stream : Stream) (file text : List ℕ) (old mid new : DeskState) → SendsPart stream old mid text
    → HasFailedAt File old mid → CountsNeverFall old mid → ReportsLine mid new (cause_line (FileFailed file NotWritten))
    → WritesSome stream file old new text
writes_some stream file text old mid new part failed first some = search rules
