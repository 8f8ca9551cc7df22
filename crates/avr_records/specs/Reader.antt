-- The state of a `RecordReader`, and the texts that it may have been fed.
use Rattle.std.specs.Prelude.{ℕ, Bool, false, ◌≡◌, ◌+◌, List, [], ◌∷◌, ◌++◌, length, map, take}
use Rattle.avr_records.specs.Lines.{lines}
use Rattle.avr_records.specs.Progress.{HoldsLines, image_size}
use Rattle.avr_records.specs.Reading.{line_result}
use Rattle.avr_records.specs.Record.{longest}
use Rattle.avr_records.specs.declared.kind.Kind.{Kind}
use Rattle.avr_records.specs.declared.progress.Progress.{Progress}

-- What is kept of an unfinished line: enough to show that it is too long.
abbrev pub kept_of_line : List ℕ → List ℕ
kept_of_line = take (longest + 1)

-- The state is that after this text: no ended line is at fault, and `part` is kept of the last line. After an end
-- record `part` doesn't count.
pub record ReadsLines (kind : Kind) (progress : Progress) (part text : List ℕ) : Type 0 where
  pub prefix : List (List ℕ)
  pub last : List ℕ
  pub cut : lines text ≡ prefix ++ last ∷ []
  pub holds : HoldsLines progress (map (line_result kind) prefix)
  pub keeps : progress.extent.ended ≡ false → part ≡ kept_of_line last

-- The state of a reader: its kind of file, and what it keeps of the ended lines and of the last one. Also how many
-- bytes it was fed, and whether it has failed.
pub record ReaderState : Type 0 where
  pub kind : Kind
  pub progress : Progress
  pub part : List ℕ
  pub fed : ℕ
  pub failed : Bool

-- The size of the memory that the reader reads into.
abbrev pub memory_size : ReaderState → ℕ
memory_size s = image_size s.progress

-- The reader may have been fed this text, and has not failed. Contracts of `RecordReader` speak of such texts.
pub record MayHaveRead (s : ReaderState) (text : List ℕ) : Type 0 where
  pub reads : ReadsLines s.kind s.progress s.part text
  pub fed : s.fed ≡ length text
  pub sound : s.failed ≡ false

-- `RecordReader::new` returns such a reader: of this kind and size of memory, and fed nothing.
pub record IsNewReader (kind : Kind) (size : ℕ) (s : ReaderState) : Type 0 where
  pub of_kind : s.kind ≡ kind
  pub of_size : memory_size s ≡ size
  pub nothing_fed : MayHaveRead s []
