-- Texts of `clap` and of the system, printed at a desk part by part. No clause states which text a value has.
use Rattle.std.specs.Prelude.{◌≡◌, ◌⊎◌, ◌<◌, ◌+◌, ◌^◌, ℕ, ⊤, List, Result, Ok, Err, [], ◌∷◌, ◌++◌, codes, length}
use Rattle.std.specs.List.{concat}
use Rattle.avr_io.specs.Fault.{CountsNeverFall, HasFailedAt, HasFailedToReport, HasSameCounts}
use Rattle.avr_io.specs.Record.{DeskState, Bytes, ChangesRecord, after_err}
use Rattle.avr_io.specs.OutputEvents.{IsBytePrefixOf}
use Rattle.avr_io.specs.Stream.{after_sent}
use Rattle.avr_io.specs.declared.desk.DeskFault.{DeskFault}
use Rattle.avr_io.specs.declared.stream.Stream.{Stream}

-- Where a part of a text begins, and its bytes. The part after the text's end is empty.
abbrev pub Parts : Type 1
Parts = ℕ → Bytes → Type 0

-- Nothing is known of the text.
abbrev pub AnyPart : Parts
AnyPart = λ place part. ⊤

-- From this place on, the text has these parts one after another.
abbrev pub HasParts : Parts → ℕ → List Bytes → Type 0
HasParts has place [] = ⊤
HasParts has place (part ∷ parts) = has place part × HasParts has (place + length part) parts

-- These bytes are the whole text, unless it is longer than any that a machine holds.
pub record IsText (has : Parts) (text : Bytes) : Type 0 where
  pub parts : List Bytes
  pub are : HasParts has 0 parts
  pub joined : text ≡ concat parts
  pub ends : length text < 2 ^ 54 → has (length text) []

-- The text was printed whole, and has `count` bytes; or a write failed after a prefix of it.
abbrev pub IsPrintedOrCut : Parts → Stream → Bytes → DeskState → DeskState → Result ℕ DeskFault → Type 0
IsPrintedOrCut has stream text old new (Ok count) = IsText has text × (count ≡ length text) × HasSameCounts old new
IsPrintedOrCut has stream text old new (Err fault) = ((parts : List Bytes) × HasParts has 0 parts
    × IsBytePrefixOf text (concat parts)) × HasFailedAt stream old new

-- The text was printed, and nothing else happened.
pub record PrintsText (has : Parts) (stream : Stream) (old new : DeskState)
    (printed : Result ℕ DeskFault) : Type 0 where
  pub text : Bytes
  pub kept : ChangesRecord (after_sent stream text) old new
  pub comes : IsPrintedOrCut has stream text old new printed
  pub follows : CountsNeverFall old new

-- An error was reported by its text and LF, in part if a write to the messages failed. Nothing else happened.
pub record ReportsText (has : Parts) (old new : DeskState) : Type 0 where
  pub notice : Bytes
  pub kept : ChangesRecord (after_err notice) old new
  pub is_reported : ((text : Bytes) × IsText has text × (notice ≡ codes "avrstk: error: " ++ (text ++ 10 ∷ [])))
      ⊎ HasFailedToReport old new
  pub follows : CountsNeverFall old new
