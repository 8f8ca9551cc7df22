-- What the record of a desk shows of the system: all that was done with files, and what messages and output took.
use Rattle.std.specs.Prelude.{◌≡◌, ◌++◌, false, flat_map}
use Rattle.std.specs.Io.KnownBytes.{Appends}
use Rattle.std.specs.List.{All, list_any}
use Rattle.std.specs.Option.{option_map_or}
use Rattle.std.specs.declared.io.Read.{Ghosts as Reads}
use Rattle.std.specs.declared.io.Write.{Ghosts as Writes}
use Rattle.avr_desk.specs.Handles.{IsTrueOpen, IsTrueUse}
use Rattle.avr_desk.specs.Journal.{calls_of}
use Rattle.avr_io.specs.Named.{is_dash}
use Rattle.avr_io.specs.Record.{Bytes, all_uses, files_among}
use Rattle.avr_desk.specs.Shown.{Shown}
use Rattle.avr_desk.specs.declared.file_system.FileSystem.{Ghosts}
use Rattle.avr_io.specs.declared.record.Writing.{Writing}
use Rattle.avr_desk.specs.declared.system.OpenFile.TheVariants.{Output}

-- Each use of a file in the record was made with the system, and so was that of the open file. The system did nothing
-- else: its calls are those of the uses, in order, and it holds a file only if the record has one.
pub record RecordsFiles {S F I H O E : Type 0} (system : Ghosts S F I H) (reads : Reads F) (writes : Writes F)
    (input : Reads I) (d : Shown S F H I O E) : Type 0 where
  pub uses : All (IsTrueUse system reads writes input) d.kept.uses
  pub current : IsTrueOpen system reads writes input d.opened d.kept.current
  pub has_done : system.has_done (record {
    calls = flat_map calls_of (all_uses d.kept);
    holds = option_map_or (λ (name : Bytes). 1) d.kept.held 0;
  }) d.system

-- The messages took what the record gained. So did standard output, unless a created file is the output, too.
pub record RecordsOutput {S F I H O E : Type 0} (output_of : Writes O) (messages_of : Writes E)
    (old new : Shown S F H I O E) : Type 0 where
  pub messages : (bytes : Bytes) × (new.kept.messages ≡ old.kept.messages ++ bytes)
      × Appends (messages_of.contents old.messages) (messages_of.contents new.messages) bytes
  pub output : (bytes : Bytes) × (new.kept.output ≡ old.kept.output ++ bytes) × ((old.opened ≡ Output → ⊥)
      → list_any (λ (file : Writing). is_dash file.name) (files_among (all_uses new.kept)) ≡ false
      → Appends (output_of.contents old.output) (output_of.contents new.output) bytes)
