-- What a true record of a desk shows.
use Rattle.std.proofs.Common.{◌≡◌, ◌∙◌, sym, ap, subst, refl, ℕ, false, List, Option, Some, None}
use Rattle.std.specs.Prelude.{flat_map}
use Rattle.std.specs.List.{list_any}
use Rattle.std.specs.Option.{option_len, option_map_or}
use Rattle.std.specs.declared.io.Read.{Ghosts as Reads}
use Rattle.std.specs.declared.io.Write.{Ghosts as Writes}
use Rattle.avr_desk.proofs.FileUses.Uses.{files_used}
use Rattle.avr_desk.specs.Handles.{IsTrueRecord}
use Rattle.avr_desk.specs.Journal.{FileCall, SystemCalls, calls_of, calls_of_record}
use Rattle.avr_io.specs.Named.{is_dash}
use Rattle.avr_desk.specs.OpenFile.{is_output}
use Rattle.avr_io.specs.Record.{Bytes, Record, all_uses}
use Rattle.avr_desk.specs.Shown.{IsTrueSince, Shown}
use Rattle.avr_desk.specs.declared.file_system.FileSystem.{Ghosts}
use Rattle.avr_io.specs.declared.record.Writing.{Writing}
use Rattle.avr_desk.specs.declared.system.OpenFile.{OpenFile}
use Rattle.avr_desk.specs.declared.system.OpenFile.TheVariants.{Output}
use Rattle.avr_laws.specs.Recorded.{RecordsFiles, RecordsOutput}

-- ---- files

-- the calls of uses
-- the count of held files
count_same : (held : Option Bytes) → option_len held ≡ option_map_or (λ (name : Bytes). 1) held 0
count_same None = refl
count_same (Some name) = refl

abbrev done_by : List FileCall → ℕ → SystemCalls
done_by calls holds = record { calls = calls; holds = holds }

-- both in a record
done_same : (r : Record) → calls_of_record r
    ≡ done_by (flat_map calls_of (all_uses r)) (option_map_or (λ (name : Bytes). 1) r.held 0)
done_same r = ap (done_by (flat_map calls_of (all_uses r))) (count_same r.held)

-- a true record shows each use of a file
pub files_recorded : {S F I H O E : Type 0} (system : Ghosts S F I H) (reads : Reads F) (writes : Writes F)
    (input : Reads I) (d : Shown S F H I O E)
    → IsTrueRecord system reads writes input d.system d.opened d.hold d.kept → RecordsFiles system reads writes input d
files_recorded system reads writes input d truly = record {
  uses = truly.uses;
  current = truly.current;
  has_done = subst (λ (done : SystemCalls). system.has_done done d.system) (done_same d.kept) truly.has_done;
}

-- ---- messages and output

-- an open file other than standard output
apart_from_output : {F I : Type 0} (opened : OpenFile F I) → (opened ≡ Output → ⊥) → is_output opened ≡ false
apart_from_output Output apart = absurd (apart refl)
apart_from_output z0 apart = refl

-- a true record shows messages and output
pub output_recorded : {S F I H O E : Type 0} (system : Ghosts S F I H) (reads : Reads F) (writes : Writes F)
    (input : Reads I) (output_of : Writes O) (messages_of : Writes E) (old new : Shown S F H I O E)
    → IsTrueSince system reads writes input output_of messages_of old new → RecordsOutput output_of messages_of old new
output_recorded system reads writes input output_of messages_of old new truly = record {
  messages = (truly.message_bytes, truly.messages, truly.messages_taken);
  output = (
    truly.output_bytes,
    truly.output,
    λ apart none.
        (truly.out
        (ap (list_any (λ (file : Writing). is_dash file.name)) (sym (files_used new.kept)) ∙ none)
        (apart_from_output old.opened apart)).1,
  );
}
