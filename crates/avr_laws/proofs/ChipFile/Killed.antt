-- What a crash leaves of the chip file of a service at a port.
use Rattle.std.proofs.Common.{◌≡◌, ◌∙◌, ap, inl, inr, rules, ℕ, [], Option, Ok, Err}
use Rattle.std.specs.declared.io.Read.{Ghosts as Reads}
use Rattle.std.specs.declared.io.Write.{Ghosts as Writes}
use Rattle.avr_plan.specs.declared.settings.Settings.{Settings}
use Rattle.avr_io.specs.Record.{Bytes, DeskState, Record}
use Rattle.avr_desk.specs.Shown.{IsNewDesk, Shown, RecordsAll, system_desk_view}
use Rattle.avr_desk.specs.declared.file_system.FileSystem.{Ghosts}
use Rattle.avr_laws.specs.Killed.{LeavesOldOrNew}
use Rattle.avr_tool.specs.ServedRun.{ChecksPart}
use Rattle.avr_laws.proofs.ChipFile.KilledRuns.{TriesOnly, left_old_or_new, part_tries, tried_at, tried_goes, tried_loaded, tried_unloaded, tried_went}
use Rattle.avr_part.specs.Part.{Part}
use Rattle.avr_tool.specs.ServedNet.{ServesNet}
use Rattle.avr_laws.specs.Killed.{chip_file_of_service}
use Rattle.stk_host.specs.Transcript.{LinkState}

-- checking a part and a chip file replaces nothing
checked_tried : (settings : Settings) (file : Bytes) (old new : DeskState) (part : Part)
    → ChecksPart settings file old new (Ok part) → tried_at new ≡ tried_at old
checked_tried settings file old new part with =
    search (rules, tried_loaded, tried_went, with.then_is.1.then_is, with.then_is.1.loaded)

-- a part or a chip file that is refused
refused_tried : (settings : Settings) (file : Bytes) (old new : DeskState) (status : ℕ)
    → ChecksPart settings file old new (Err status) → tried_at new ≡ tried_at old
refused_tried settings file old new status (inl none) = tried_goes _ _ _ _ _ none.refused
refused_tried settings file old new status (inr with) =
    tried_unloaded _ _ _ _ _ with.then_is ∙ tried_went _ _ _ _ with.found

-- a service tries to put the chip of its client there, and nothing else
service_tries : (unused : Type 0) (over : Option LinkState → Type 0) (settings : Settings) (port file : Bytes)
    (old new : DeskState) (status : ℕ) → (s : ServesNet unused over settings port file old new status)
    → tried_at old ≡ []
    → TriesOnly file (chip_file_of_service unused over settings port file old new status s) (tried_at new)
service_tries unused over settings port file old new status (inl (part, checked, is, inl (link, on, serves))) none =
    part_tries part file 16777216 _ _ status serves (checked_tried settings file old checked part is ∙ none)
service_tries unused over settings port file old new status (inl (part, checked, is, inr (on, notice, one))) none =
    ap (λ (r : Record). r.tried) notice.kept ∙ checked_tried settings file old checked part is ∙ none
service_tries unused over settings port file old new status (inr (refused, left)) none =
    refused_tried settings file old new status refused ∙ none

-- so a crash leaves that chip's file or the old one
pub service_killed : {S F I H O E : Type 0} (system : Ghosts S F I H) (reads : Reads F) (writes : Writes F)
    (input : Reads I) (old new : Shown S F H I O E) → IsNewDesk system old
    → RecordsAll system reads writes input old new → (unused : Type 0) (over : Option LinkState → Type 0)
    (settings : Settings) (port file : Bytes) (status : ℕ)
    → (s : ServesNet unused over settings port file (system_desk_view old) (system_desk_view new) status)
    → LeavesOldOrNew system new.system file
    (chip_file_of_service unused over settings port file (system_desk_view old) (system_desk_view new) status s)
service_killed system reads writes input old new fresh is_reported unused over settings port file status s =
    left_old_or_new system reads writes input old new fresh is_reported file _
    (search (rules, service_tries))
