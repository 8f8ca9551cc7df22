-- Past uses of files stay, whatever is done at the desk from then on.
use Rattle.std.proofs.lemmas.Grind.{common_steps}
use Rattle.std.proofs.Common.{◌≡◌, ◌∙◌, ◌⊎◌, ap, subst, sym, refl, inl, inr, ℕ, Bool, List, [], ◌∷◌, ◌++◌, append_assoc, append-nil, map, rules, arith}
use Rattle.avr_io.specs.Record.{Bytes, DeskState, Record, all_uses, files_among, use_of, with_absent}
use Rattle.avr_io.specs.OutputEvents.{OutputEvent, Opens, PrintsLine, CreatesFile, after, after_events, after_opening}
use Rattle.avr_io.specs.declared.record.FileUse.{FileUse}
use Rattle.avr_io.specs.declared.record.FileUse.TheVariants.{Opened}
use Rattle.avr_io.specs.declared.record.Opening.{Opening}
use Rattle.avr_io.specs.declared.record.Opening.TheVariants.{Absent, Found}
use Rattle.avr_io.specs.declared.record.Open.TheVariants.{ToRead}
use Rattle.avr_io.specs.declared.record.Reading.{Reading}
use Rattle.avr_tool.specs.Emulated.{IsSavedIfSent}
use Rattle.avr_laws.specs.OnlyReading.{OnlyReadsAndPrints}
use Rattle.avr_session.specs.Runs.{BrokeOff, Devices, RunAllocationPoints, before_fault, start}
use Rattle.avr_session.specs.Stopping.{RanToStatus}
use Rattle.stk_host.specs.Dialog.{Dialog, outputs}

-- These are the first uses at a desk. The file that it is reading may be the last of them; the file that it is writing
-- isn't.
abbrev pub ArePast : List FileUse → Record → Type 0
ArePast uses r = ((more : List FileUse) × (r.uses ≡ uses ++ more))
    ⊎ ((x : Reading) × (r.current ≡ ToRead x) × (r.uses ++ Opened (Found x) ∷ [] ≡ uses))

-- past uses are among all uses
pub past_shown : (uses : List FileUse) (r : Record) → ArePast uses r
    → (more : List FileUse) × (all_uses r ≡ uses ++ more)
past_shown uses r (inl (more, is)) = search (rules, append_assoc uses more (use_of r.current))
past_shown uses r (inr (x, reads, is)) = ([], ap (λ o. r.uses ++ use_of o) reads ∙ is ∙ sym (append-nil uses))

-- the open file is put by, and uses may follow it
put_by : (uses later : List FileUse) (r s : Record) → ArePast uses r → s.uses ≡ all_uses r ++ later → ArePast uses s
put_by uses later r s past is = search (rules, append_assoc)

-- one more output event
past_on : (uses : List FileUse) (event : OutputEvent) (r : Record) → ArePast uses r → ArePast uses (after event r)
past_on uses (Opens (Absent name)) r past = put_by uses (Opened (Absent name) ∷ []) r (with_absent name r) past refl
past_on uses (Opens (Found x)) r past = put_by uses [] r (after (Opens (Found x)) r) past
    (sym (append-nil (all_uses r)))
past_on uses (PrintsLine bytes) r past = past
past_on uses (CreatesFile name) r past =
    put_by uses [] r (after (CreatesFile name) r) past (sym (append-nil (all_uses r)))
past_on uses event r past = search rules

-- any output events
pub past_all : (uses : List FileUse) (output_events : List OutputEvent) (r : Record) → ArePast uses r
    → ArePast uses (after_events output_events r)
past_all uses [] r past = past
past_all uses (event ∷ output_events) r past = past_all uses output_events (after event r) (past_on uses event r past)

-- ---- reading and reporting alone

-- these openings, as uses
abbrev pub opened : List Opening → List FileUse
opened openings = map Opened openings

-- openings make no file
pub none_made : (openings : List Opening) → files_among (opened openings) ≡ []
none_made [] = refl
none_made (opening ∷ openings) = none_made openings

-- reading and reporting only open files
pub only_opened : (output_events : List OutputEvent) (r : Record) → OnlyReadsAndPrints output_events
    → (openings : List Opening) × (all_uses (after_events output_events r) ≡ all_uses r ++ opened openings)
only_opened [] r reads = ([], sym (append-nil (all_uses r)))
only_opened (Opens (Absent name) ∷ output_events) r reads =
    let later = only_opened output_events (with_absent name r) reads in (
      Absent name ∷ later.0,
      (search (rules, append_assoc)),
    )
only_opened (Opens (Found x) ∷ output_events) r reads =
    let later = only_opened output_events (after (Opens (Found x)) r) reads in
    (Found x ∷ later.0, (search (rules, append_assoc)))
only_opened (PrintsLine bytes ∷ output_events) r reads = only_opened output_events (after (PrintsLine bytes) r) reads
only_opened (event ∷ output_events) r reads = absurd reads

-- ---- what a session and a save do

-- an opening is a past use as soon as it is made
pub opened_past : (opening : Opening) (r : Record)
    → ArePast (all_uses r ++ Opened opening ∷ []) (after_opening opening r)
opened_past (Absent name) r = inl ([], sym (append-nil (all_uses r ++ Opened (Absent name) ∷ [])))
opened_past (Found x) r = inr (x, refl, refl)

-- a session, whole or not
pub run_past : (uses : List FileUse) (dialog : Dialog OutputEvent ℕ) (old new : Devices) (allocates : Bool)
    (points : RunAllocationPoints) (status : ℕ) → (RanToStatus dialog old new status
    ⊎ (BrokeOff dialog start old new (before_fault allocates) points × (status ≡ 1))) → ArePast uses old.desk.kept
    → ArePast uses new.desk.kept
run_past uses dialog old new allocates points status (inl (place, ran)) past =
    subst (ArePast uses) (sym ran.kept) (past_all uses (outputs ran.events) old.desk.kept past)
run_past uses dialog old new allocates points status (inr (broke, one)) past =
    subst (ArePast uses) (sym broke.kept) (search (rules, past_all))

-- a save of the chip file
pub saved_past : (uses : List FileUse) (sent : List ℕ) (old new : DeskState) (file bytes : Bytes) (ran status : ℕ)
    → IsSavedIfSent sent old new file bytes ran status → ArePast uses old.kept → ArePast uses new.kept
saved_past uses sent old new file bytes ran status saved past = grind (arith, common_steps)
