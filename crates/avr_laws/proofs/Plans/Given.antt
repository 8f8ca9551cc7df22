-- What openings gave: at files in memory, and by the record of any desk.
use Rattle.std.proofs.Common.{◌≡◌, ◌∙◌, ap, subst, List, [], ◌∷◌, ◌++◌, append-nil, refl, rules}
use Rattle.avr_plan.specs.declared.settings.Settings.{Settings}
use Rattle.avr_desk.proofs.FileUses.Uses.{openings_used}
use Rattle.avr_io.proofs.Stages.Breaks.{openings_in, openings_shown}
use Rattle.avr_desk.specs.Memory.{Stock, content_of_name}
use Rattle.avr_io.specs.Record.{DeskState, ChangesRecord, Record, all_openings, all_uses, openings_among}
use Rattle.avr_io.specs.OutputEvents.{OutputEvent, Opens, after_events}
use Rattle.avr_io.specs.StageRuns.{StageCompleted}
use Rattle.avr_io.specs.Stage.{Produced, StageResult}
use Rattle.avr_desk.specs.Truth.{IsTrueOpening}
use Rattle.avr_io.specs.declared.record.Opening.{Opening}
use Rattle.avr_io.specs.declared.record.Opening.TheVariants.{Absent, Found}
use Rattle.avr_plan.specs.Plan.{Plan}
use Rattle.avr_plan.specs.Planning.{planned}
use Rattle.avr_laws.proofs.Plans.AskedPlan.{AreRead, IsReadBy, plan_asked}
use Rattle.avr_laws.specs.AskedPlan.{FileHolds, IsAsked, WasOpened}
use Rattle.avr_laws.specs.FilesRead.{AreTrueOpenings}

-- ---- at files in memory

-- an opening that was true gives what the file holds
seen_by : (stock : Stock) (opening : Opening) → IsTrueOpening stock [] opening
    → IsReadBy (FileHolds (content_of_name stock [])) opening []
seen_by stock opening seen = search (rules, append-nil)

-- so do all openings of an output
seen_read : (stock : Stock) (output_events : List OutputEvent) → AreTrueOpenings stock output_events
    → AreRead (FileHolds (content_of_name stock [])) output_events []
seen_read stock [] seen = refl
seen_read stock (Opens opening ∷ output_events) seen =
    ([], [], refl, seen_by stock opening seen.0, seen_read stock output_events seen.1)
seen_read stock (event ∷ output_events) seen = seen_read stock output_events seen

-- so the plan is the one that settings and files ask for
pub seen_asked : (stock : Stock) (s : Settings) (openings : List Opening) (plan : Plan)
    → AreTrueOpenings stock (planned s openings).output_events
    → (planned s openings).stage_outcome ≡ Produced plan → IsAsked s (FileHolds (content_of_name stock [])) [] plan
seen_asked stock s openings plan seen made = search (rules, plan_asked, seen_read)

-- ---- by a desk's record

-- each opening of an output gives what it gave
opened_read : (output_events : List OutputEvent) → AreRead WasOpened output_events (openings_in output_events)
opened_read [] = refl
opened_read (Opens (Found reading) ∷ output_events) =
    (Found reading ∷ [], openings_in output_events, refl, (search rules), opened_read output_events)
opened_read (Opens (Absent name) ∷ output_events) =
    (Absent name ∷ [], openings_in output_events, refl, tt, opened_read output_events)
opened_read (event ∷ output_events) = opened_read output_events

-- the openings of two outputs
pub openings_joined : (first second : List OutputEvent)
    → openings_in (first ++ second) ≡ openings_in first ++ openings_in second
openings_joined [] second = refl
openings_joined (Opens opening ∷ first) second = search (rules, openings_joined first second)
openings_joined (event ∷ first) second = openings_joined first second

-- what was opened is in the output
pub openings_since : (old new : DeskState) (outputs : List OutputEvent) → ChangesRecord (after_events outputs) old new
    → all_openings new.kept ≡ all_openings old.kept ++ openings_in outputs
openings_since old new outputs passes = ap all_openings passes ∙ openings_shown outputs old.kept

-- the same by the uses
pub opened_by_uses : (old new : Record) (opened : List Opening) → all_openings new ≡ all_openings old ++ opened
    → openings_among (all_uses new) ≡ openings_among (all_uses old) ++ opened
opened_by_uses old new opened is = search (rules, openings_used)

-- so a plan is the one that the settings and the files that were opened ask for
pub desk_asked : (s : Settings) (openings : List Opening) (plan : Plan)
    → (planned s openings).stage_outcome ≡ Produced plan
    → IsAsked s WasOpened (openings_in (planned s openings).output_events) plan
desk_asked s openings plan made = search (rules, plan_asked, openings_in, opened_read)

pub went_asked : (s : Settings) (plan : Plan) (old new : DeskState)
    (went : StageCompleted (planned s) old new (Produced plan))
    → IsAsked s WasOpened (openings_in went.output_events) plan
went_asked s plan old new went =
    subst (λ (output_events : List OutputEvent). IsAsked s WasOpened (openings_in output_events) plan)
    (ap (λ (p : StageResult Plan). p.output_events) (went.comes []))
    (desk_asked s (went.passed ++ []) plan (ap (λ (p : StageResult Plan). p.stage_outcome) (went.comes [])))
