-- Planning over the bytes that were read of some files is planning over the whole files, stage by stage.
use Rattle.std.proofs.Common.{◌≡◌, ap, refl, arith, ℕ, ◌≤◌, ◌<◌, List, [], ◌∷◌, ◌++◌, append_assoc, length, take, false, nat_le, Result, length-append, rules}
use Rattle.std.proofs.lemmas.Bool.Decides.{nat_tests}
use Rattle.std.proofs.lemmas.List.{take-append-le, take-append-drop, length-take-le, map-append}
use Rattle.avr_plan.specs.declared.settings.Settings.{Settings}
use Rattle.avr_plan.specs.declared.update.Format.{Format}
use Rattle.avr_desk.specs.Memory.{Stock, content_of_name}
use Rattle.avr_io.specs.Record.{Bytes}
use Rattle.avr_io.specs.OutputEvents.{OutputEvent, Opens, PrintsLine}
use Rattle.avr_io.specs.Stage.{Stage, StageResult, Produced, NotReadToEnd, all_events_of, with_events_before, ◌>>=◌, output_stage, result_stage, renamed_opening, content_stage, file_stage}
use Rattle.avr_desk.specs.Truth.{IsTrueOpening}
use Rattle.avr_io.specs.declared.record.Opening.{Opening}
use Rattle.avr_laws.proofs.Limits.{LARGEST_IMAGE_FILE, LARGEST_PART_FILE}
use Rattle.avr_plan.proofs.Files.Images.{kind-prefix}
use Rattle.avr_laws.proofs.Plans.EachStage.{whole_plan}
use Rattle.avr_records.specs.declared.kind.Found.{Found as FoundKind}
use Rattle.avr_laws.specs.FilesRead.{files_read, read_whole, openings_of_files, planned_from_files, lines_in, AreTrueOpenings}
use Rattle.avr_plan.specs.ImageFile.{image_of_file_within, kind_of}
use Rattle.avr_plan.specs.Planning.{checked_parts, warning_events, checked_image, planned}

-- ---- the openings

-- openings that were true in all output were true in its first part
pub seen_first : (stock : Stock) (first second : List OutputEvent) → AreTrueOpenings stock (first ++ second)
    → AreTrueOpenings stock first
seen_first stock [] second seen = tt
seen_first stock (Opens opening ∷ first) second seen = (seen.0, seen_first stock first second seen.1)
seen_first stock (event ∷ first) second seen = seen_first stock first second seen

-- and in its second part
pub seen_second : (stock : Stock) (first second : List OutputEvent) → AreTrueOpenings stock (first ++ second)
    → AreTrueOpenings stock second
seen_second stock [] second seen = seen
seen_second stock (Opens opening ∷ first) second seen = seen_second stock first second seen.1
seen_second stock (event ∷ first) second seen = seen_second stock first second seen

lines_append : (first second : List OutputEvent) → lines_in (first ++ second) ≡ lines_in first ++ lines_in second
lines_append [] second = refl
lines_append (PrintsLine bytes ∷ first) second = ap (λ (ls : List Bytes). bytes ∷ ls) (lines_append first second)
lines_append (event ∷ first) second = lines_append first second

-- ---- one stage over two lists of openings

-- it has the same outcome and the same output, and if it succeeds it leaves the rest
pub record IsSame {A : Type 0} (p q : StageResult A) (rest : List Opening) : Type 0 where
  pub stage_outcome : q.stage_outcome ≡ p.stage_outcome
  pub lines : lines_in q.output_events ≡ lines_in p.output_events
  pub openings_left : (a : A) → p.stage_outcome ≡ Produced a → q.openings_left ≡ rest

module _ (stock : Stock) where
  -- a stage that reads the files of these names: over the bytes that it saw it is what it is over the whole files
  abbrev Sees : {A : Type 0} → Stage A → List Bytes → Type 0
  Sees stage names = (openings rest : List Opening) → AreTrueOpenings stock (stage openings).output_events
      → ((stage openings).stage_outcome ≡ NotReadToEnd → ⊥)
      → IsSame (stage openings) (stage (openings_of_files stock names ++ rest)) rest

  -- a stage with the same result
  same_verdict : {A : Type 0} (one other : Result A Bytes) (openings rest : List Opening) → other ≡ one
      → IsSame (result_stage one openings) (result_stage other rest) rest
  same_verdict one other openings rest is = search rules

  -- a stage that reads nothing
  settled_fixed : {A : Type 0} (result : Result A Bytes) → Sees (result_stage result) []
  settled_fixed result openings rest seen read = same_verdict result result openings rest refl

  -- a stage that only reports
  output_fixed : (output_events : List OutputEvent) → Sees (output_stage output_events) []
  output_fixed output_events openings rest seen read = search rules

  -- two stages, one after the other
  onward : {A B : Type 0} (stage : Stage A) (go_on : A → Stage B) (prefix back : List Bytes) → Sees stage prefix
      → ((a : A) → Sees (go_on a) back) → Sees (stage >>= go_on) (prefix ++ back)
  onward {A = A} stage go_on prefix back first second openings rest seen read =
      search (rules, map-append, append_assoc, seen_first, seen_second, lines_append)

  -- ---- a file

  -- past its limit a file is checked by the bytes that were read
  abbrev pub IsLimited : {A : Type 0} → ℕ → (Bytes → Result A Bytes) → Type 0
  IsLimited limit judge = (bytes more : Bytes) → limit < length bytes → judge (bytes ++ more) ≡ judge bytes

  module _ {A : Type 0} (name : Bytes) (limit : ℕ) (judge : Bytes → Result A Bytes)
      (limited : IsLimited limit judge) where
    -- the same, after its opening
    behind_opening : (opening : Opening) (openings rest : List Opening)
        → IsTrueOpening stock [] (renamed_opening name opening)
        → ((content_stage name limit judge (renamed_opening name opening) openings).stage_outcome ≡ NotReadToEnd → ⊥)
        → IsSame (with_events_before (Opens (renamed_opening name opening) ∷ [])
        (content_stage name limit judge (renamed_opening name opening) openings))
        (file_stage name limit judge (read_whole name (content_of_name stock [] name) ∷ rest)) rest
    behind_opening opening openings rest is read = search (rules, same_verdict)

    -- a stage that reads a file
    of_file : Sees (file_stage name limit judge) (name ∷ [])
    of_file x0 rest seen read = search (rules, behind_opening)

  -- the format of a file shows in its first 1024 bytes
  same_kind : (kind : Format) (bytes more : Bytes) → 1024 ≤ length bytes
      → kind_of kind (bytes ++ more) ≡ kind_of kind bytes
  same_kind kind bytes more long =
      search (rules, length-take-le 1024 bytes long, take-append-drop 1024 bytes, kind-prefix, append_assoc)

  -- past its limit an image's file is refused by its first bytes
  pub limited_image : (name : Bytes) (kind : Format) (size : ℕ)
      → IsLimited LARGEST_IMAGE_FILE (checked_image name kind size)
  limited_image name kind size bytes more past =
      let one : nat_le (length bytes) LARGEST_IMAGE_FILE ≡ false = grind (arith, nat_tests) in
      let other : nat_le (length (bytes ++ more)) LARGEST_IMAGE_FILE ≡ false = search (rules, length-append) in
      let prefix : take LARGEST_IMAGE_FILE (bytes ++ more) ≡ take LARGEST_IMAGE_FILE bytes =
      take-append-le LARGEST_IMAGE_FILE bytes more (omega (arith, past)) in
      search (rules, same_kind)
    where
      past_limit : (found whole : FoundKind) → nat_le (length bytes) LARGEST_IMAGE_FILE ≡ false
          → nat_le (length (bytes ++ more)) LARGEST_IMAGE_FILE ≡ false
          → take LARGEST_IMAGE_FILE (bytes ++ more) ≡ take LARGEST_IMAGE_FILE bytes → whole ≡ found
          → image_of_file_within LARGEST_IMAGE_FILE whole (bytes ++ more) size ≡ image_of_file_within LARGEST_IMAGE_FILE
          found bytes size
      past_limit found whole one other prefix same = rw (one, other, prefix, same) refl

  -- so it is for planning as a whole
  plan_sees : (s : Settings) → Sees (planned s) (files_read s)
  plan_sees = whole_plan (λ A stage names. Sees {A = A} stage names) (λ A result. settled_fixed result)
      (λ s name ending. output_fixed (warning_events s name ending))
      (λ name. of_file name LARGEST_PART_FILE (checked_parts name) (search (rules, length-append)))
      (λ name kind size. of_file name LARGEST_IMAGE_FILE (checked_image name kind size) (limited_image name kind size))
      (λ A B stage go_on first back f g. onward stage go_on first back f g)

  -- planning over what was seen of the files is planning over the files
  pub seen_is_planned : (s : Settings) (openings : List Opening)
      → AreTrueOpenings stock (planned s openings).output_events → ((planned s openings).stage_outcome ≡ NotReadToEnd
      → ⊥) → ((planned_from_files s stock).stage_outcome ≡ (planned s openings).stage_outcome)
      × (lines_in (all_events_of (planned_from_files s stock)) ≡ lines_in (all_events_of (planned s openings)))
  seen_is_planned s openings seen read = let same = plan_sees s openings [] seen read in search (rules, lines_append)
