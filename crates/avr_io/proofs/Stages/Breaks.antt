-- What is reported if a stage broke off, by what a desk shows.
use Rattle.std.proofs.lemmas.Grind.{common_steps}
use Rattle.std.proofs.lemmas.Bool.Decides.{nat_tests}
use Rattle.std.proofs.Common.{arith, ◌≡◌, ◌∙◌, ap, sym, ℕ, ◌⊎◌, inl, inr, List, [], ◌∷◌, ◌++◌, append-nil, append_assoc, Result, Ok, Err, true, rules}
use Rattle.std.proofs.lemmas.List.{append_cancel_left}
use Rattle.ghosts.specs.Failures.{NoFailureCounted}
use Rattle.avr_io.specs.Record.{DeskState, Record, showing, all_openings, after_err, Bytes}
use Rattle.avr_io.specs.declared.record.Opening.{Opening}
use Rattle.avr_io.specs.declared.record.Opening.TheVariants.{Found}
use Rattle.avr_io.specs.declared.record.Reading.{Reading}
use Rattle.avr_io.specs.Lines.{memory_line, not_opened_line}
use Rattle.avr_io.specs.OutputEvents.{OutputEvent, Opens, PrintsLine, ReportsLineAs, ReportsFailureAs, after, after_events}
use Rattle.avr_io.proofs.Stages.Outputs.{after_append}
use Rattle.std.proofs.lemmas.List.Elements.{filter_map-append}
use Rattle.avr_io.specs.StageRuns.{BreakCause, NoMemory, NoMemoryForFile, events_of_break, BreakFitsNext, AllocationPoints, AllocatesThere, ReportsBreakAs, StageRefused, RunsStage}
use Rattle.avr_io.specs.Stage.{Stage, Refused, StageResult, events_with_refusal, ◌>>=◌, next_opening, file_stage}
use Rattle.avr_io.proofs.Stages.Played.{output_more}

-- ---- if the desk didn't fail

-- So a status other than that of a plan is the refusal that the stage returns.
pub sound_refusal : {A : Type 0} (taking : AllocationPoints) (stage : Stage A) (before after : Record)
    (failed failed_now unprinted unprinted_now status : ℕ) → NoFailureCounted failed failed_now
    → ((prefix : Bytes) → after.messages ≡ prefix ++ memory_line → ⊥)
    → RunsStage taking stage (showing before failed unprinted) (showing after failed_now unprinted_now) (Err status)
    → StageRefused stage (showing before failed unprinted) (showing after failed_now unprinted_now)
sound_refusal taking stage before after failed failed_now unprinted unprinted_now status sound other goes =
    search (rules, nat_tests, after_append)

-- ---- what openings a desk shows

-- the opening that an event shows, if it is one
abbrev opening_in : OutputEvent → List Opening
opening_in (Opens opening) = opening ∷ []
opening_in event = []

-- the openings that events show, in order
abbrev pub openings_in : List OutputEvent → List Opening
openings_in [] = []
openings_in (event ∷ events) = opening_in event ++ openings_in events

-- an event shows its opening in the record
one_shown : (event : OutputEvent) (r : Record) → all_openings (after event r) ≡ all_openings r ++ opening_in event
one_shown event r = search (rules, nat_tests, filter_map-append, append-nil)

-- each opening is shown
pub openings_shown : (events : List OutputEvent) (r : Record)
    → all_openings (after_events events r) ≡ all_openings r ++ openings_in events
openings_shown [] r = sym (append-nil (all_openings r))
openings_shown (event ∷ events) r = search (rules, one_shown, append_assoc, openings_shown events (after event r))

-- so the same record shows the same openings
same_openings : (first second : List OutputEvent) (r : Record) → after_events first r ≡ after_events second r
    → openings_in first ≡ openings_in second
same_openings first second r kept = search (rules, append_cancel_left, openings_shown first r, openings_shown second r)

-- ---- a stage that begins by opening a file

-- whatever files give, its first output event is the opening of the file of this name
abbrev pub Begins : {A : Type 0} → Bytes → Stage A → Type 0
Begins name stage = (openings : List Opening)
    → (extra : List OutputEvent) × ((stage openings).output_events ≡ Opens (next_opening name openings) ∷ extra)

-- a stage goes on with a next one, and still begins so
pub begins_then : {A B : Type 0} (name : Bytes) (stage : Stage A) (go_on : A → Stage B) → Begins name stage
    → Begins name (stage >>= go_on)
begins_then name stage go_on begins openings =
    let p = stage openings in grind (
      arith,
      nat_tests,
      output_more p.output_events p.openings_left go_on p.stage_outcome,
      begins openings,
    )

-- reading a file begins by opening it
pub begins_file : {A : Type 0} (name : Bytes) (limit : ℕ) (judge : Bytes → Result A Bytes)
    → Begins name (file_stage name limit judge)
begins_file name limit judge openings = grind (arith, nat_tests)

-- only this line was reported since
only_reported : (r : Record) (notice line : Bytes) → after_err notice r ≡ after_err line r → notice ≡ line
only_reported r notice line kept = grind (arith, nat_tests, append_cancel_left)

-- A stage that begins like this, at a desk that shows no opening. Either the file could not be opened, and that was
-- reported; or an allocation before any output failed, and that was reported.
module _ {A : Type 0} (taking : AllocationPoints) (name notice : Bytes) (stage : Stage A) (begins : Begins name stage)
    (r : Record) (failed failed_now unprinted unprinted_now : ℕ) where
  -- the desk before the stage
  abbrev Old : DeskState
  Old = showing r failed unprinted

  -- the desk after it, which reported one notice
  abbrev New : DeskState
  New = showing (after_err notice r) failed_now unprinted_now

  -- The file could not be opened, and that was reported. Or allocation failed before any output, and that was.
  abbrev ReportedAs : Type 0
  ReportedAs = ReportsFailureAs (not_opened_line name) notice Old New
      ⊎ (ReportsLineAs memory_line notice Old New × ((passed : List Opening) × taking passed []))

  -- a desk that only reported shows no opening
  none_opened : (events : List OutputEvent) → after_err notice r ≡ after_events events r → [] ≡ openings_in events
  none_opened events kept = same_openings (PrintsLine notice ∷ []) events r kept

  -- a break before the file was opened, or while it was; a later one shows the opening
  by_break : (passed openings : List Opening) (p : StageResult A) (whole later : List OutputEvent) (break : BreakCause)
      (line : Bytes) → (extra : List OutputEvent) × (p.output_events ≡ Opens (next_opening name openings) ∷ extra)
      → p.output_events ≡ whole ++ later → BreakFitsNext break [] (events_with_refusal later p.stage_outcome)
      → AllocatesThere taking break passed whole → ReportsBreakAs break line Old New → after_err notice r
      ≡ after_events (whole ++ events_of_break break line) r → ReportedAs
  by_break passed openings p [] later NoMemory line begun are is taken is_reported kept = search (rules, only_reported)
  by_break passed openings p x later break line begun are is taken is_reported kept =
      let none = none_opened (x ++ events_of_break break line) kept in search (rules, only_reported, nat_tests)

  -- so a stage with a status other than that of a plan ended at the opening, or before it
  pub unopened : (status : ℕ) → RunsStage taking stage Old New (Err status) → ReportedAs
  unopened status (one, inl (line, went)) =
      let (extra, begun) = begins (went.passed ++ []) in
      let opens : went.output_events ≡ Opens (next_opening name (went.passed ++ [])) ∷ extra =
      sym (ap (λ (p : StageResult A). p.output_events) (went.comes [])) ∙ begun in
      let none = rw opens at (none_opened (went.output_events ++ PrintsLine line ∷ []) went.kept) in absurd (cc)
  unopened status (one, inr b) =
      let openings = b.passed ++ [] in let rest = b.rest [] in
      by_break b.passed openings (stage openings) b.whole rest.later b.break b.notice (begins openings)
      rest.output_events_are rest.broken b.taken b.is_reported b.kept

-- ---- a file that was opened and is good

-- it was read to its end, and this is its outcome
module _ {A : Type 0} (name : Bytes) (limit : ℕ) (judge : Bytes → Result A Bytes) (bytes notice : Bytes) (good : A)
    (given : judge bytes ≡ Ok good) (taking : AllocationPoints) (r : Record)
    (failed failed_now unprinted unprinted_now : ℕ) where
  -- the reading of the whole file
  abbrev reading : Reading
  reading = record { name = name; bytes = bytes; ended = true }

  -- the file was opened, and one notice was reported
  abbrev done : List OutputEvent
  done = Opens (Found reading) ∷ PrintsLine notice ∷ []

  abbrev Before : DeskState
  Before = showing r failed unprinted

  abbrev After : DeskState
  After = showing (after_events done r) failed_now unprinted_now

  -- a break before the file was opened or while it was, or after it, if nothing more is reported
  by_prefix : (openings : List Opening) (whole later : List OutputEvent) (break : BreakCause) (line : Bytes)
      → (file_stage name limit judge openings).output_events ≡ whole ++ later
      → BreakFitsNext break [] (events_with_refusal later (file_stage name limit judge openings).stage_outcome)
      → ReportsBreakAs break line Before After → after_events done r
      ≡ after_events (whole ++ events_of_break break line) r → ReportsLineAs memory_line notice Before After
  by_prefix openings (first ∷ []) later NoMemory line output_events is is_reported kept =
      search (rules, same_openings, begins_file, nat_tests, append_cancel_left)
  by_prefix openings [] later (NoMemoryForFile x) line output_events is is_reported kept =
      search (rules, nat_tests, append_cancel_left)
  by_prefix openings x later break line output_events is is_reported kept = grind (arith, common_steps)

  -- So the desk showed its opening, read to the end, and what was reported is the line of memory.
  pub opened_is_reported : (status : ℕ) → RunsStage taking (file_stage name limit judge) Before After (Err status)
      → ReportsLineAs memory_line notice Before After
  opened_is_reported status (one, inl (line, went)) = search (rules, begins_file name limit judge (went.passed ++ []))
  opened_is_reported status (one, inr b) = let rest = b.rest [] in search (rules, by_prefix)

-- ---- a stage that is refused at once

-- Whatever files give, the stage is refused by this line, with no output before it. So either that line was reported,
-- or a failed allocation, if the stage allocates there.
module _ {A : Type 0} (line notice : Bytes) (stage : Stage A)
    (refuses : (openings : List Opening) → stage openings
    ≡ record { output_events = []; stage_outcome = Refused line; openings_left = openings })
    (taking : AllocationPoints) (r : Record) (failed failed_now unprinted unprinted_now : ℕ) where
  -- the desk before the stage
  abbrev Here : DeskState
  Here = showing r failed unprinted

  -- the desk after it, which reported one notice
  abbrev There : DeskState
  There = showing (after_err notice r) failed_now unprinted_now

  -- the line was reported, or a failed allocation was
  abbrev pub ReportsOne : Type 0
  ReportsOne = ReportsLineAs line notice Here There
      ⊎ (ReportsLineAs memory_line notice Here There × ((passed : List Opening) × taking passed []))

  -- a break of such a stage is one of its line, or of memory
  at_once : (passed : List Opening) (whole later : List OutputEvent) (break : BreakCause) (some : Bytes)
      → [] ≡ whole ++ later → BreakFitsNext break [] (events_with_refusal {A = A} later (Refused line))
      → AllocatesThere taking break passed whole → ReportsBreakAs break some Here There
      → after_err notice r ≡ after_events (whole ++ events_of_break break some) r → ReportsOne
  at_once passed [] [] NoMemory some output_events is taken is_reported kept = search (rules, only_reported)
  at_once passed x y break some output_events is taken is_reported kept = search (rules, only_reported)

  -- so a status other than that of a plan was reported by the line, or as a failed allocation
  pub refused_once : (status : ℕ) → RunsStage taking stage Here There (Err status) → ReportsOne
  refused_once status (one, inl (other, went)) = let comes = went.comes [] in grind (arith, nat_tests, only_reported)
  refused_once status (one, inr b) = let rest = b.rest [] in search (rules, at_once)
