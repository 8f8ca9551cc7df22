-- Stages that ran, one after another.
use Rattle.std.proofs.lemmas.Bool.Decides.{nat_tests}
use Rattle.std.proofs.Common.{arith, ◌≡◌, sym, subst, inl, inr, List, [], ◌∷◌, ◌++◌, ℕ, take, drop, refl, Ok, Err, Result, append_assoc, append-nil, rules}
use Rattle.std.proofs.lemmas.List.{take-append-drop}
use Rattle.avr_io.specs.Record.{DeskState, ChangesRecord}
use Rattle.avr_io.specs.Fault.{HasSameCounts, CountsFailure, CountsNeverFall}
use Rattle.avr_io.specs.declared.desk.DeskFault.{DeskFault}
use Rattle.avr_io.specs.declared.desk.DeskFault.TheVariants.{Failed}
use Rattle.avr_io.specs.Stream.{SendsPart}
use Rattle.avr_io.specs.declared.stream.Stream.TheVariants.{Messages}
use Rattle.avr_io.specs.declared.record.Opening.{Opening}
use Rattle.avr_io.specs.OutputEvents.{OutputEvent, PrintsLine, ReportsLineAs, ReportsLine, after_events}
use Rattle.avr_io.proofs.Stages.Outputs.{kept_none, kept_append}
use Rattle.avr_io.proofs.Lines.ReportedAs.{follows_on, follows_same, same_here, same_on}
use Rattle.avr_io.specs.Lines.{memory_line}
use Rattle.avr_io.specs.StageRuns.{StageCompleted, BreakCause, LineNotPrinted, NoMemory, events_of_break, BreakFitsNext, ReportsBreakAs, RestOfStage, AllocationPoints, AllocatesThere, StageBrokeOff, RunsStage}
use Rattle.avr_io.specs.Stage.{Stage, StageOutcome, Produced, Refused, StageResult, events_with_refusal, continued_stage, ◌>>=◌, result_stage, output_stage}

-- ---- counts

-- a break is reported as well since an earlier state with the same counts
break_since : (break : BreakCause) (notice : List ℕ) (first old new : DeskState) → HasSameCounts first old
    → ReportsBreakAs break notice old new → ReportsBreakAs break notice first new
break_since break notice first old new same is_reported = search (rules, nat_tests)

-- ---- a stage after another one

-- the output of the next stage comes after this one's
pub output_more : {A B : Type 0} (output_events : List OutputEvent) (openings_left : List Opening) (go_on : A → Stage B)
    (stage_outcome : StageOutcome A) → (extra : List OutputEvent)
    × ((continued_stage output_events openings_left go_on stage_outcome).output_events ≡ output_events ++ extra)
output_more output_events openings_left go_on (Produced a) = ((go_on a openings_left).output_events, refl)
output_more output_events openings_left go_on x = ([], sym (append-nil output_events))

-- the line of a refusal comes after both
pub reported_append : {A : Type 0} (first second : List OutputEvent) (stage_outcome : StageOutcome A)
    → events_with_refusal (first ++ second) stage_outcome ≡ first ++ events_with_refusal second stage_outcome
reported_append first second stage_outcome = search (rules, append_assoc)

-- what is left of a stage is left of one with a next stage, too
rest_more : {A B : Type 0} (p : StageResult A) (go_on : A → Stage B) (whole : List OutputEvent) (break : BreakCause)
    (more : List Opening) → RestOfStage p whole break more
    → RestOfStage (continued_stage p.output_events p.openings_left go_on p.stage_outcome) whole break more
rest_more p go_on whole break more rest = search (rules, nat_tests, append_assoc)

-- two stages that completed, one after the other, are one stage that completed
pub completed_then : {A B : Type 0} (stage : Stage A) (go_on : A → Stage B) (old mid new : DeskState) (a : A)
    (stage_outcome : StageOutcome B) → StageCompleted stage old mid (Produced a)
    → StageCompleted (go_on a) mid new stage_outcome → StageCompleted (stage >>= go_on) old new stage_outcome
completed_then stage go_on old mid new a stage_outcome first then = record {
  passed = first.passed ++ then.passed;
  output_events = first.output_events ++ then.output_events;
  comes = grind (arith, nat_tests, append_assoc);
  kept = grind (arith, nat_tests, reported_append, kept_append);
  sound = same_on old mid new first.sound then.sound;
}

-- allocation points after a stage that succeeded
abbrev pub TakesBehind : {A : Type 0} (inner taking : AllocationPoints) (stage : Stage A) (old mid : DeskState) (a : A)
    → StageCompleted stage old mid (Produced a) → Type 0
TakesBehind inner taking stage old mid a first = (passed : List Opening) (emitted : List OutputEvent)
    → inner passed emitted → taking (first.passed ++ passed) (first.output_events ++ emitted)

-- a stage that completed, and a next one that broke off, are one stage that broke off
went_broke : {A B : Type 0} (inner taking : AllocationPoints) (stage : Stage A) (go_on : A → Stage B)
    (old mid new : DeskState) (a : A) (first : StageCompleted stage old mid (Produced a))
    → TakesBehind inner taking stage old mid a first → StageBrokeOff inner (go_on a) mid new
    → StageBrokeOff taking (stage >>= go_on) old new
went_broke inner taking stage go_on old mid new a first behind then = record {
  passed = first.passed ++ then.passed;
  whole = first.output_events ++ then.whole;
  break = then.break;
  rest = grind (arith, nat_tests, append_assoc);
  taken = grind (arith, nat_tests);
  notice = then.notice;
  is_reported = break_since then.break then.notice old mid new first.sound then.is_reported;
  kept = grind (arith, nat_tests, subst, append_assoc, kept_append);
  follows = follows_on old mid new (follows_same old mid first.sound) then.follows;
}

-- a stage that succeeded, and the run of the next one
pub runs_then : {A B : Type 0} (inner taking : AllocationPoints) (stage : Stage A) (go_on : A → Stage B)
    (old mid new : DeskState) (a : A) (result : Result B ℕ) (went : StageCompleted stage old mid (Produced a))
    → TakesBehind inner taking stage old mid a went → RunsStage inner (go_on a) mid new result
    → RunsStage taking (stage >>= go_on) old new result
runs_then inner taking stage go_on old mid new a (Ok b) went behind then = search (rules, completed_then)
runs_then inner taking stage go_on old mid new a (Err status) went behind (one, inl then) =
    search (rules, completed_then)
runs_then inner taking stage go_on old mid new a (Err status) went behind (one, inr then) =
    (one, inr (went_broke inner taking stage go_on old mid new a went behind then))

-- a stage that was refused or broke off
pub runs_first_only : {A B : Type 0} (taking : AllocationPoints) (stage : Stage A) (go_on : A → Stage B)
    (old new : DeskState) (status : ℕ) → RunsStage taking stage old new (Err status)
    → RunsStage taking (stage >>= go_on) old new (Err status)
runs_first_only taking stage go_on old new status (one, inl went) = grind (arith, nat_tests)
runs_first_only taking stage go_on old new status (one, inr broke) = grind (arith, nat_tests, rest_more)

-- more allocation points
pub runs_with_more_allocations : {A : Type 0} (inner taking : AllocationPoints) (stage : Stage A) (old new : DeskState)
    (result : Result A ℕ) → ((passed : List Opening) (emitted : List OutputEvent) → inner passed emitted
    → taking passed emitted) → RunsStage inner stage old new result → RunsStage taking stage old new result
runs_with_more_allocations inner taking stage old new result within went = search (rules, nat_tests)

-- ---- stages that read nothing

-- nothing is printed or read
pub completed_without_events : {A : Type 0} (d : DeskState) (a : A) → StageCompleted (result_stage (Ok a)) d d
    (Produced a)
completed_without_events d a =
    record { passed = []; output_events = []; comes = λ more. refl; kept = kept_none d.kept; sound = same_here d }

-- a line was printed whole
reported_whole : {A : Type 0} (old new : DeskState) (line : List ℕ)
    → ChangesRecord (after_events (PrintsLine line ∷ [])) old new → HasSameCounts old new
    → StageCompleted {A = A} (result_stage (Err line)) old new (Refused line)
reported_whole old new line kept same =
    record { passed = []; output_events = []; comes = λ more. refl; kept = kept; sound = same }

-- or it broke off there
broke_here : {A : Type 0} (taking : AllocationPoints) (stage : Stage A) (old new : DeskState) (break : BreakCause)
    (notice : List ℕ) → AllocatesThere taking break [] [] → ((more : List Opening)
    → BreakFitsNext break more (events_with_refusal (stage more).output_events (stage more).stage_outcome))
    → ReportsBreakAs break notice old new → ChangesRecord (after_events (events_of_break break notice)) old new
    → CountsNeverFall old new → StageBrokeOff taking stage old new
broke_here taking stage old new break notice taken is is_reported kept follows = grind (arith, nat_tests)

-- a refusal that was reported, or a prefix of its line
refused_by : {A : Type 0} (taking : AllocationPoints) (old new : DeskState) (line notice : List ℕ)
    → ReportsLineAs line notice old new → ChangesRecord (after_events (PrintsLine notice ∷ [])) old new
    → CountsNeverFall old new → RunsStage {A = A} taking (result_stage (Err line)) old new (Err 1)
refused_by {A} taking old new line notice (inl (is, same)) kept follows =
    (refl, inl (line, reported_whole {A = A} old new line (rw is at kept) same))
refused_by {A} taking old new line notice (inr part) kept follows = (
  refl,
  inr (broke_here taking (result_stage {A = A} (Err line)) old new (LineNotPrinted line) notice tt (λ more. ([], refl))
      part kept follows),
)

pub runs_to_refusal : {A : Type 0} (taking : AllocationPoints) (old new : DeskState) (line : List ℕ) (status : ℕ)
    → status ≡ 1 → ReportsLine old new line → RunsStage {A = A} taking (result_stage (Err line)) old new (Err status)
runs_to_refusal {A} taking old new line status one notice =
    (one, (refused_by {A = A} taking old new line notice.notice notice.is_reported notice.kept notice.follows).1)

-- a failed allocation
pub runs_without_memory : {A : Type 0} (taking : AllocationPoints) (stage : Stage A) (old new : DeskState) (status : ℕ)
    → taking [] [] → status ≡ 1 → ReportsLine old new memory_line → RunsStage taking stage old new (Err status)
runs_without_memory taking stage old new status allocates one notice = (
  one,
  inr (broke_here taking stage old new NoMemory notice.notice allocates (λ more. tt) notice.is_reported notice.kept
      notice.follows),
)

-- ---- results and output

-- a good result is a stage that completes without events
pub completed_good_result : {A : Type 0} (r : Result A (List ℕ)) (a : A) (d : DeskState) → r ≡ Ok a
    → StageCompleted (result_stage r) d d (Produced a)
completed_good_result r a d is = rw is (completed_without_events d a)

-- a bad result is a stage that is refused by its line
pub runs_bad_result : {A : Type 0} (taking : AllocationPoints) (r : Result A (List ℕ)) (line : List ℕ)
    (old new : DeskState) (status : ℕ) → r ≡ Err line → status ≡ 1 → ReportsLine old new line
    → RunsStage taking (result_stage r) old new (Err status)
runs_bad_result taking r line old new status is one notice =
    rw is (runs_to_refusal taking old new line status one notice)

-- output of nothing is a stage that completes without events
pub completed_silently : (d : DeskState) → StageCompleted (output_stage []) d d (Produced tt)
completed_silently d =
    record { passed = []; output_events = []; comes = λ more. refl; kept = kept_none d.kept; sound = same_here d }

-- output of a line that was printed is a stage that completed
pub completed_output : (old new : DeskState) (line : List ℕ) → ChangesRecord (after_events (PrintsLine line ∷ [])) old
    new → HasSameCounts old new → StageCompleted (output_stage (PrintsLine line ∷ [])) old new (Produced tt)
completed_output old new line kept same =
    record { passed = []; output_events = PrintsLine line ∷ []; comes = λ more. refl; kept = kept; sound = same }

-- output of a line that was printed in part is a stage that broke off
pub runs_output_in_part : (taking : AllocationPoints) (old new : DeskState) (line : List ℕ) (fault : DeskFault)
    → SendsPart Messages old new line → fault ≡ Failed → CountsFailure {T = Unit {0}} Messages old new (Err fault)
    → RunsStage taking (output_stage (PrintsLine line ∷ [])) old new (Err 1)
runs_output_in_part taking old new line fault part is counts = (
  refl,
  inr (broke_here taking (output_stage (PrintsLine line ∷ [])) old new (LineNotPrinted line) (take part.0 line) tt
      (λ more. ([], refl))
      ((drop part.0 line, take-append-drop part.0 line), search rules) part.2 counts.0),
)
