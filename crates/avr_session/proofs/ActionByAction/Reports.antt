-- Reports, one after another.
use Rattle.std.proofs.lemmas.Grind.{common_steps}
use Rattle.std.proofs.Common.{◌≡◌, ◌≤◌, ℕ, arith, List, [], ◌∷◌, ◌++◌, Result, Ok, Err, refl, sym, IfErr, nat_lt, false, rules}
use Rattle.std.proofs.lemmas.Bool.Decides.{nat_tests}
use Rattle.avr_io.specs.Record.{DeskState, ChangesRecord, after_err}
use Rattle.avr_io.specs.Fault.{CountsFailure, CountsNeverFall, HasFailedAt, HasFailedToReport, HasSameCounts}
use Rattle.avr_io.specs.declared.desk.Desk.{Ghosts}
use Rattle.avr_io.specs.declared.desk.DeskFault.{DeskFault}
use Rattle.avr_io.specs.declared.desk.DeskFault.TheVariants.{Failed}
use Rattle.avr_io.specs.declared.stream.Stream.TheVariants.{File, Messages}
use Rattle.stk_host.specs.Dialog.{outputs}
use Rattle.avr_io.specs.OutputEvents.{OutputEvent, PrintsLine, IsBytePrefixOf, IsPrinted, ReportsLine, after_events}
use Rattle.avr_io.proofs.Stages.Outputs.{kept_append}
use Rattle.avr_io.proofs.Lines.ReportedAs.{follows_on, same_on, message_failures_since}
use Rattle.avr_session.specs.Runs.{cause_line, Cause, FileFailed, PrintingFailed, FileTrouble}
use Rattle.avr_session.specs.Reporting.{OutputsPrefix, OutputsPrefixAndReports, OutputsOrStops, Reports, Outputs, PrintStops, Prints, DeskStops}
use Rattle.avr_session.specs.Saving.{SaveStops}
use Rattle.avr_session.proofs.Runs.Stops.{outputs_by, line_part, prefix_behind, prefix_of}

-- A failed write to the messages stops output and is not reported.
emitted_until : (old new : DeskState) (outputs : List OutputEvent) → OutputsPrefix PrintingFailed old new outputs
    → HasFailedToReport old new → OutputsPrefixAndReports PrintStops old new outputs
emitted_until old new outputs prefix failed = search rules

-- A line that was printed, or of which a failed desk printed a prefix, is a report.
pub reports_line : (old new : DeskState) (bytes : List ℕ) (printed : Result (Unit {0}) DeskFault)
    → IsPrinted old new bytes printed → CountsFailure Messages old new printed → IfErr printed (λ e. e ≡ Failed)
    → Reports PrintStops old new (PrintsLine bytes ∷ []) printed
reports_line old new bytes printed is counts only = search (rules, emitted_until, line_part)

-- If output was done and then more, or a cause stopped that, both were done in order, or this cause stopped both.
emitted_then : (By : DeskState → DeskState → Cause → List ℕ
    → Type 0) (old mid new : DeskState) (first more : List OutputEvent) (result : Result (Unit {0}) DeskFault)
    → ((cause : Cause) (notice : List ℕ) → PrintStops mid new cause notice → By old new cause notice)
    → ChangesRecord (after_events first) old mid × HasSameCounts old mid → OutputsOrStops PrintStops mid new more result
    → OutputsOrStops By old new (first ++ more) result
emitted_then By old mid new first more (Ok done) why was then = search (rules, kept_append, same_on)
emitted_then By old mid new first more (Err _) why was then = search (rules, prefix_behind)

module _ {D : Type 0} (desk : Ghosts D) (first more : List OutputEvent) where
  -- Lines that were printed after lines without a fault are lines printed in order.
  pub reports_then : {old mid new : D} {done : Unit {0}} (result : Result (Unit {0}) DeskFault)
      → Prints desk first old mid (Ok done) → Prints desk more mid new result
      → Prints desk (first ++ more) old new result
  reports_then {old = old} {mid = mid} {new = new} result was then = search (rules, emitted_then, follows_on)

  -- Lines that were printed after bytes were saved are output in order.
  pub saves_then : {old mid new : D} (file : List ℕ) {done : Unit {0}} (result : Result (Unit {0}) DeskFault)
      → Outputs desk (SaveStops file) first old mid (Ok done) → Prints desk more mid new result
      → Outputs desk DeskStops (first ++ more) old new result
  saves_then {old = old} {mid = mid} {new = new} file result was then =
      search (rules, emitted_then, message_failures_since, follows_on)

  -- If a cause stopped the first output, it stopped both.
  pub reports_until : (By Then : DeskState → DeskState → Cause → List ℕ → Type 0) {old new : D} (fault : DeskFault)
      → ((cause : Cause) (notice : List ℕ) → By (desk.view old) (desk.view new) cause notice
      → Then (desk.view old) (desk.view new) cause notice)
      → Outputs desk By first old new (Err fault) → Outputs desk Then (first ++ more) old new (Err fault)
  reports_until By Then fault why was =
      let reports = was.reports in
      record { reports = grind (arith, common_steps, prefix_of); stays = was.stays }

  -- Lines that a failed desk stopped are a prefix of more lines.
  pub prints_until : {old new : D} (fault : DeskFault) → Prints desk first old new (Err fault)
      → Prints desk (first ++ more) old new (Err fault)
  prints_until fault was = reports_until PrintStops PrintStops fault (λ cause notice stops. stops) was

-- If one line is events and then a line, there were none before it, and the two lines are the same.
one_only : (l x : List ℕ) (whole more : List OutputEvent) → PrintsLine l ∷ [] ≡ whole ++ (PrintsLine x ∷ more)
    → (whole ≡ []) × (x ≡ l)
one_only l x [] more is = let e : PrintsLine l ≡ PrintsLine x = cc in let same : l ≡ x = cc in (refl, sym same)
one_only l x (s ∷ []) more is = let e : [] ≡ PrintsLine x ∷ more = cc in absurd (cc)
one_only l x (s ∷ t ∷ whole) more is = let e : [] ≡ t ∷ (whole ++ (PrintsLine x ∷ more)) = cc in absurd (cc)

-- If a failed desk stopped the only line, a prefix of it was printed.
one_line : {d e : DeskState} (l : List ℕ) → OutputsPrefix PrintingFailed d e (PrintsLine l ∷ [])
    → (prefix : List ℕ) × IsBytePrefixOf prefix l × ChangesRecord (after_err prefix) d e
one_line {d = d} {e = e} l prefix =
    let p = prefix.place in
    let begun : prefix.begun ≡ PrintsLine p.done ∷ [] = outputs_by prefix.begun _ p.part in
    let later : prefix.later ≡ PrintsLine p.bytes ∷ outputs p.more = outputs_by prefix.later _ p.due in
    search (rules, one_only)

-- A line that a failed desk stopped was reported as far as the desk took it.
reported_line : (cause : Cause) (notice l : List ℕ) (old new between : DeskState) → CountsNeverFall old new
    → OutputsPrefix cause old between (PrintsLine l ∷ []) → PrintStops old new cause notice
    → ChangesRecord (after_err notice) between new → ReportsLine old new l
reported_line PrintingFailed notice l old new between follows prefix stops kept = search (rules, one_line l prefix)
reported_line cause notice l old new between follows prefix stops kept = absurd stops

-- A line that was printed, or stopped, was reported as far as the desk took it.
pub reported_some : (old new : DeskState) (l : List ℕ) (result : Result (Unit {0}) DeskFault)
    → Reports PrintStops old new (PrintsLine l ∷ []) result → ReportsLine old new l
reported_some old new l (Ok done) reports = search rules
reported_some old new l (Err _) reports = search (rules, reported_line)

-- A failure at a file, which was reported, stops output after the events so far.
pub file_stops : (By : DeskState → DeskState → Cause → List ℕ → Type 0) (old mid new : DeskState)
    (outputs : List OutputEvent) (file : List ℕ) (trouble : FileTrouble)
    → OutputsPrefix (FileFailed file trouble) old mid outputs → HasFailedAt File old mid → CountsNeverFall old mid
    → ((notice : List ℕ) → DeskStops old new (FileFailed file trouble) notice
    → By old new (FileFailed file trouble) notice)
    → ReportsLine mid new (cause_line (FileFailed file trouble)) → OutputsPrefixAndReports By old new outputs
file_stops By old mid new outputs file trouble prefix failed first why some = search rules

-- A test for less fails if the other number is not greater.
pub not_lt : (a b : ℕ) → b ≤ a → nat_lt a b ≡ false
not_lt a b le = grind (arith, nat_tests)

-- the lemmas for a line that is printed or not
pub ruleset lines_printed = (nat_tests, not_lt, reports_line)
