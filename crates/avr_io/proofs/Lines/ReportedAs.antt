-- Lines that were reported, completely or in part.
use Rattle.std.proofs.lemmas.Bool.Decides.{nat_tests}
use Rattle.std.proofs.Common.{◌≡◌, ℕ, arith, List, refl, ◌∙◌, Result, Ok, Err, IfErr, rules}
use Rattle.std.proofs.lemmas.List.{take-append-drop}
use Rattle.avr_io.specs.Fault.{CountsFailure, CountsNeverFall, HasFailedAt, HasFailedToReport, HasSameCounts}
use Rattle.avr_io.specs.Record.{DeskState}
use Rattle.avr_io.specs.declared.desk.DeskFault.{DeskFault}
use Rattle.avr_io.specs.declared.desk.DeskFault.TheVariants.{NotFound, Failed}
use Rattle.avr_io.specs.declared.stream.Stream.{Stream}
use Rattle.avr_io.specs.declared.stream.Stream.TheVariants.{File, Messages}
use Rattle.avr_io.specs.OutputEvents.{IsPrinted, ReportsLine, ReportsFailureAs}

-- counts don't fall from a state to itself
pub follows_here : (a : DeskState) → CountsNeverFall a a
follows_here a = (omega arith, omega arith)

-- nor over two steps in which they don't fall
pub follows_on : (a b c : DeskState) → CountsNeverFall a b → CountsNeverFall b c → CountsNeverFall a c
follows_on a b c first then = (omega (arith, first.0, then.0), omega (arith, first.1, then.1))

-- no failure was counted at an unchanged desk, nor in two stretches without one
pub same_here : (a : DeskState) → HasSameCounts a a
same_here a = (refl, refl)

pub same_on : (a b c : DeskState) → HasSameCounts a b → HasSameCounts b c → HasSameCounts a c
same_on a b c first then = (then.0 ∙ first.0, then.1 ∙ first.1)

-- equal counts don't fall
pub follows_same : (a b : DeskState) → HasSameCounts a b → CountsNeverFall a b
follows_same a b same = (omega (arith, same.0), omega (arith, same.1))

-- a failure to report is counted as well from an earlier state with the same counts
pub message_failures_since : (a b c : DeskState) → HasSameCounts a b → HasFailedToReport b c → HasFailedToReport a c
message_failures_since a b c same failed = grind (arith, nat_tests)

-- a failed call is counted
pub failed_by : (stream : Stream) (old new : DeskState) (result : Result (Unit {0}) DeskFault) (fault : DeskFault)
    → result ≡ Err fault → IfErr result (λ e. e ≡ Failed)
    → CountsFailure stream old new result → HasFailedAt stream old new
failed_by stream old new result fault is only counts = search rules

-- a line that was printed, or a prefix of it
pub reports_printed_line : (old new : DeskState) (line : List ℕ) (printed : Result (Unit {0}) DeskFault)
    → IsPrinted old new line printed
    → CountsFailure Messages old new printed → IfErr printed (λ e. e ≡ Failed) → ReportsLine old new line
reports_printed_line old new line (Ok done) is counts only = grind (arith, nat_tests)
reports_printed_line old new line (Err NotFound) is counts only = cc
reports_printed_line old new line (Err Failed) is counts only = grind (arith, nat_tests, take-append-drop is.0 line)

-- The desk failed, and the line about it was reported after that.
pub failure_reported : (old mid new : DeskState) (line : List ℕ) → CountsNeverFall old mid → HasFailedAt File old mid
    → (notice : ReportsLine mid new line) → ReportsFailureAs line notice.notice old new
failure_reported old mid new line rose failed notice = grind (arith, nat_tests)
