-- Worked calls with an outcome that the contracts refuse.
use Rattle.std.proofs.lemmas.Bool.Decides.{nat_tests}
use Rattle.std.proofs.Common.{◌≡◌, ap, ℕ, zero, suc, true, List, [], ◌∷◌, Some, Result, Ok, Err, arith, rules}
use Rattle.avr_desk.specs.Failing.{Failing, FailsWhenDue}
use Rattle.avr_io.specs.Fault.{CountsFailure}
use Rattle.avr_io.specs.Files.{CountsReadResult}
use Rattle.avr_desk.specs.Memory.{Stock}
use Rattle.avr_io.specs.Record.{Bytes, DeskState, Record, showing, nothing_kept, after_out}
use Rattle.avr_io.specs.OutputEvents.{ReportsLineAs}
use Rattle.avr_desk.specs.Shown.{RecordsTaken}
use Rattle.avr_io.specs.Stream.{SendsTaken}
use Rattle.avr_desk.specs.Truth.{OpeningsAreTrue, IsTrueOpening}
use Rattle.avr_io.specs.declared.desk.DeskFault.{DeskFault}
use Rattle.avr_io.specs.declared.desk.DeskFault.TheVariants.{NotFound, Failed}
use Rattle.avr_io.specs.declared.files.FileFault.TheVariants.{Memory}
use Rattle.avr_io.specs.declared.record.FileUse.TheVariants.{Opened, Created}
use Rattle.avr_io.specs.declared.record.Opening.{Opening}
use Rattle.avr_io.specs.declared.record.Opening.TheVariants.{Absent, Found}
use Rattle.avr_io.specs.declared.record.Writing.{Writing}
use Rattle.avr_io.specs.declared.stream.Stream.{Stream}
use Rattle.avr_io.specs.declared.stream.Stream.TheVariants.{File, Output, Messages}

-- a desk with an empty record that has failed this often, never at the messages
abbrev silent : ℕ → DeskState
silent failures = showing nothing_kept failures 0

-- such a desk that had not failed has this state and this result now
abbrev Counts : Stream → DeskState → Result (Unit {0}) DeskFault → Type 0
Counts stream new result = CountsFailure stream (silent 0) new result

-- a failure that is counted after a success, after a file that isn't there, after a byte that was taken, or after a
-- failed allocation
pub no_count_behind_success : Counts File (silent 1) (Ok tt) → ⊥
no_count_behind_success counts = let e : 1 ≡ 0 = counts.1.0 in omega (arith, e)

-- after a file that isn't there
pub no_count_behind_absence : Counts File (silent 1) (Err NotFound) → ⊥
no_count_behind_absence counts = let e : 1 ≡ 0 = counts.1.0 in omega (arith, e)

-- after a failed allocation
pub no_count_behind_memory : CountsReadResult (silent 0) (silent 1) (Err Memory) → ⊥
no_count_behind_memory counts = let e : 1 ≡ 0 = counts.1.0 in omega (arith, e)

-- a failure that is not counted
pub no_silent_failure : Counts File (silent 0) (Err Failed) → ⊥
no_silent_failure counts = let e : 0 ≡ 1 = counts.1.0 in omega (arith, e)

-- one failure that is counted twice
pub no_failure_twice : Counts File (silent 2) (Err Failed) → ⊥
no_failure_twice counts = let e : 2 ≡ 1 = counts.1.0 in omega (arith, e)

-- a failure at the messages that only one count shows; one at a file, or at the output, that both show; and an
-- unreported failure after a success
pub no_message_failure_uncounted : Counts Messages (silent 1) (Err Failed) → ⊥
no_message_failure_uncounted counts = let e : 0 ≡ 1 = counts.1.1 in omega (arith, e)

-- a failure at a file that both counts show
pub no_file_is_a_message_failure : Counts File (showing nothing_kept 1 1) (Err Failed) → ⊥
no_file_is_a_message_failure counts = let e : 1 ≡ 0 = counts.1.1 in omega (arith, e)

-- a failure at the output that both counts show
pub no_output_is_a_message_failure : Counts Output (showing nothing_kept 1 1) (Err Failed) → ⊥
no_output_is_a_message_failure counts = let e : 1 ≡ 0 = counts.1.1 in omega (arith, e)

-- an unreported failure after a success
pub no_message_failure_behind_success : Counts Messages (showing nothing_kept 0 1) (Ok tt) → ⊥
no_message_failure_behind_success counts = let e : 1 ≡ 0 = counts.1.1 in omega (arith, e)

-- before a fault a prefix of the bytes may have been written, but not their end
abbrev end : List ℕ
end = 2 ∷ []

-- both bytes
abbrev whole : List ℕ
whole = 1 ∷ 2 ∷ []

pub no_end_before_a_fault : SendsTaken Output whole (showing nothing_kept 0 0)
    (showing (after_out end nothing_kept) 1 0) (Err Failed) → ⊥
no_end_before_a_fault sent = search rules

-- a line cut short though only a file failed
pub no_line_cut_by_a_file : ReportsLineAs whole [] (silent 0) (silent 1) → ⊥
no_line_cut_by_a_file reported = search rules

-- a message in the output
abbrev byte : List ℕ
byte = 1 ∷ []

-- a message whose byte is in the output
pub no_message_in_the_output : SendsTaken Messages byte (showing nothing_kept 0 0)
    (showing (after_out byte nothing_kept) 0 0) (Ok 1) → ⊥
no_message_in_the_output sent = let e : byte ≡ [] = ap (λ (r : Record). r.output) sent in absurd (cc)

-- a writer that took other bytes than the record has
pub no_other_bytes : (n : ℕ) → RecordsTaken Messages whole (Some []) (Some end) nothing_kept nothing_kept n → ⊥
no_other_bytes zero taken = search (rules, nat_tests)
no_other_bytes (suc n) taken = search (rules, nat_tests)

-- a planned failure at a call that isn't due
abbrev sound : Failing ℕ
sound = record { inner = 0; due = 0; planned = 0; message_failures = 0 }

-- a planned failure after a success
pub no_plan_behind_success : FailsWhenDue {T = ℕ} File silent sound (record sound { planned = 1 })
    (λ old new result. Unit {0}) (Ok 0) → ⊥
no_plan_behind_success fails = let e : 1 ≡ 0 = fails.planned in omega (arith, e)

-- and one at a file that is due, and is counted as unreported
abbrev failing : Failing ℕ
failing = record { inner = 0; due = 1; planned = 0; message_failures = 0 }

-- the desk after a planned failure that it counted as one at the messages
abbrev not_reported : Failing ℕ
not_reported = record { inner = 0; due = 0; planned = 1; message_failures = 1 }

-- a planned failure at a file that is counted at the messages
pub no_file_is_a_planned_message_failure : FailsWhenDue {T = ℕ} File silent failing not_reported (λ a b r. Unit {0})
    (Err Failed) → ⊥
no_file_is_a_planned_message_failure fails = let e : 1 ≡ 0 = fails.message_failures in omega (arith, e)

-- ---- openings of a desk in memory that no file gives

-- the name `a`
abbrev name : Bytes
name = 97 ∷ []

-- a file of one byte
abbrev file : Writing
file = record { name = name; bytes = byte }

-- no input and no files
abbrev nothing_there : Stock
nothing_there = record { input = []; files = [] }

-- this file alone
abbrev one_there : Stock
one_there = record { input = []; files = file ∷ [] }

-- the file was found with these bytes, up to its end
abbrev found_as : Bytes → Opening
found_as bytes = Found (record { name = name; bytes = bytes; ended = true })

-- bytes that the file doesn't have, and an existing file that isn't found
pub no_other_contents : OpeningsAreTrue one_there [] (Opened (found_as end) ∷ []) → ⊥
no_other_contents are = grind (arith, nat_tests)

-- an existing file that isn't found
pub no_file_overlooked : OpeningsAreTrue one_there [] (Opened (Absent name) ∷ []) → ⊥
no_file_overlooked are = grind (arith, nat_tests)

-- a file whose end was seen too early
pub no_end_before_the_end : IsTrueOpening one_there [] (Found (record { name = name; bytes = []; ended = true })) → ⊥
no_end_before_the_end gave = grind (arith, nat_tests)

-- a file that was found before it was made, and one that was made before but not found, or found with older bytes
pub no_file_before_it_is_made : OpeningsAreTrue nothing_there [] (Opened (found_as byte) ∷ Created file ∷ []) → ⊥
no_file_before_it_is_made are = grind (arith, nat_tests)

-- a file that was made before, but not found
pub no_made_file_overlooked : OpeningsAreTrue nothing_there [] (Created file ∷ Opened (Absent name) ∷ []) → ⊥
no_made_file_overlooked are = grind (arith, nat_tests)

-- a file that was found with older bytes than it was made with
pub no_older_contents : OpeningsAreTrue one_there []
    (Created (record { name = name; bytes = end }) ∷ Opened (found_as byte) ∷ []) → ⊥
no_older_contents are = grind (arith, nat_tests)
