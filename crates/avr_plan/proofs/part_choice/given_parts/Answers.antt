use Rattle.std.proofs.Common.{refl, Ok, [], false, rules}
use Rattle.avr_io.specs.StageRuns.{OnlyAtStart}
use Rattle.avr_plan.specs.declared.part_choice.TheConstants.{LARGEST_PART_FILE}
use Rattle.avr_plan.proofs.Stages.Parts.{part_file_read, bad_parts_refused, long_parts_refused}
use Rattle.avr_io.proofs.Stages.Files.{runs_file_fault}
use Rattle.avr_io.proofs.Stages.Openings.{breaks_as}
use Rattle.avr_io.proofs.Stages.Played.{completed_good_result}
use Rattle.avr_plan.specs.Planning.{checked_parts}
use Rattle.avr_plan.proofs.part_choice.given_parts.Goals as goal

pub returns-in_default-clause-goes : goal.returns-in_default-clause-goes
returns-in_default-clause-goes g c = rw (c.in_default.is, c.none.ensures) (completed_good_result (Ok []) [] _ refl)

pub returns-in-Err-clause-goes : goal.returns-in-Err-clause-goes
returns-in-Err-clause-goes g c =
    rw (c.in-Some.is, ← c.as_str-file.ensures) (runs_file_fault (OnlyAtStart false) _ LARGEST_PART_FILE
    (checked_parts _) _ _ _ _ _ (breaks_as _ _ _ _ c.in-Err.ensures.kept) c.in-Err.ensures.counts.0
    c.in-Err.ensures.counts.1 refl (rw c.file_message.ensures at c.refuse.ensures.notice))

pub returns-then-not-contents-clause-goes : goal.returns-then-not-contents-clause-goes
returns-then-not-contents-clause-goes g c =
    rw (c.in-Some.is, ← c.as_str-file.ensures) (long_parts_refused _ _ _ _ _ _ _ c.in-Ok.ensures.kept
    c.in-Ok.ensures.whole c.if-not-contents.true c.in-Ok.ensures.counts.1 refl
    (rw c.too_long_message.ensures at c.refuse-then-not-contents.ensures.notice))

pub returns-in-Ok-parse_part_file-clause-goes : goal.returns-in-Ok-parse_part_file-clause-goes
returns-in-Ok-parse_part_file-clause-goes g c =
    let gives = rw (c.as_slice.ensures, c.in-Ok-parse_part_file.is) at c.parse_part_file.ensures.reads in
    rw (c.in-Some.is, ← c.as_str-file.ensures)
    (search (rules, part_file_read, c.in-Ok.ensures.kept, c.in-Ok.ensures.whole, c.in-Ok.ensures.counts))

pub returns-clause-goes : goal.returns-clause-goes
returns-clause-goes g c =
    let gives = rw (c.as_slice.ensures, c.in-Err-parse_part_file.is) at c.parse_part_file.ensures.reads in
    let notice = rw (c.part_file_message.ensures, c.fault-fault.ensures)
    at c.refuse-in-Err-parse_part_file.ensures.notice in
    rw (c.in-Some.is, ← c.as_str-file.ensures) (bad_parts_refused _ _ _ _ _ _ 1 _ c.in-Ok.ensures.kept
    c.in-Ok.ensures.whole c.if-not-contents.false c.in-Ok.ensures.counts.1 gives refl notice)

pub returns-then-not-contents-clause-notice : goal.returns-then-not-contents-clause-notice
returns-then-not-contents-clause-notice g c =
    let notice = rw (c.too_long_message.ensures, c.as_str-file.ensures) at c.refuse-then-not-contents.ensures.notice in
    rw c.in-Some.is (search rules)
