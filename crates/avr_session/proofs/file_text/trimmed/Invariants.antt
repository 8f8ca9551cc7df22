use Rattle.std.proofs.Common.{◌≡◌, ◌≤◌, take, length}
use Rattle.avr_session.specs.FileText.{used_length}
use Rattle.avr_session.proofs.file_text.trimmed.Given as goal

abbrev pub invariant-blanks : goal.invariant-blanks
invariant-blanks l = record {
  same : used_length (take l.used l.bytes) ≡ used_length l.bytes;
  within : l.used ≤ length l.bytes;
}

abbrev pub decreases-blanks : goal.decreases-blanks
decreases-blanks l = l.used
