use Rattle.std.proofs.Common.{◌≡◌, ◌++◌, map, take, drop}
use Rattle.std.specs.Char.{to_ascii_uppercase}
use Rattle.avr_records.proofs.written_line.uppercase.Given as goal

abbrev pub invariant-loop-digit : goal.invariant-loop-digit
invariant-loop-digit l =
    l.digits ≡ map to_ascii_uppercase (take l.digit-index l.initial.digits) ++ drop l.digit-index l.initial.digits
