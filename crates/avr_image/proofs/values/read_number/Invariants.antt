use Rattle.std.proofs.Common.{◌≡◌, ◌≤◌, min, drop}
use Rattle.std.specs.List.{list_all}
use Rattle.std.specs.Str.Parse.{digits_value_after, digits_value}
use Rattle.avr_image.specs.Values.{is_digit_of}
use Rattle.avr_image.proofs.values.read_number.Given as goal

abbrev pub invariant-loop-c : goal.invariant-loop-c
invariant-loop-c l = record {
  small : l.value ≤ 256;
  digits : list_all (is_digit_of l.base) (drop l.c-index l.digits) ≡ list_all (is_digit_of l.base) l.digits;
  value : min (digits_value_after l.base l.value (drop l.c-index l.digits)) 256
      ≡ min (digits_value l.base l.digits) 256;
}
