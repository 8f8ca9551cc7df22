use Rattle.std.proofs.Common.{arith, ◌≡◌, ◌*◌, ◌/◌, length, take}
use Rattle.std.proofs.lemmas.Bool.Decides.{nat_tests}
use Rattle.std.proofs.lemmas.List.{length-take-le}
use Rattle.avr_records.proofs.Texts.Digits.{decoded_ok, decoded_err}
use Rattle.avr_records.proofs.bytes.decode_digits.Goals as goal

pub returns-in-Ok : goal.returns-in-Ok
returns-in-Ok c =
    let even : length c.args.digits.now ≡ 2 * length (take (length c.args.digits.now / 2) c.args.room.now) =
    grind (arith, nat_tests, length-take-le) in
    decoded_ok _ _ _ _ even c.decode_to_slice.ensures.value c.in-Ok.is

pub returns-in-Err : goal.returns-in-Err
returns-in-Err c =
    let even : length c.args.digits.now ≡ 2 * length (take (length c.args.digits.now / 2) c.args.room.now) =
    grind (arith, nat_tests, length-take-le) in
    decoded_err _ _ _ _ _ even c.decode_to_slice.ensures.value c.in-Err.is
