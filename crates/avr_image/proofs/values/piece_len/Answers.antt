use Rattle.std.proofs.Common.{◌≡◌, sym, arith, length}
use Rattle.std.proofs.lemmas.List.Sums.{position_or_len_is}
use Rattle.avr_image.specs.Values.{is_separator}
use Rattle.avr_image.proofs.values.piece_len.Goals as goal

pub returns-clause-counted : goal.returns-clause-counted
returns-clause-counted c =
    let whole : c.loop-i.i ≡ length c.args.text.now = omega (arith, c.loop-i-test.false, c.loop-i.auto.i-end) in
    sym (position_or_len_is is_separator c.args.text.now (length c.args.text.now) 0 (omega arith)
    (λ k l. c.loop-i.invariant k (omega (arith, l, whole)))
    (λ l. absurd (omega (arith, l))))
