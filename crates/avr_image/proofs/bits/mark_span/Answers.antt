use Rattle.std.proofs.Common.{◌≡◌, ◌∙◌, ap, arith, ◌||◌, ◌<◌, ◌/◌, ℕ, get_or, length, bit_and, bit_or, Bool, set, ◌*◌, ◌-◌, ◌%◌, ◌^◌}
use Rattle.std.proofs.lemmas.List.{length-set}
use Rattle.avr_image.specs.Present.{is_present, is_within}
use Rattle.avr_image.proofs.Fields.Masks.{ones_are, span_word, spans_join}
use Rattle.avr_image.proofs.Fields.Shown.{same_default}
use Rattle.avr_image.proofs.bits.mark_span.Goals as goal

pub loop-at-preserved : goal.loop-at-preserved
loop-at-preserved c =
    let kept = c.loop-at.invariant in
    let items = c.loop-at.words.items in
    let at = c.loop-at.at in
    let stop = c.min-stop.result in
    let ones = bit_and ((2 ^ 64 - 1) * 2 ^ (at % 64) % 2 ^ 64) ((2 ^ 64 - 1) / 2 ^ (64 - (stop - at / 64 * 64))) in
    let inside : at / 64 < length items = omega (arith, kept.len, c.requires.within.1, c.loop-at-test.true) in
    let word : c.index_mut.result.now ≡ get_or items (at / 64) 0 =
    c.index_mut.ensures.value ∙ same_default items (at / 64) _ 0 inside in
    record {
      after = omega (arith, kept.after, c.min-stop.ensures, c.loop-at-test.true);
      within = omega (arith, c.min-stop.ensures);
      len = length-set items (at / 64) _ ∙ kept.len;
      marked = λ k.
          ap (λ (w : ℕ). is_present (set items (at / 64) (bit_or w ones)) k) word
          ∙ span_word items at stop ones k
          (omega (arith, c.min-stop.ensures, c.loop-at-test.true)) (omega (arith, c.min-stop.ensures)) inside
          (λ i l. ones_are (at % 64) (stop - at / 64 * 64) i (omega arith) (omega (arith, c.min-stop.ensures)) l)
          ∙ ap (λ (b : Bool). is_within at stop k || b) (kept.marked k)
          ∙ spans_join c.args.from at stop k _ kept.after (omega (arith, c.min-stop.ensures, c.loop-at-test.true));
    }
