use Rattle.std.proofs.Common.{◌≡◌, ◌∙◌, ap, arith, length, refl, false, min, ℕ}
use Rattle.avr_image.proofs.Fields.Masks.{same_place}
use Rattle.avr_image.proofs.Fields.Shown.{run_is}
use Rattle.avr_image.proofs.image.Image.run_from.Goals as goal

pub returns : goal.returns
returns c =
    let words = c.self.inside.words.items in
    let bytes = c.self.inside.bytes.items in
    let size : c.len-size.result ≡ length bytes = omega (arith, c.len-size.ensures) in
    let end : c.min.result ≡ min (length bytes) c.args.end = c.min.ensures ∙ ap (λ (n : ℕ). min n c.args.end) size in
    run_is words bytes c.args.addr c.args.end c.first_place.result c.self.view_is
    (same_place _ words false _ c.args.addr _ _ _ c.first_place.result c.as_slice.ensures.value refl end refl
    c.first_place.ensures)
    (omega (arith, c.if-addr-size.false, size))
