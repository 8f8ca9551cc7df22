use Rattle.std.proofs.Common.{◌<◌, ◌+◌, ◌≤◌, arith, length, rules}
use Rattle.std.proofs.lemmas.Bool.Decides.{nat_tests}
use Rattle.avr_image.proofs.Places.Laid.{kept_pasted}
use Rattle.avr_image.proofs.image.Image.put_slice.Goals as goal

pub invariant_of-self : goal.invariant_of-self
invariant_of-self c =
    let words = c.self.inside.words.items in
    let bytes = c.self.inside.bytes.items in
    let some : 0 < length c.args.bytes.now = grind (arith, nat_tests, c.is_empty.ensures, c.if-is_empty.false) in
    let room : c.args.addr + length c.args.bytes.now ≤ length bytes = search rules in
    rw c.paste.ensures
    (kept_pasted words c.mark_span.new.words.items bytes c.args.bytes.now c.args.addr room c.mark_span.ensures.marked
    c.mark_span.ensures.len
    (λ i. omega (arith, c.type_inv.bytes i)) c.self.invariant)
