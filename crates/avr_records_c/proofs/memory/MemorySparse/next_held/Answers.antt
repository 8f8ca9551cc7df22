use Rattle.std.proofs.Common.{◌∙◌, sym, arith, ℕ, List}
use Rattle.avr_image.proofs.Lemmas.{next_held}
use Rattle.avr_records_c.specs.Bitmap.{image_of}
use Rattle.avr_records_c.proofs.Walks.{length_image}
use Rattle.avr_records_c.proofs.memory.MemorySparse.next_held.Goals as goal

pub overflow_cast-result : goal.overflow_cast-result
overflow_cast-result c =
    let present : List ℕ = c.self.inside.present.now in
    let bytes : List ℕ = c.self.inside.bytes.now in
    let found = next_held (image_of present bytes) c.args.addr c.in-Some.place
    (sym c.next_there.ensures.next ∙ c.in-Some.is) in
    omega (arith, found.within, length_image 0 present bytes, c.self.invariant.below)
