use Rattle.std.proofs.Common.{arith}
use Rattle.std.proofs.lemmas.List.{length-replicate, get_or-replicate}
use Rattle.avr_image.proofs.Fields.Shown.{shown_from_zeros, small_blank}
use Rattle.avr_image.proofs.image.Image.new.Goals as goal

pub invariant_of-result : goal.invariant_of-result
invariant_of-result c = grind (arith, length-replicate, small_blank, get_or-replicate)

pub returns : goal.returns
returns c =
    rw (c.in-Ok.ensures.items_if_clones_equal (λ y e. e), c.in-Ok-vec.ensures.items_if_clones_equal (λ y e. e))
    (shown_from_zeros 0 _ _ _)
