use Rattle.std.proofs.Common.{◌≡◌, ◌++◌, ◌+◌, length, cond}
use Rattle.avr_image.specs.Lists.{list_rest}
use Rattle.avr_image.proofs.list.ListWriterPieces.next_piece.Given as goal

abbrev pub decreases-loop-self : goal.decreases-loop-self
decreases-loop-self l = cond l.self-inside.ended 0 (length l.self-inside.rest.now + 1)

abbrev pub invariant-loop-self : goal.invariant-loop-self
invariant-loop-self l =
    list_rest l.initial.self-inside.ended l.initial.self-inside.base l.initial.self-inside.rest.now
    ≡ l.out.items ++ list_rest l.self-inside.ended l.self-inside.base l.self-inside.rest.now
