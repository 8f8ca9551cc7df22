use Rattle.std.proofs.Common.{subst, arith}
use Rattle.avr_part.specs.Sound.{IsSoundChip}
use Rattle.avr_part.proofs.Blocks.{block_loaded}
use Rattle.avr_part.proofs.chip.Chip.load_block.Goals as goal

pub returns-then-is_in_page : goal.returns-then-is_in_page
returns-then-is_in_page c =
    let sound = subst IsSoundChip c.self.view_is c.self.invariant in
    let loaded = block_loaded c.args.word c.buffer_place-place.result c.args.bytes.now c.args.self.now sound in
    grind (arith, loaded, c.paste.ensures.bytes, c.self.view_is)
