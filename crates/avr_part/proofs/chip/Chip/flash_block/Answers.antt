use Rattle.std.proofs.Common.{arith}
use Rattle.avr_part.proofs.Blocks.{block_read}
use Rattle.avr_part.proofs.chip.Chip.flash_block.Goals as goal

pub returns-then-is_in_flash : goal.returns-then-is_in_flash
returns-then-is_in_flash c = grind (arith, block_read)
