use Rattle.std.proofs.Common.{arith, length}
use Rattle.avr_part.proofs.Blocks.{page_within}
use Rattle.avr_part.proofs.chip.Chip.write_eeprom_page.Goals as goal

pub overlay_page-requires : goal.overlay_page-requires
overlay_page-requires c =
    grind (arith, page_within c.eeprom_address.result c.eeprom_page-page.result (length c.self.inside.eeprom))
