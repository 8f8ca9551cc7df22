use Rattle.avr_laws.proofs.ChipFile.Promised.{promised}
use Rattle.avr_laws.proofs.chip_file.the_chip_file_holds_the_images.Goals as goal

pub returns : goal.returns
returns c = promised
