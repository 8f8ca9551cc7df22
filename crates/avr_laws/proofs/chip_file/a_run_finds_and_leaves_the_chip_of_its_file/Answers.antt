use Rattle.avr_laws.proofs.ChipFile.Found.{chip_found}
use Rattle.avr_laws.proofs.ChipFile.Left.{chip_left}
use Rattle.avr_laws.proofs.chip_file.a_run_finds_and_leaves_the_chip_of_its_file.Goals as goal

pub returns-clause-finds : goal.returns-clause-finds
returns-clause-finds c = chip_found

pub returns-clause-leaves : goal.returns-clause-leaves
returns-clause-leaves c = chip_left
