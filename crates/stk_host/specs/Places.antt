-- Steps at each place of a memory, and the addresses that are loaded for them.
use Rattle.std.specs.Prelude.{ℕ, zero, suc, ◌+◌, ◌/◌, List, [], ◌++◌, nat_lt, if◌then◌else◌}
use Rattle.avr_part.specs.Part.{Part}
use Rattle.stk_frame.specs.declared.protocol.TheConstants.{EXTENDED_ADDRESS}
use Rattle.stk_frame.specs.declared.command.Command.{Command}
use Rattle.stk_frame.specs.declared.command.Command.TheVariants.{LoadAddress}
use Rattle.stk_host.specs.declared.writing.TheConstants.{NARROW_FLASH}

-- The steps at `count` places, from this one on.
abbrev pub each_from : (ℕ → List (List Command)) → ℕ → ℕ → List (List Command)
each_from steps_at place zero = []
each_from steps_at place (suc count) = steps_at place ++ each_from steps_at (place + 1) count

-- The address of a byte of flash counts words. Flash of more than 131,072 bytes needs the extended address.
abbrev pub flash_address : Part → ℕ → ℕ
flash_address part start = if nat_lt NARROW_FLASH part.flash_size then start / 2 + EXTENDED_ADDRESS else start / 2

-- Loads the address of a byte of flash; below, of EEPROM.
abbrev pub load_flash : Part → ℕ → Command
load_flash part start = LoadAddress (flash_address part start)

abbrev pub load_eeprom : ℕ → Command
load_eeprom start = LoadAddress start
