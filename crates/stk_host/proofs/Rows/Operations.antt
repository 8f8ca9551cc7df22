-- Worked steps, at the level of the definitions. Tests have sessions and whole operations.
use Rattle.std.proofs.Common.{◌≡◌, [], ◌∷◌, ◌++◌, refl, Some, None, Err}
use Rattle.std.specs.Prelude.{replicate}
use Rattle.avr_part.specs.declared.part.Mem.TheVariants.{Flash, Eeprom, Signature}
use Rattle.avr_part.specs.BuiltIn.{m328p, m2560}
use Rattle.stk_frame.specs.Frame.{frame}
use Rattle.stk_frame.specs.Commands.{body}
use Rattle.stk_frame.specs.HostCommands.{program_page, program_eeprom_block, read_eeprom_block}
use Rattle.stk_host.specs.declared.writing.TheConstants.{NARROW_FLASH}
use Rattle.stk_host.specs.declared.fault.HostFault.TheVariants.{ReadOnly}
use Rattle.stk_host.specs.Dialog.{Done}
use Rattle.stk_host.specs.Places.{load_flash, load_eeprom}
use Rattle.stk_host.specs.WriteSteps.{write_steps}
use Rattle.stk_host.specs.ReadSteps.{read_steps}
use Rattle.stk_host.specs.Operations.{writing}

-- up to 128 KiB of flash, sixteen bits number each word
pub narrow_flash : NARROW_FLASH ≡ 131072
narrow_flash = refl

-- an address of flash counts words, and has bit 31 for a large part only
pub loads_second_page : frame 9 (body (load_flash m328p 128))
    ≡ 0x1B ∷ 0x09 ∷ 0x00 ∷ 0x05 ∷ 0x0E ∷ 0x06 ∷ 0x00 ∷ 0x00 ∷ 0x00 ∷ 0x40 ∷ 0x5F ∷ []
loads_second_page = refl

pub loads_extended : frame 7 (body (load_flash m2560 0x20000))
    ≡ 0x1B ∷ 0x07 ∷ 0x00 ∷ 0x05 ∷ 0x0E ∷ 0x06 ∷ 0x80 ∷ 0x01 ∷ 0x00 ∷ 0x00 ∷ 0x90 ∷ []
loads_extended = refl

-- two pages with a byte each are programmed, and no other
pub writes_pages : write_steps (record m328p { flash_size = 512 }) Flash
    ((Some 0x11 ∷ replicate 129 None) ++ (Some 0x22 ∷ []))
    ≡ (load_flash m328p 0 ∷ program_page (0x11 ∷ replicate 127 255) ∷ [])
    ∷ (load_flash m328p 128 ∷ program_page (255 ∷ 255 ∷ 0x22 ∷ replicate 125 255) ∷ []) ∷ []
writes_pages = refl

-- an image without a byte has no step
pub writes_no_page : write_steps m328p Flash [] ≡ []
writes_no_page = refl

-- both a gap and a page end a run
pub writes_runs : write_steps (record m328p { eeprom_size = 12 }) Eeprom
    (Some 0x11 ∷ None ∷ Some 0x33 ∷ Some 0x44 ∷ Some 0x55 ∷ [])
    ≡ (load_eeprom 0 ∷ program_eeprom_block (0x11 ∷ []) ∷ [])
    ∷ (load_eeprom 2 ∷ program_eeprom_block (0x33 ∷ 0x44 ∷ []) ∷ [])
    ∷ (load_eeprom 4 ∷ program_eeprom_block (0x55 ∷ []) ∷ []) ∷ []
writes_runs = refl

-- four blocks of EEPROM
pub reads_blocks : read_steps m328p Eeprom
    ≡ (load_eeprom 0 ∷ read_eeprom_block 256 ∷ []) ∷ (load_eeprom 256 ∷ read_eeprom_block 256 ∷ [])
    ∷ (load_eeprom 512 ∷ read_eeprom_block 256 ∷ []) ∷ (load_eeprom 768 ∷ read_eeprom_block 256 ∷ []) ∷ []
reads_blocks = refl

-- the last block is shorter
pub reads_the_rest : read_steps (record m328p { eeprom_size = 260 }) Eeprom
    ≡ (load_eeprom 0 ∷ read_eeprom_block 256 ∷ []) ∷ (load_eeprom 256 ∷ read_eeprom_block 4 ∷ []) ∷ []
reads_the_rest = refl

-- the signature can't be written
pub writes_no_signature : writing m328p Signature (Some 0x1E ∷ []) ≡ Done (Err (ReadOnly Signature))
writes_no_signature = refl
