-- AVR068's names of the first byte of a command and the status of a reply.
use Rattle.std.specs.Prelude.{ℕ, List, [], ◌∷◌, ◌==◌, Option, find, option_map, codes}

abbrev pub command_names : List (ℕ × List ℕ)
command_names =
    (0x01, codes "CMD_SIGN_ON")
    ∷ (0x02, codes "CMD_SET_PARAMETER")
    ∷ (0x03, codes "CMD_GET_PARAMETER")
    ∷ (0x06, codes "CMD_LOAD_ADDRESS")
    ∷ (0x10, codes "CMD_ENTER_PROGMODE_ISP")
    ∷ (0x11, codes "CMD_LEAVE_PROGMODE_ISP")
    ∷ (0x12, codes "CMD_CHIP_ERASE_ISP")
    ∷ (0x13, codes "CMD_PROGRAM_FLASH_ISP")
    ∷ (0x14, codes "CMD_READ_FLASH_ISP")
    ∷ (0x15, codes "CMD_PROGRAM_EEPROM_ISP")
    ∷ (0x16, codes "CMD_READ_EEPROM_ISP")
    ∷ (0x17, codes "CMD_PROGRAM_FUSE_ISP")
    ∷ (0x18, codes "CMD_READ_FUSE_ISP")
    ∷ (0x19, codes "CMD_PROGRAM_LOCK_ISP")
    ∷ (0x1A, codes "CMD_READ_LOCK_ISP")
    ∷ (0x1B, codes "CMD_READ_SIGNATURE_ISP")
    ∷ (0x1C, codes "CMD_READ_OSCCAL_ISP")
    ∷ (0x1D, codes "CMD_SPI_MULTI")
    ∷ []

-- Done, three warnings, three errors.
abbrev pub status_names : List (ℕ × List ℕ)
status_names =
    (0x00, codes "STATUS_CMD_OK")
    ∷ (0x80, codes "STATUS_CMD_TOUT")
    ∷ (0x81, codes "STATUS_RDY_BSY_TOUT")
    ∷ (0x82, codes "STATUS_SET_PARAM_MISSING")
    ∷ (0xC0, codes "STATUS_CMD_FAILED")
    ∷ (0xC1, codes "STATUS_CKSUM_ERROR")
    ∷ (0xC9, codes "STATUS_CMD_UNKNOWN")
    ∷ []

-- The name of this byte, if the table has one.
abbrev pub name_in : List (ℕ × List ℕ) → ℕ → Option (List ℕ)
name_in rows byte = option_map (λ row. row.1) (find (λ row. byte == row.0) rows)
