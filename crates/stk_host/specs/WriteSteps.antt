-- The steps that write an image to a memory.
use Rattle.std.specs.Prelude.{ℕ, Bool, ◌+◌, ◌-◌, ◌*◌, ◌/◌, ◌%◌, List, [], ◌∷◌, ◌==◌, ◌&&◌, ◌||◌, not, Option, Some, None, is_some, if◌then◌else◌}
use Rattle.avr_image.specs.Image.{byte_at, filled_bytes, holds_any, run_end}
use Rattle.avr_part.specs.declared.part.Mem.{Mem}
use Rattle.avr_part.specs.declared.part.Mem.TheVariants.{Flash, Eeprom, Lfuse, Hfuse, Efuse, Lock}
use Rattle.avr_part.specs.Part.{Part}
use Rattle.stk_frame.specs.declared.command.Command.{Command}
use Rattle.stk_frame.specs.declared.command.Fuse.TheVariants.{Low, High, Extended}
use Rattle.stk_frame.specs.HostCommands.{program_page, program_eeprom_block, program_fuse, program_lock}
use Rattle.stk_host.specs.Places.{each_from, load_flash, load_eeprom}

-- Programs the page of flash that begins here, with FF in gaps.
abbrev pub page_step : Part → List (Option ℕ) → ℕ → List Command
page_step part image start = load_flash part start ∷ program_page (filled_bytes image start part.flash_page) ∷ []

-- Programs a page in which the image holds a byte.
abbrev pub page_steps : Part → List (Option ℕ) → ℕ → List (List Command)
page_steps part image number =
    if holds_any image (number * part.flash_page) part.flash_page
    then page_step part image (number * part.flash_page) ∷ [] else []

-- The address after the page that this address is in.
abbrev pub page_end : ℕ → ℕ → ℕ
page_end page addr = addr - addr % page + page

-- A run begins at a byte of the image, if a page begins there or the address before is a gap.
abbrev pub begins_run : ℕ → List (Option ℕ) → ℕ → Bool
begins_run page image addr =
    is_some (byte_at image addr) && (addr % page == 0 || not (is_some (byte_at image (addr - 1))))

-- Programs the longest run of bytes that begins here, within one page.
abbrev pub run_step : Part → List (Option ℕ) → ℕ → List Command
run_step part image addr =
    load_eeprom addr ∷ program_eeprom_block
    (filled_bytes image addr (run_end image addr (page_end part.eeprom_page addr) - addr)) ∷ []

-- Programs the run that begins here, if one does.
abbrev pub run_steps_at : Part → List (Option ℕ) → ℕ → List (List Command)
run_steps_at part image addr = if begins_run part.eeprom_page image addr then run_step part image addr ∷ [] else []

-- The number of places: the pages of flash, or the bytes of EEPROM.
abbrev pub place_count : Part → Mem → ℕ
place_count part Flash = part.flash_size / part.flash_page
place_count part mem = part.eeprom_size

-- The steps at one place.
abbrev pub place_steps : Part → Mem → List (Option ℕ) → ℕ → List (List Command)
place_steps part Flash image number = page_steps part image number
place_steps part mem image addr = run_steps_at part image addr

-- Programs a fuse or the lock, if the image has its byte.
abbrev pub byte_steps : (ℕ → Command) → Option ℕ → List (List Command)
byte_steps program None = []
byte_steps program (Some byte) = (program byte ∷ []) ∷ []

-- The steps of `Host::write`. Pages of flash and runs of EEPROM are in rising order.
abbrev pub write_steps : Part → Mem → List (Option ℕ) → List (List Command)
write_steps part Flash image = each_from (page_steps part image) 0 (part.flash_size / part.flash_page)
write_steps part Eeprom image = each_from (run_steps_at part image) 0 part.eeprom_size
write_steps part Lfuse image = byte_steps (program_fuse Low) (byte_at image 0)
write_steps part Hfuse image = byte_steps (program_fuse High) (byte_at image 0)
write_steps part Efuse image = byte_steps (program_fuse Extended) (byte_at image 0)
write_steps part Lock image = byte_steps program_lock (byte_at image 0)
write_steps part mem image = []
