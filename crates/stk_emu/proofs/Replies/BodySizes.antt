-- Each reply of the programmer fits a frame.
use Rattle.std.proofs.lemmas.Grind.{common_steps}
use Rattle.std.proofs.Common.{◌≡◌, ℕ, zero, suc, List, [], ◌∷◌, length, refl, ap, arith, Bool, true, if◌then◌else◌, length-append, rules}
use Rattle.std.proofs.lemmas.Bool.{leb-true, and_parts}
use Rattle.avr_part.specs.State.{ChipState, spi_of}
use Rattle.stk_frame.specs.declared.command.Command.{Command}
use Rattle.stk_frame.specs.declared.command.ReadBlock.{ReadBlock}
use Rattle.stk_emu.specs.Programmer.{Programmer, Response, execute, execute_command, flash_reads, eeprom_reads, extension, at_address, for_half, word_at, byte_address, after_instructions, read_flash, read_eeprom, spi_multi}
use Rattle.stk_emu.specs.Device.{Device, device}
use Rattle.stk_emu.specs.Lawful.{IsFrameBody}

abbrev pub RepliesFitFrames : {P : Type 0} → Device P → Type 0
RepliesFitFrames {P} m = (bytes : List ℕ) (p : P) → IsFrameBody bytes → IsFrameBody (m.reply bytes p)

two : (x y : ℕ) → IsFrameBody (x ∷ y ∷ [])
two x y = record { some = omega arith; few = omega arith }

when : (b : Bool) (x y : Response) → (b ≡ true → IsFrameBody x.0) → IsFrameBody y.0 → IsFrameBody (if b then x else y).0
when b x y f g = search rules

pub flash_length : (wide : Bool) (cmd address i n : ℕ) (chip : ChipState)
    → length (flash_reads wide cmd address i n chip).0 ≡ n
flash_length wide cmd address i zero chip = refl
flash_length wide cmd address i (suc n) chip =
    search (rules, flash_length wide cmd address (suc i) n)

pub eeprom_length : (cmd address i n : ℕ) (chip : ChipState) → length (eeprom_reads cmd address i n chip).0 ≡ n
eeprom_length cmd address i zero chip = refl
eeprom_length cmd address i (suc n) chip =
    search (rules, eeprom_length cmd address (suc i) n)

flash_body : (f : ReadBlock) (p : Programmer) → IsFrameBody (read_flash f p).0
flash_body f p = grind (arith, common_steps, and_parts, length-append, flash_length, two)

eeprom_body : (f : ReadBlock) (p : Programmer) → IsFrameBody (read_eeprom f p).0
eeprom_body f p = grind (arith, common_steps, and_parts, length-append, eeprom_length, two)

multi_body : (send receive start : ℕ) (bytes : List ℕ) (p : Programmer)
    → IsFrameBody (spi_multi send receive start bytes p).0
multi_body send receive start bytes p = grind (arith, common_steps, when, leb-true)

command_body : (c : Command) (p : Programmer) → IsFrameBody (execute_command c p).0
command_body c p = search (rules, flash_body, eeprom_body, multi_body)

pub replies_fit_frames : RepliesFitFrames device
replies_fit_frames bytes p b = search (rules, command_body)

pub reply_fits_frame : (bytes : List ℕ) (p : Programmer) → IsFrameBody (execute bytes p).0
reply_fits_frame bytes p = search (rules, command_body)
