-- Worked examples of an erase and of writes, on small memories.
use Rattle.std.proofs.Common.{◌≡◌, ℕ, [], ◌∷◌, Some, None, refl}
use Rattle.avr_part.specs.BuiltIn.{m328p}
use Rattle.avr_part.specs.declared.part.Mem.TheVariants.{Flash, Eeprom, Lock}
use Rattle.stk_emu.specs.Effect.{Memories, Erase, Write, effect}

-- two bytes of flash, two of EEPROM, by the high fuse and the lock
abbrev small : ℕ → ℕ → Memories
small high lock =
    record { flash = 0xFF ∷ 0x0F ∷ []; eeprom = 0x12 ∷ 0x34 ∷ []; lfuse = 0x62; hfuse = high; efuse = 255; lock = lock }

-- high fuse D9 has the EESAVE bit at 1, and D1 at 0
erases_all : effect m328p Erase (small 0xD9 0xFC)
    ≡ record (small 0xD9 0xFF) { flash = 0xFF ∷ 0xFF ∷ []; eeprom = 0xFF ∷ 0xFF ∷ [] }
erases_all = refl

keeps_eeprom : effect m328p Erase (small 0xD1 0xFC) ≡ record (small 0xD1 0xFF) { flash = 0xFF ∷ 0xFF ∷ [] }
keeps_eeprom = refl

-- flash takes only zeros, and keeps the bytes for which the image has none
ands_flash : effect m328p (Write Flash (Some 0xF0 ∷ None ∷ [])) (small 0xD9 0xFF)
    ≡ record (small 0xD9 0xFF) { flash = 0xF0 ∷ 0x0F ∷ [] }
ands_flash = refl

ands_again : effect m328p (Write Flash (None ∷ Some 0xF1 ∷ [])) (small 0xD9 0xFF)
    ≡ record (small 0xD9 0xFF) { flash = 0xFF ∷ 0x01 ∷ [] }
ands_again = refl

lays_eeprom : effect m328p (Write Eeprom (None ∷ Some 0xAA ∷ [])) (small 0xD9 0xFF)
    ≡ record (small 0xD9 0xFF) { eeprom = 0x12 ∷ 0xAA ∷ [] }
lays_eeprom = refl

-- a lock of FE has lock bit 0 at 0
locked_stays : effect m328p (Write Eeprom (None ∷ Some 0xAA ∷ [])) (small 0xD9 0xFE) ≡ small 0xD9 0xFE
locked_stays = refl

lock_takes_zeros : effect m328p (Write Lock (Some 0xFD ∷ [])) (small 0xD9 0xFE) ≡ small 0xD9 0xFC
lock_takes_zeros = refl
