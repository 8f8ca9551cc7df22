-- Two wrong rows that the emulated programmer doesn't keep.
use Rattle.std.proofs.Common.{◌≡◌, ℕ, List, [], ◌∷◌, ◌++◌, take, drop, refl, ap, arith, true, Some, None}
use Rattle.std.specs.Prelude.{slice_index}
use Rattle.byteorder.specs.Endian.{big_bytes}
use Rattle.avr_part.specs.State.{fresh_state}
use Rattle.avr_part.specs.declared.part.Mem.TheVariants.{Hfuse}
use Rattle.stk_emu.specs.Device.{device}
use Rattle.stk_emu.specs.Effect.{Memories, Write}
use Rattle.stk_emu.specs.Programmer.{Programmer, fresh_programmer}
use Rattle.avr_laws.specs.EmulatedStates.{HasEmptyBuffers, chip_memories}
use Rattle.avr_laws.specs.Table.{IsDoneOrNot, Row, reading, writing}
use Rattle.avr_laws.specs.WorkedLoss.{loss_part}

-- in programming mode, with two bytes of EEPROM
abbrev ready : Programmer
ready = record (fresh_programmer (record (fresh_state loss_part) { eeprom = 9 ∷ 10 ∷ [] })) { mode = true }

abbrev Keeps : Row → Type 0
Keeps row = IsDoneOrNot device chip_memories (HasEmptyBuffers loss_part) loss_part row ready

-- the lock's byte goes to the high fuse
pub lock_to_fuse : Keeps (writing None (0x19 ∷ 0xAC ∷ 0xE0 ∷ 0x00 ∷ 0 ∷ []) (Write Hfuse (Some 0 ∷ [])) (0x19 ∷ 0 ∷ 0
    ∷ [])) → ⊥
lock_to_fuse keeps =
    let done = keeps.good tt [] refl refl in
    let fuse : 255 ≡ 0 = ap (λ (x : Memories). x.hfuse) done.1.memories in omega (arith, fuse)

-- EEPROM is read one byte later
pub eeprom_shifted : Keeps (reading (Some 0) (0x16 ∷ (big_bytes 2 1 ++ 0xA0 ∷ [])) 1 (λ x. take 1 (drop 1 x.eeprom))
    0x16) → ⊥
eeprom_shifted keeps =
    let done = keeps.good refl (9 ∷ []) refl refl in
    let byte : 9 ≡ 10 = ap (λ (bytes : List ℕ). slice_index bytes 0) done.0 in omega (arith, byte)
