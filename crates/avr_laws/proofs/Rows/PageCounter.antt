-- A bootloader that erases the page at a counter of its own before it writes another doesn't keep the table: its row of
-- PROGRAM_FLASH is refused. (It is a reader: Rows/Bootloader.)
use Rattle.std.proofs.Common.{◌≡◌, inl, inr, true, [], ◌∷◌, refl, ap, arith}
use Rattle.std.specs.Prelude.{slice_index}
use Rattle.stk_emu.specs.Effect.{Memories}
use Rattle.stk_emu.specs.Settled.{FitsPart}
use Rattle.avr_laws.specs.Sheet.{IsVouched}
use Rattle.avr_laws.specs.Table.{IsProgrammer, WritesFlashPage}
use Rattle.avr_laws.specs.WorkedBootloader.{Bootloader, boot_before, bootloader}
use Rattle.avr_laws.specs.WorkedLoss.{loss_part}

-- page 0 is written while the counter is at page 1
abbrev at_page_1 : Bootloader
at_page_1 = record boot_before {
  programming = true;
  memories = record boot_before.memories { flash = 1 ∷ 2 ∷ 3 ∷ 4 ∷ 5 ∷ 6 ∷ 7 ∷ 8 ∷ [] };
}

pub start_fits : FitsPart loss_part at_page_1.memories
start_fits = record { flash = refl; eeprom = refl; bytes = search arith }

pub counter_refused : (IsIn IsReady : Bootloader → Type 0) → IsReady at_page_1
    → IsProgrammer loss_part (bootloader loss_part) (λ b. b.memories) IsIn IsReady (IsVouched (λ mem byte. byte) loss_part) → ⊥
counter_refused IsIn IsReady ready t =
    let d = t.rows _ at_page_1 (WritesFlashPage 0 (0 ∷ 0 ∷ 0 ∷ 0 ∷ []) refl (omega arith) refl) tt start_fits ready in
    elim (d.either refl) [
      | inl kept ↦ let five : 255 ≡ 5 = ap (λ (x : Memories). slice_index x.flash 4) kept.memories in
          omega (arith, five)
      | inr changed ↦ let five : 255 ≡ 5 = ap (λ (x : Memories). slice_index x.flash 4) changed.memories in
          omega (arith, five)
    ]
