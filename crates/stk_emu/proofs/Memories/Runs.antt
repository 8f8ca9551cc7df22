-- A run of EEPROM bytes is loaded and written.
use Rattle.std.proofs.lemmas.Grind.{common_steps}
use Rattle.std.proofs.Common.{◌≡◌, ℕ, suc, ◌+◌, ◌*◌, ◌/◌, ◌%◌, ◌<◌, List, [], ◌∷◌, ◌++◌, length, set, refl, ap, ◌∙◌, arith, true, false, cond, replicate, Some, None, rules}
use Rattle.std.proofs.lemmas.Nat.{mod-mul-add}
use Rattle.std.proofs.Math.Nat.{mod-mod_of_dvd, dvd_of_mod-eq-zero, mod-eq_of_lt}
use Rattle.std.proofs.lemmas.Bool.{cond-true}
use Rattle.std.proofs.lemmas.List.{length-replicate}
use Rattle.avr_part.specs.Part.{Part, IsPart}
use Rattle.avr_part.specs.State as chip
use Rattle.stk_frame.specs.declared.command.Command.TheVariants.{LoadAddress}
use Rattle.stk_frame.specs.Commands.{body}
use Rattle.stk_frame.specs.HostCommands.{program_eeprom_block}
use Rattle.stk_emu.specs.Programmer.{Programmer, after_instructions, eeprom_loads, page_writes, byte_address}
use Rattle.stk_emu.specs.Device.{device}
use Rattle.stk_emu.specs.Effect.{Memories, with_image}
use Rattle.stk_emu.specs.Settled.{Ready}
use Rattle.stk_emu.specs.WriteOperations.{image_at, memories_after_step, FitsEepromPage}
use Rattle.stk_emu.proofs.Memories.Blocks.{sent-append}
use Rattle.stk_emu.proofs.Memories.LaidImages.{put, run_laid, length_put}
use Rattle.stk_emu.proofs.Replies.Commands.{in_mode_is}

-- a loaded address that needs no extended address
pub narrow_loaded : (address : ℕ) (p : Programmer) → address < 2147483648
    → device.after (body (LoadAddress address)) p ≡ record p { address = address; wide = false }
narrow_loaded address p few = search rules

-- the place of byte k within a page that holds it
place_in : (address page k : ℕ) → 256 % page ≡ 0 → 0 < page → address % page + k < page → address + k < 2147483648
    → (address + k) % 2147483648 % 256 % page ≡ address % page + k
place_in address page k whole some within few =
    let split : address + k ≡ address / page * page + (address % page + k) = search rules in
    search (rules, mod-eq_of_lt, mod-mod_of_dvd, dvd_of_mod-eq-zero, mod-mul-add)

eeprom_loaded : (a i off page : ℕ) (ds : List ℕ) (s : chip.ChipState) → s.part.eeprom_page ≡ page
    → ((k : ℕ) → k < length ds → byte_address a (i + k) % 256 % page ≡ off + k)
    → after_instructions (eeprom_loads 0xC1 a i ds) s ≡ record s { eeprom_buffer = put Some off ds s.eeprom_buffer }
eeprom_loaded a i off page [] s e each = refl
eeprom_loaded a i off page (d ∷ ds) s e each =
    let here : byte_address a i % 256 % s.part.eeprom_page ≡ off = grind (arith, each 0) in
    let next : chip.ChipState = record s { eeprom_buffer = set s.eeprom_buffer off (Some d) } in
    let more = eeprom_loaded a (suc i) (suc off) page ds next e
    (λ k l. ap (λ j. byte_address a j % 256 % page) (omega arith) ∙ (each (suc k) (omega arith) ∙ omega arith)) in
    search (rules, more)

module _ (part : Part) (sound : IsPart part) where
  -- the chip after a run
  run_chip : (s : chip.ChipState) (a : ℕ) (run : List ℕ) → s.part ≡ part
      → s.eeprom_buffer ≡ replicate part.eeprom_page None → FitsEepromPage part a run
      → after_instructions (eeprom_loads 0xC1 a 0 run ++ page_writes false 0xC2 a true) s
      ≡ record s {
        eeprom = cond (chip.is_locked s) s.eeprom (with_image (image_at a run) s.eeprom);
        eeprom_buffer = replicate part.eeprom_page None;
      }
  run_chip s a run e empty is_run =
      let size_is : s.part.eeprom_size ≡ part.eeprom_size = ap (λ (x : Part). x.eeprom_size) e in
      let off = a % part.eeprom_page in
      let loaded = put Some off run s.eeprom_buffer in
      let loads : after_instructions (eeprom_loads 0xC1 a 0 run) s ≡ record s { eeprom_buffer = loaded } =
      search (rules, eeprom_loaded, place_in) in
      search (rules, mod-eq_of_lt, run_laid, length_put, length-replicate, sent-append)

  pub run_does : (a : ℕ) (run : List ℕ) (m : Memories) (p : Programmer) → FitsEepromPage part a run → Ready part m p
      → Ready part (memories_after_step part (LoadAddress a ∷ program_eeprom_block run ∷ []) m)
      (device.after (body (program_eeprom_block run)) (device.after (body (LoadAddress a)) p))
  run_does a run m p is_run s = grind (arith, common_steps, in_mode_is, cond-true, run_chip)
