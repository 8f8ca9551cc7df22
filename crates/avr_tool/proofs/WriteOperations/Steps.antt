-- Each step leads from its memories to those that it leaves, also if it is cut short and repeated.
use Rattle.std.proofs.Common.{◌≡◌, ℕ, ◌*◌, ◌<◌, ◌^◌, List, [], ◌∷◌, sym, subst, arith, rules}
use Rattle.std.proofs.lemmas.List.{length-replicate}
use Rattle.avr_part.specs.declared.part.Mem.TheVariants.{Flash, Eeprom}
use Rattle.avr_part.specs.Part.{Part, IsPart}
use Rattle.stk_frame.specs.declared.command.Command.{Command}
use Rattle.stk_frame.specs.declared.command.Command.TheVariants.{SignOn}
use Rattle.stk_frame.specs.declared.command.Fuse.{Fuse}
use Rattle.stk_frame.specs.Commands.{body}
use Rattle.stk_frame.specs.HostCommands.{enter, leave, program_page, program_eeprom_block, program_fuse, read_flash_block, read_eeprom_block, read_fuse, read_lock, read_signature, read_calibration}
use Rattle.stk_host.specs.Places.{flash_address, load_flash, load_eeprom}
use Rattle.stk_emu.specs.Programmer.{Programmer}
use Rattle.stk_emu.specs.Device.{device}
use Rattle.stk_emu.specs.Effect.{Memories, Item, effect}
use Rattle.stk_emu.specs.Settled.{HasMemories, Ready}
use Rattle.stk_emu.proofs.Repeatable.{IsRepeatable, Settled}
use Rattle.stk_emu.specs.WriteOperations.{memories_after_step, IsStep, Erases, ProgramsPage, ProgramsEepromRun, ProgramsFuse, ProgramsLock, ReadsFlash, ReadsEeprom, ReadsFuse, ReadsLock, ReadsSignature, ReadsCalibration, IsPage, FitsEepromPage, IsBlock, AreWords}
use Rattle.stk_emu.proofs.Memories.LaidImages.{laid_twice, and_in_twice, and_byte}
use Rattle.stk_emu.proofs.Replies.Commands.{one_fits, steady, in_mode_is, one_steady, two_steady, settled_idle, ready_settled, ready_idle, restart_keeps_memories, restart_is_settled, enter_does, leave_keeps, load_keeps, fuse_does, lock_does, erase_does, fuse_read_after, lock_read_after, calibration_read_after}
use Rattle.stk_emu.proofs.Memories.Runs.{run_does}
use Rattle.stk_emu.proofs.Memories.Pages.{page_does}
use Rattle.avr_tool.proofs.StepData.ReadReplies.{flash_read_keeps, eeprom_read_keeps}

-- An item that is done twice leaves what it leaves at first.
pub effect_twice : (part : Part) (item : Item) (m : Memories)
    → effect part item (effect part item m) ≡ effect part item m
effect_twice part item m = search (rules, length-replicate, laid_twice, and_in_twice, and_byte)

-- The same of the byte of a fuse.
fuse_twice : (part : Part) (f : Fuse) (v : ℕ) (m : Memories)
    → memories_after_step part (program_fuse f v ∷ []) (memories_after_step part (program_fuse f v ∷ []) m)
    ≡ memories_after_step part (program_fuse f v ∷ []) m
fuse_twice part f v m = search rules

module _ (part : Part) where
  -- a command that changes nothing that a host sees
  quiet : (c : Command) (m : Memories) → ((p : Programmer) → Ready part m p → Ready part m (device.after (body c) p))
      → IsRepeatable steady (c ∷ []) (Ready part m) (Ready part m)
  quiet c m keeps = one_steady c _ _ (λ p s. keeps p s) (λ p s. keeps p s)

  -- SIGN_ON keeps the memories.
  pub sign_on_fits : (m : Memories) → IsRepeatable device (SignOn ∷ []) (HasMemories part m) (HasMemories part m)
  sign_on_fits m = search (rules, one_fits, restart_keeps_memories)

  -- ENTER leads into programming mode.
  pub enter_fits : (m : Memories) → IsRepeatable device (enter ∷ []) (HasMemories part m) (Settled part m)
  enter_fits m =
      search (rules, one_fits, ready_settled, enter_does, settled_idle, restart_keeps_memories, restart_is_settled)

  -- LEAVE keeps the memories.
  pub leave_fits : (m : Memories) → IsRepeatable device (leave ∷ []) (HasMemories part m) (HasMemories part m)
  leave_fits m = search (rules, one_fits, leave_keeps, restart_keeps_memories)

  -- ENTER leads into programming mode, if nothing restarts.
  pub enter_ready : (m : Memories) → IsRepeatable steady (enter ∷ []) (HasMemories part m) (Ready part m)
  enter_ready m = search (rules, one_steady, enter_does, ready_idle)

  -- LEAVE keeps the memories, if nothing restarts.
  pub leave_steady : (m : Memories) → IsRepeatable steady (leave ∷ []) (HasMemories part m) (HasMemories part m)
  leave_steady m = one_steady leave _ _ (λ p s. leave_keeps part m p s) (λ p s. leave_keeps part m p s)

  module _ (sound : IsPart part) where
    -- If a step that is done twice leaves the same, the second time may count as the first.
    again_of : (commands : List Command) (m : Memories) (q : Programmer)
        → memories_after_step part commands (memories_after_step part commands m) ≡ memories_after_step part commands m
        → Ready part (memories_after_step part commands (memories_after_step part commands m)) q
        → Ready part (memories_after_step part commands m) q
    again_of commands m q twice s = subst (λ z. Ready part z q) twice s

    -- the address of a place in flash fits its command
    pub address_fits : (start : ℕ) → start < 4294967296 → flash_address part start < 2 ^ 32
    address_fits start few = search rules

    -- A page of flash leads from its memories to those that it leaves.
    page_fits : (number : ℕ) (bytes : List ℕ) (m : Memories) → IsPage part number bytes
        → IsRepeatable steady (load_flash part (number * part.flash_page) ∷ program_page bytes ∷ []) (Ready part m)
        (Ready part (memories_after_step part (load_flash part (number * part.flash_page) ∷ program_page bytes ∷ []) m))
    page_fits number bytes m is_page =
        let most = sound.flash_most in
        let few : flash_address part (number * part.flash_page) < 2 ^ 32 =
        address_fits (number * part.flash_page) (omega arith) in
        search (rules, two_steady, load_keeps, page_does, again_of, effect_twice)

    -- So does a run of EEPROM bytes.
    run_fits : (address : ℕ) (bytes : List ℕ) (m : Memories) → FitsEepromPage part address bytes
        → IsRepeatable steady (load_eeprom address ∷ program_eeprom_block bytes ∷ []) (Ready part m)
        (Ready part (memories_after_step part (load_eeprom address ∷ program_eeprom_block bytes ∷ []) m))
    run_fits address bytes m is_run =
        let most = sound.eeprom_most in
        let few : address < 2 ^ 32 = omega arith in
        search (rules, two_steady, load_keeps, run_does, again_of, effect_twice)

    -- Reading a block of flash changes nothing.
    flash_read_fits : (start count : ℕ) (m : Memories) → IsBlock part Flash start count → AreWords start count
        → IsRepeatable steady (load_flash part start ∷ read_flash_block count ∷ []) (Ready part m) (Ready part m)
    flash_read_fits start count m is_block words =
        let most = sound.flash_most in
        let few : flash_address part start < 2 ^ 32 = address_fits start (omega arith) in
        search (rules, two_steady, load_keeps, flash_read_keeps)

    -- Reading a block of EEPROM changes nothing.
    eeprom_read_fits : (start count : ℕ) (m : Memories) → IsBlock part Eeprom start count
        → IsRepeatable steady (load_eeprom start ∷ read_eeprom_block count ∷ []) (Ready part m) (Ready part m)
    eeprom_read_fits start count m is_block =
        let inside = is_block.inside in
        let most = sound.eeprom_most in
        let few : start < 2 ^ 32 = omega arith in search (rules, two_steady, load_keeps, eeprom_read_keeps)

    -- Reading a fuse changes nothing.
    pub fuse_read_fits : (f : Fuse) (m : Memories) → IsRepeatable steady (read_fuse f ∷ []) (Ready part m)
        (Ready part m)
    fuse_read_fits f m = quiet (read_fuse f) m (λ p s. subst (Ready part m) (sym (fuse_read_after f p s.mode)) s)

    -- What is shown of the commands of a step is true of equal commands.
    by_commands : (written commands : List Command) (m : Memories) → commands ≡ written
        → IsRepeatable steady written (Ready part m) (Ready part (memories_after_step part written m))
        → IsRepeatable steady commands (Ready part m) (Ready part (memories_after_step part commands m))
    by_commands written commands m e fits = search rules

    -- Each step leads from its memories to those that it leaves, if nothing restarts.
    pub step_ready : (commands : List Command) (m : Memories) → IsStep part commands
        → IsRepeatable steady commands (Ready part m) (Ready part (memories_after_step part commands m))
    step_ready commands m (Erases e) = search (rules, by_commands, one_steady, erase_does, again_of, effect_twice)
    step_ready commands m (ProgramsPage number bytes is_page e) = search (rules, by_commands, page_fits)
    step_ready commands m (ProgramsEepromRun address bytes is_run e) = search (rules, by_commands, run_fits)
    step_ready commands m (ProgramsFuse f v e) =
        search (rules, by_commands, one_steady, fuse_does, again_of, fuse_twice)
    step_ready commands m (ProgramsLock v e) = search (rules, by_commands, one_steady, lock_does, again_of, effect_twice)
    step_ready commands m (ReadsFlash start count is_block words e) = search (rules, by_commands, flash_read_fits)
    step_ready commands m (ReadsEeprom start count is_block e) = search (rules, by_commands, eeprom_read_fits)
    step_ready commands m (ReadsFuse f e) = by_commands _ commands m e (fuse_read_fits f m)
    step_ready commands m (ReadsLock e) = by_commands _ commands m e
        (quiet read_lock m (λ p s. subst (Ready part m) (sym (lock_read_after p s.mode)) s))
    step_ready commands m (ReadsSignature place few e) = by_commands _ commands m e
        (quiet (read_signature place) m (λ p s. subst (Ready part m) (sym (in_mode_is p _ _ s.mode)) s))
    step_ready commands m (ReadsCalibration e) = by_commands _ commands m e
        (quiet read_calibration m (λ p s. subst (Ready part m) (sym (calibration_read_after p s.mode)) s))
