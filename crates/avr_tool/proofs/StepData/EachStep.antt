-- The data of each step from a settled programmer: none, or the bytes of the memories.
use Rattle.std.proofs.Common.{◌≡◌, ℕ, ◌+◌, ◌*◌, ◌/◌, ◌%◌, ◌≤◌, ◌<◌, List, [], ◌∷◌, length, take, drop, ap, ◌∙◌, arith, inl, inr, ◌⊎◌, true, false, cond, drop-cons, length-append, rules}
use Rattle.std.proofs.lemmas.Bool.{ne_eqb, eq-eqb, ltb-false, cond-true}
use Rattle.std.proofs.lemmas.List.{length-take, length-drop, get_or-append_right, take-append-le, take_all}
use Rattle.avr_part.specs.declared.part.Mem.TheVariants.{Flash, Eeprom}
use Rattle.avr_part.specs.Part.{Part, IsPart}
use Rattle.stk_frame.specs.declared.command.Command.{Command}
use Rattle.stk_frame.specs.Commands.{body}
use Rattle.stk_frame.specs.HostCommands.{read_flash_block, read_eeprom_block}
use Rattle.stk_host.specs.Tape.{Replied}
use Rattle.stk_host.specs.Places.{flash_address, load_flash, load_eeprom}
use Rattle.stk_host.specs.Steps.{Data, reply_from_reading}
use Rattle.stk_host.proofs.ImagePlaces.PagesAndRuns.{page_most}
use Rattle.stk_emu.specs.Programmer.{Programmer, flash_reads, eeprom_reads}
use Rattle.stk_emu.specs.Programmer as programmer
use Rattle.stk_emu.specs.Device.{Device, device}
use Rattle.stk_emu.specs.Effect.{Memories, effect, effects, Item}
use Rattle.stk_emu.specs.Settled.{Ready, FitsPart}
use Rattle.stk_emu.specs.WriteOperations.{memories_after_step, write_operation_of, IsStep, Erases, ProgramsPage, ProgramsEepromRun, ProgramsFuse, ProgramsLock, ReadsFlash, ReadsEeprom, ReadsFuse, ReadsLock, ReadsSignature, ReadsCalibration, IsBlock, AreWords}
use Rattle.stk_emu.specs.StepData.{data_of_step}
use Rattle.avr_tool.proofs.Leads.{IsDataOfAttempt}
use Rattle.stk_emu.proofs.Repeatable.{on_data, reply_to, joined_reply, Settled}
use Rattle.stk_emu.proofs.Replies.Commands.{settled_ready}
use Rattle.stk_emu.proofs.Memories.Pages.{is_wide, flash_loaded_at, flash_address_back}
use Rattle.stk_emu.proofs.Memories.Runs.{narrow_loaded}
use Rattle.stk_emu.proofs.Memories.BlocksRead.{BytesAndChip, flash_looked, eeprom_looked}
use Rattle.avr_tool.proofs.WriteOperations.Steps.{address_fits}
use Rattle.avr_tool.proofs.WriteOperations.OutsideMode.{in_mode_by_data, load_reply}
use Rattle.avr_tool.proofs.WriteOperations.Items.{effect_sizes, flash_even}

module _ {P : Type 0} (m : Device P) where
  -- The data of a step of one command.
  joined_one : (c : Command) (p : P) (bytes : List ℕ) → reply_to m c p ≡ Data bytes
      → joined_reply m (c ∷ []) [] p ≡ Data bytes
  joined_one c p bytes e = ap (λ r. on_data r (λ b. Data b)) e

  -- The data of a step of two commands, of which the first gives none.
  joined_two : (c d : Command) (p : P) (bytes : List ℕ) → reply_to m c p ≡ Data []
      → reply_to m d (m.after (body c) p) ≡ Data bytes → joined_reply m (c ∷ d ∷ []) [] p ≡ Data bytes
  joined_two c d p bytes e f = search rules

-- In programming mode a command gets its own reply.
in_mode_reply : (c : Command) (p : Programmer) (x y : programmer.Response) → p.mode ≡ true
    → reply_from_reading c (Replied (cond p.mode x y).0) ≡ reply_from_reading c (Replied x.0)
in_mode_reply c p x y e = ap (λ (z : programmer.Response). reply_from_reading c (Replied z.0)) (cond-true p.mode x y e)

-- The reply to a block of flash.
flash_read_reply : (count : ℕ) (bytes : List ℕ) (p : Programmer) → p.mode ≡ true → 0 < count → count % 2 ≡ 0
    → count ≤ 256 → (flash_reads p.wide 0x20 p.address 0 count p.chip).0 ≡ bytes → length bytes ≡ count
    → reply_to device (read_flash_block count) p ≡ Data bytes
flash_read_reply count bytes p mode some even few is len =
    search (rules, length-append, get_or-append_right, take-append-le, take_all, eq-eqb)

-- The reply to a block of EEPROM.
eeprom_read_reply : (count : ℕ) (bytes : List ℕ) (p : Programmer) → p.mode ≡ true → 0 < count → count ≤ 256
    → (eeprom_reads 0xA0 p.address 0 count p.chip).0 ≡ bytes → length bytes ≡ count
    → reply_to device (read_eeprom_block count) p ≡ Data bytes
eeprom_read_reply count bytes p mode some few is len =
    search (rules, length-append, get_or-append_right, take-append-le, take_all)

module _ (part : Part) (sound : IsPart part) where
  -- A block has as many bytes as asked for.
  block_length : (start count size : ℕ) (xs : List ℕ) → length xs ≡ size → start + count ≤ size
      → length (take count (drop start xs)) ≡ count
  block_length start count size xs long fits = let t = length-take count (drop start xs) in search (rules, length-drop)

  -- A step that reads flash gives its bytes.
  flash_data : (start count : ℕ) (m : Memories) (p : Programmer) → IsBlock part Flash start count
      → AreWords start count → FitsPart part m → Ready part m p
      → joined_reply device (load_flash part start ∷ read_flash_block count ∷ []) [] p
      ≡ Data (data_of_step part (load_flash part start ∷ read_flash_block count ∷ []) m)
  flash_data start count m p is_block words f s =
      let most = sound.flash_most in
      let few : start < 4294967296 = omega arith in
      let halves : start / 2 * 2 + 0 ≡ start = let e = words.start_even in omega arith in
      let q : Programmer = record p { address = start / 2; wide = is_wide part } in
      let long : length p.chip.flash ≡ part.flash_size = ap (λ (x : Memories). length x.flash) s.memories ∙ f.flash in
      let looked : BytesAndChip (is_wide part) (start / 2 * 2 + 0) count p.chip
      (flash_reads (is_wide part) 0x20 (start / 2) 0 count p.chip) =
      flash_looked (is_wide part) (start / 2) 0 count part.flash_size p.chip (ap (λ (x : Part). x.flash_size) s.part_is)
      long most (flash_even part sound) (omega arith)
      (λ narrow. let size = ltb-false 131072 part.flash_size narrow in (s.extended size, size)) in
      let bytes = take count (drop start m.flash) in
      let is : (flash_reads (is_wide part) 0x20 (start / 2) 0 count p.chip).0 ≡ bytes = search rules in
      joined_two device (load_flash part start) (read_flash_block count) p _
      (load_reply (flash_address part start) p (address_fits part sound start few))
      (ap (reply_to device (read_flash_block count)) (flash_loaded_at part start p few)
      ∙ (search (rules, flash_read_reply, block_length, flash_address_back)))

  -- A step that reads EEPROM gives its bytes.
  eeprom_data : (start count : ℕ) (m : Memories) (p : Programmer) → IsBlock part Eeprom start count → FitsPart part m
      → Ready part m p → joined_reply device (load_eeprom start ∷ read_eeprom_block count ∷ []) [] p
      ≡ Data (data_of_step part (load_eeprom start ∷ read_eeprom_block count ∷ []) m)
  eeprom_data start count m p is_block f s =
      let inside = is_block.inside in
      let most = sound.eeprom_most in
      let q : Programmer = record p { address = start; wide = false } in
      let long : length p.chip.eeprom ≡ part.eeprom_size =
      ap (λ (x : Memories). length x.eeprom) s.memories ∙ f.eeprom in
      let looked = eeprom_looked start 0 count part.eeprom_size p.chip (ap (λ (x : Part). x.eeprom_size) s.part_is) long
      most (omega arith) in
      let bytes = take count (drop start m.eeprom) in
      let is : (eeprom_reads 0xA0 start 0 count p.chip).0 ≡ bytes = search rules in
      joined_two device (load_eeprom start) (read_eeprom_block count) p bytes (load_reply start p (omega arith))
      (ap (reply_to device (read_eeprom_block count)) (narrow_loaded start p (omega arith))
      ∙ eeprom_read_reply count bytes q s.mode is_block.some is_block.few is
      (block_length start count part.eeprom_size m.eeprom f.eeprom inside))

  -- Equal commands give the same data.
  as_written : (written commands : List Command) (m : Memories) (p : Programmer) → commands ≡ written
      → joined_reply device written [] p ≡ Data (data_of_step part written m)
      → joined_reply device commands [] p ≡ Data (data_of_step part commands m)
  as_written written commands m p e given = search rules

  -- all commands of a step, each executed and replied to
  pub step_data : (commands : List Command) (m : Memories) (p : Programmer) → IsStep part commands → FitsPart part m
      → Ready part m p → joined_reply device commands [] p ≡ Data (data_of_step part commands m)
  step_data commands m p (Erases e) f s = search rules
  step_data commands m p (ProgramsPage number bytes is_page e) f s = search (rules, as_written, page_most)
  step_data commands m p (ProgramsEepromRun address bytes is_run e) f s = search (rules, as_written)
  step_data commands m p (ProgramsFuse fuse v e) f s = search (rules, as_written, joined_one)
  step_data commands m p (ProgramsLock v e) f s = search (rules, as_written, joined_one, in_mode_reply)
  step_data commands m p (ReadsFlash start count is_block words e) f s = search (rules, as_written, flash_data)
  step_data commands m p (ReadsEeprom start count is_block e) f s = search (rules, as_written, eeprom_data)
  step_data commands m p (ReadsFuse fuse e) f s = search rules
  step_data commands m p (ReadsLock e) f s = search (rules, as_written, joined_one, in_mode_reply)
  step_data commands m p (ReadsSignature place few e) f s = search (rules, as_written, joined_one, ne_eqb, drop-cons)
  step_data commands m p (ReadsCalibration e) f s = search (rules, as_written, joined_one, in_mode_reply)

-- a step keeps the sizes of the memories
changed_sizes_by : (part : Part) (items : List Item) (m : Memories) → IsPart part → FitsPart part m
    → FitsPart part (effects part items m)
changed_sizes_by part [] m sound f = f
changed_sizes_by part (item ∷ items) m sound f =
    changed_sizes_by part items (effect part item m) sound (effect_sizes part sound item m f)

-- One step keeps the sizes.
pub changed_sizes : (part : Part) (commands : List Command) (m : Memories) → IsPart part → FitsPart part m
    → FitsPart part (memories_after_step part commands m)
changed_sizes part commands m sound f = changed_sizes_by part (write_operation_of commands) m sound f

module _ (part : Part) (sound : IsPart part) where
  -- A step doesn't change what it gives.
  pub data_stays : (commands : List Command) (m : Memories) → IsStep part commands
      → data_of_step part commands (memories_after_step part commands m) ≡ data_of_step part commands m
  data_stays commands m is = search rules

  -- an attempt under either condition gives what the memories hold
  pub data_of_attempt : (commands : List Command) (m : Memories) (got : List ℕ) → IsStep part commands → FitsPart part m
      → IsDataOfAttempt device commands (Settled part m) (Settled part (memories_after_step part commands m)) got
      → got ≡ data_of_step part commands m
  data_of_attempt commands m got is f g = search (rules, from_either)
    where
      -- The attempt began before the step was done, or after.
      from_either : (q : Programmer) → Settled part m q ⊎ Settled part (memories_after_step part commands m) q
          → joined_reply device commands [] q ≡ Data got
          → joined_reply device commands [] q ≡ Data (data_of_step part commands m)
      from_either q (inl t) has = search (rules, step_data, in_mode_by_data)
      from_either q (inr t) has = rw (← data_stays commands m is) (step_data part sound commands _ q is
          (changed_sizes part commands m sound f) (search (rules, in_mode_by_data, settled_ready)))
