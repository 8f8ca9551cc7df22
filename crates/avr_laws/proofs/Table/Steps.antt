-- Each step of a host is a row of the table.
use Rattle.std.proofs.Common.{◌≡◌, ◌∙◌, ℕ, ◌*◌, ◌^◌, ◌<◌, List, [], ◌∷◌, ◌++◌, length, map, take, drop, refl, sym, ap, subst, arith, Option, Some, None, Ok, rules}
use Rattle.avr_part.specs.declared.part.Mem.TheVariants.{Flash, Eeprom, Lock}
use Rattle.avr_part.specs.Part.{Part, IsPart}
use Rattle.stk_frame.specs.declared.command.Command.{Command}
use Rattle.stk_frame.specs.declared.command.Command.TheVariants.{LoadAddress}
use Rattle.stk_frame.specs.declared.command.Fuse.{Fuse}
use Rattle.stk_frame.specs.declared.command.Fuse.TheVariants.{Low, High, Extended}
use Rattle.stk_frame.specs.declared.answer.Shape.TheVariants.{Bytes, Closed}
use Rattle.stk_frame.specs.Commands.{code, body, judge, shape, data_in_shape}
use Rattle.stk_frame.specs.HostCommands.{erase, program_page, program_eeprom_block, program_fuse, program_lock, read_flash_block, read_eeprom_block, read_fuse, read_lock, read_signature, read_calibration}
use Rattle.stk_host.specs.Places.{load_flash, load_eeprom}
use Rattle.stk_emu.specs.Effect.{Memories, Erase, Write, effects}
use Rattle.stk_emu.specs.StepData.{data_of_step}
use Rattle.stk_emu.specs.WriteOperations.{memories_after_step, image_at, IsStep, Erases, ProgramsPage, ProgramsEepromRun, ProgramsFuse, ProgramsLock, IsPage, FitsEepromPage, IsBlock, AreWords}
use Rattle.stk_emu.specs.WriteOperations as steps
use Rattle.stk_emu.proofs.Memories.Pages.{flash_address_back, page_even}
use Rattle.avr_tool.proofs.WriteOperations.Steps.{effect_twice, address_fits}
use Rattle.avr_laws.specs.Table.{Row, IsRow, load_body, fuse_memory, ErasesChip, WritesFlashPage, WritesEepromRun, WritesFuse, WritesLock, ReadsFlash, ReadsEeprom, ReadsFuse, ReadsLock, ReadsSignature, ReadsCalibration}
use Rattle.avr_laws.proofs.Table.GoodReplies.{Verdict, first_two, closed_is, bytes_is, closed_from}

-- ---- the good replies

-- a list of no bytes
pub no_bytes : (d : List ℕ) → length d ≡ 0 → d ≡ []
no_bytes [] none = refl
no_bytes (b ∷ d) none = absurd (omega (arith, none))

-- a reply without data
pub bare_reply : (c : Command) → shape c ≡ Bytes 0 → (reply d : List ℕ) → judge c reply ≡ Ok d
    → (reply ≡ code c ∷ 0 ∷ []) × (length d ≡ 0)
bare_reply c is reply d judged =
    let t = first_two c reply d judged in
    let b = bytes_is 0 t.0 d (ap (λ s. data_in_shape s t.0) (sym is) ∙ t.1.1) in
    (t.1.0 ∙ ap (λ (more : List ℕ). code c ∷ 0 ∷ more) (b.0 ∙ no_bytes d b.1), b.1)

-- a reply whose data end in a byte 0
pub closed_reply : (c : Command) (n : ℕ) → shape c ≡ Closed n → (reply d : List ℕ) → judge c reply ≡ Ok d
    → (reply ≡ code c ∷ 0 ∷ (d ++ (0 ∷ []))) × (length d ≡ n)
closed_reply c n is reply d judged =
    let t = first_two c reply d judged in
    let b = closed_is n t.0 d (ap (λ s. data_in_shape s t.0) (sym is) ∙ t.1.1) in
    (t.1.0 ∙ ap (λ (more : List ℕ). code c ∷ 0 ∷ more) b.0, b.1)

-- such a reply without data
closed_empty : (c : Command) → shape c ≡ Closed 0 → (reply d : List ℕ) → judge c reply ≡ Ok d
    → (reply ≡ code c ∷ 0 ∷ 0 ∷ []) × (length d ≡ 0)
closed_empty c is reply d judged =
    let t = closed_reply c 0 is reply d judged in
    (t.0 ∙ ap (λ (more : List ℕ). code c ∷ 0 ∷ (more ++ (0 ∷ []))) (no_bytes d t.1), t.1)

-- a reply without data
no_data : (d : List ℕ) → length d ≡ 0 → ◌≡◌ {A = Verdict} (Ok []) (Ok d)
no_data d e = ap Ok (sym (no_bytes d e))

-- ---- the row of a step

-- the bodies that a host sends for a row
abbrev pub bodies_for : Option ℕ → List ℕ → List (List ℕ)
bodies_for None command = command ∷ []
bodies_for (Some address) command = load_body address ∷ command ∷ []

abbrev pub bodies : Row → List (List ℕ)
bodies row = bodies_for row.address row.command

-- how the row's command is sent
abbrev pub IsSent : Option ℕ → Command → List Command → Type 0
IsSent None command commands = commands ≡ command ∷ []
IsSent (Some address) command commands = commands ≡ LoadAddress address ∷ command ∷ []

-- an address has 32 bits
abbrev pub Fits32 : Option ℕ → Type 0
Fits32 None = Unit {0}
Fits32 (Some address) = address < 2 ^ 32

-- the row of these commands
pub record RowFor (part : Part) (commands : List Command) : Type 0 where
  pub command : Command
  pub row : Row
  pub is_row : IsRow part row
  pub body_is : body command ≡ row.command
  pub is_sent : IsSent row.address command commands
  pub few : Fits32 row.address
  pub sent_as : map body commands ≡ bodies row
  pub writes : (x : Memories) → effects part row.writes x ≡ memories_after_step part commands x
  pub reads : (x : Memories) → row.reads x ≡ data_of_step part commands x
  pub twice : (x : Memories) → effects part row.writes (effects part row.writes x) ≡ effects part row.writes x
  pub good : (reply d : List ℕ) → judge command reply ≡ Ok d → (reply ≡ row.reply d) × (length d ≡ row.count)
  pub back : (d : List ℕ) → length d ≡ row.count → judge command (row.reply d) ≡ Ok d

module _ (part : Part) (sound : IsPart part) where
  -- the row of equal commands
  of_same : (written commands : List Command) → commands ≡ written → RowFor part written → RowFor part commands
  of_same written commands same row = subst (RowFor part) (sym same) row

  -- in the order of the fields
  built : {commands : List Command} (command : Command) (row : Row) → IsRow part row → body command ≡ row.command
      → IsSent row.address command commands → Fits32 row.address → map body commands ≡ bodies row
      → ((x : Memories) → effects part row.writes x ≡ memories_after_step part commands x)
      → ((x : Memories) → row.reads x ≡ data_of_step part commands x)
      → ((x : Memories) → effects part row.writes (effects part row.writes x) ≡ effects part row.writes x)
      → ((reply d : List ℕ) → judge command reply ≡ Ok d → (reply ≡ row.reply d) × (length d ≡ row.count))
      → ((d : List ℕ) → length d ≡ row.count → judge command (row.reply d) ≡ Ok d) → RowFor part commands
  built command row is_row body_is is_sent few sent_as writes reads twice good back = record {
    command = command;
    row = row;
    is_row = is_row;
    body_is = body_is;
    is_sent = is_sent;
    few = few;
    sent_as = sent_as;
    writes = writes;
    reads = reads;
    twice = twice;
    good = good;
    back = back;
  }

  -- what a write of a fuse does
  fuse_writes : (f : Fuse) (v : ℕ) (x : Memories)
      → effects part (Write (fuse_memory f) (Some v ∷ []) ∷ []) x ≡ memories_after_step part (program_fuse f v ∷ []) x
  fuse_writes Low v x = refl
  fuse_writes High v x = refl
  fuse_writes Extended v x = refl

  -- an erase
  for_erase : RowFor part (erase ∷ [])
  for_erase = built erase _ (ErasesChip refl) refl refl tt refl (λ x. refl) (λ x. refl) (effect_twice part Erase)
      (bare_reply erase refl) no_data

  -- a page of flash
  for_page : (page : ℕ) (bytes : List ℕ) → IsPage part page bytes
      → RowFor part (load_flash part (page * part.flash_page) ∷ program_page bytes ∷ [])
  for_page page bytes is_page =
      let most = sound.flash_most in
      let inside = is_page.inside in
      let few : page * part.flash_page < 4294967296 = omega (arith, most, inside) in
      let there = flash_address_back part (page * part.flash_page) few (page_even part sound page) in
      built (program_page bytes) _ (WritesFlashPage page bytes is_page.whole is_page.inside refl) refl refl
      (address_fits part sound (page * part.flash_page) few) refl
      (λ x. ap (λ (at : ℕ). effects part (Write Flash (image_at at bytes) ∷ []) x) (sym there)) (λ x. refl)
      (effect_twice part (Write Flash (image_at (page * part.flash_page) bytes))) (bare_reply (program_page bytes) refl)
      no_data

  -- a run of EEPROM
  for_run : (start : ℕ) (bytes : List ℕ) → FitsEepromPage part start bytes
      → RowFor part (load_eeprom start ∷ program_eeprom_block bytes ∷ [])
  for_run start bytes is_run =
      let most = sound.eeprom_most in
      let inside = is_run.inside in
      built (program_eeprom_block bytes) _ (WritesEepromRun start bytes is_run.some is_run.within is_run.inside refl)
      refl refl (omega (arith, most, inside)) refl (λ x. refl) (λ x. refl)
      (effect_twice part (Write Eeprom (image_at start bytes))) (bare_reply (program_eeprom_block bytes) refl) no_data

  -- a fuse
  for_fuse : (f : Fuse) (v : ℕ) → RowFor part (program_fuse f v ∷ [])
  for_fuse f v = built (program_fuse f v) _ (WritesFuse f v refl) refl refl tt refl (fuse_writes f v) (λ x. refl)
      (effect_twice part (Write (fuse_memory f) (Some v ∷ []))) (closed_empty (program_fuse f v) refl) no_data

  -- the lock
  for_lock : (v : ℕ) → RowFor part (program_lock v ∷ [])
  for_lock v = built (program_lock v) _ (WritesLock v refl) refl refl tt refl (λ x. refl) (λ x. refl)
      (effect_twice part (Write Lock (Some v ∷ []))) (closed_empty (program_lock v) refl) no_data

  -- reading flash
  for_flash_read : (start count : ℕ) → IsBlock part Flash start count → AreWords start count
      → RowFor part (load_flash part start ∷ read_flash_block count ∷ [])
  for_flash_read start count is_block words =
      let most = sound.flash_most in
      let inside = is_block.inside in
      let few : start < 4294967296 = omega (arith, most, inside) in
      let there = flash_address_back part start few words.start_even in
      built (read_flash_block count) _
      (ReadsFlash start count is_block.some is_block.few is_block.inside words.start_even words.count_even refl) refl
      refl (address_fits part sound start few) refl (λ x. refl)
      (λ x. ap (λ (at : ℕ). take count (drop at x.flash)) (sym there)) (λ x. refl)
      (closed_reply (read_flash_block count) count refl) (closed_from count)

  -- reading EEPROM
  for_eeprom_read : (start count : ℕ) → IsBlock part Eeprom start count
      → RowFor part (load_eeprom start ∷ read_eeprom_block count ∷ [])
  for_eeprom_read start count is_block =
      let most = sound.eeprom_most in
      let inside = is_block.inside in
      built (read_eeprom_block count) _ (ReadsEeprom start count is_block.some is_block.few is_block.inside refl) refl
      refl (omega (arith, most, inside)) refl (λ x. refl) (λ x. refl) (λ x. refl)
      (closed_reply (read_eeprom_block count) count refl) (closed_from count)

  -- reading a fuse
  for_fuse_read : (f : Fuse) → RowFor part (read_fuse f ∷ [])
  for_fuse_read f = built (read_fuse f) _ (ReadsFuse f refl) refl refl tt refl (λ x. refl) (λ x. (search rules))
      (λ x. refl) (closed_reply (read_fuse f) 1 refl) (closed_from 1)

  -- reading the lock
  for_lock_read : RowFor part (read_lock ∷ [])
  for_lock_read = built read_lock _ (ReadsLock refl) refl refl tt refl (λ x. refl) (λ x. refl) (λ x. refl)
      (closed_reply read_lock 1 refl) (closed_from 1)

  -- reading a byte of the signature
  for_signature : (place : ℕ) → place < 3 → RowFor part (read_signature place ∷ [])
  for_signature place few = built (read_signature place) _ (ReadsSignature place few refl) refl refl tt refl (λ x. refl)
      (λ x. refl) (λ x. refl) (closed_reply (read_signature place) 1 refl) (closed_from 1)

  -- reading the calibration
  for_calibration : RowFor part (read_calibration ∷ [])
  for_calibration = built read_calibration _ (ReadsCalibration refl) refl refl tt refl (λ x. refl) (λ x. refl)
      (λ x. refl) (closed_reply read_calibration 1 refl) (closed_from 1)

  -- the row of each step
  pub row_for : (commands : List Command) → IsStep part commands → RowFor part commands
  row_for commands (Erases e) = of_same _ commands e for_erase
  row_for commands (ProgramsPage number bytes is_page e) = of_same _ commands e (for_page number bytes is_page)
  row_for commands (ProgramsEepromRun address bytes is_run e) = of_same _ commands e (for_run address bytes is_run)
  row_for commands (ProgramsFuse f v e) = of_same _ commands e (for_fuse f v)
  row_for commands (ProgramsLock v e) = of_same _ commands e (for_lock v)
  row_for commands (steps.ReadsFlash start count is_block words e) =
      of_same _ commands e (for_flash_read start count is_block words)
  row_for commands (steps.ReadsEeprom start count is_block e) =
      of_same _ commands e (for_eeprom_read start count is_block)
  row_for commands (steps.ReadsFuse f e) = of_same _ commands e (for_fuse_read f)
  row_for commands (steps.ReadsLock e) = of_same _ commands e for_lock_read
  row_for commands (steps.ReadsSignature place few e) = of_same _ commands e (for_signature place few)
  row_for commands (steps.ReadsCalibration e) = of_same _ commands e for_calibration

-- ---- and each row is a step

abbrev pub StepFor : Part → Row → Type 0
StepFor part row =
    (commands : List Command) × IsStep part commands × (found : RowFor part commands) × (row ≡ found.row)

module _ (part : Part) (sound : IsPart part) where
  -- the step of each row
  pub step_for : (row : Row) → IsRow part row → StepFor part row
  unfolding for_erase for_page for_run for_fuse for_lock for_flash_read for_eeprom_read for_fuse_read for_lock_read
      for_signature for_calibration built
  step_for row (ErasesChip e) = (_, Erases refl, for_erase part sound, e)
  step_for row (WritesFlashPage page bytes whole inside e) =
      let is_page : IsPage part page bytes = record { whole = whole; inside = inside } in
      (_, ProgramsPage page bytes is_page refl, for_page part sound page bytes is_page, e)
  step_for row (WritesEepromRun start bytes some within inside e) =
      let is_run : FitsEepromPage part start bytes = record { some = some; within = within; inside = inside } in
      (_, ProgramsEepromRun start bytes is_run refl, for_run part sound start bytes is_run, e)
  step_for row (WritesFuse fuse byte e) = (_, ProgramsFuse fuse byte refl, for_fuse part sound fuse byte, e)
  step_for row (WritesLock byte e) = (_, ProgramsLock byte refl, for_lock part sound byte, e)
  step_for row (ReadsFlash start count some few inside even evens e) =
      let is_block : IsBlock part Flash start count = record { some = some; few = few; inside = inside } in
      let words : AreWords start count = record { start_even = even; count_even = evens } in
      (_, steps.ReadsFlash start count is_block words refl, for_flash_read part sound start count is_block words, e)
  step_for row (ReadsEeprom start count some few inside e) =
      let is_block : IsBlock part Eeprom start count = record { some = some; few = few; inside = inside } in
      (_, steps.ReadsEeprom start count is_block refl, for_eeprom_read part sound start count is_block, e)
  step_for row (ReadsFuse fuse e) = (_, steps.ReadsFuse fuse refl, for_fuse_read part sound fuse, e)
  step_for row (ReadsLock e) = (_, steps.ReadsLock refl, for_lock_read part sound, e)
  step_for row (ReadsSignature place few e) =
      (_, steps.ReadsSignature place few refl, for_signature part sound place few, e)
  step_for row (ReadsCalibration e) = (_, steps.ReadsCalibration refl, for_calibration part sound, e)
