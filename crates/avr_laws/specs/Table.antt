-- A PROGRAMMER AS A TABLE: what each command of the tool does to the memories of the chip, and what its reply says. Each
-- row can be held against AVR068 and a data sheet, and tried at a board.
use Rattle.std.specs.Prelude.{ℕ, ◌+◌, ◌*◌, ◌%◌, ◌<◌, ◌≤◌, ◌≡◌, ◌⊎◌, List, [], ◌∷◌, ◌++◌, length, take, drop, Option, Some, None}
use Rattle.byteorder.specs.Endian.{big_bytes}
use Rattle.avr_part.specs.declared.part.Mem.{Mem}
use Rattle.avr_part.specs.declared.part.Mem.TheVariants.{Flash, Eeprom, Lfuse, Hfuse, Efuse, Lock}
use Rattle.avr_part.specs.Part.{Part}
use Rattle.stk_emu.specs.Device.{Device}
use Rattle.stk_emu.specs.Effect.{Item, Erase, Write, Memories, effects, memory_in}
use Rattle.stk_emu.specs.Settled.{FitsPart}
use Rattle.stk_emu.specs.WriteOperations.{image_at}
use Rattle.stk_frame.specs.declared.command.Fuse.{Fuse}
use Rattle.stk_frame.specs.declared.command.Fuse.TheVariants.{Low, High, Extended}
use Rattle.stk_frame.specs.HostCommands.{write_address, read_instruction}
use Rattle.stk_host.specs.Places.{flash_address}

-- A row: a command of programming mode, what it writes, what it reads, how many bytes that is, and the good reply with
-- what was read. If the row has an address, LOAD_ADDRESS gives it just before the command.
pub record Row : Type 0 where
  pub address : Option ℕ
  pub command : List ℕ
  pub writes : List Item
  pub reads : Memories → List ℕ
  pub count : ℕ
  pub reply : List ℕ → List ℕ

-- A command that writes; below, one that reads this many bytes. A good reply begins with the code and status 0. Data
-- are followed by one more status 0.
abbrev pub writing : Option ℕ → List ℕ → Item → List ℕ → Row
writing address command item reply = record {
  address = address;
  command = command;
  writes = item ∷ [];
  reads = λ x. [];
  count = 0;
  reply = λ read. reply;
}

-- A row that reads these bytes, by this command and code.
abbrev pub reading : Option ℕ → List ℕ → ℕ → (Memories → List ℕ) → ℕ → Row
reading address command count reads code = record {
  address = address;
  command = command;
  writes = [];
  reads = reads;
  count = count;
  reply = λ read. code ∷ 0 ∷ (read ++ 0 ∷ []);
}

-- A command that writes a block: the bytes are loaded by the first of these SPI instructions, written as a page by the
-- second, and the third reads a byte.
abbrev pub block : ℕ → ℕ → ℕ → ℕ → List ℕ → List ℕ
block code cmd1 cmd2 cmd3 bytes =
    code ∷ (big_bytes 2 (length bytes) ++ 0xC1 ∷ 0x0A ∷ cmd1 ∷ cmd2 ∷ cmd3 ∷ 0xFF ∷ 0xFF ∷ bytes)

-- The memory of a fuse.
abbrev pub fuse_memory : Fuse → Mem
fuse_memory Low = Lfuse
fuse_memory High = Hfuse
fuse_memory Extended = Efuse

-- THE TABLE.
pub data IsRow (part : Part) (row : Row) : Type 0 where
  ErasesChip : row ≡ writing None (0x12 ∷ 0x09 ∷ 0x00 ∷ 0xAC ∷ 0x80 ∷ 0x00 ∷ 0x00 ∷ []) Erase (0x12 ∷ 0 ∷ [])
      → IsRow part row
  WritesFlashPage : (page : ℕ) (bytes : List ℕ) → length bytes ≡ part.flash_page
      → page * part.flash_page + part.flash_page ≤ part.flash_size
      → row ≡ writing (Some (flash_address part (page * part.flash_page))) (block 0x13 0x40 0x4C 0x20 bytes)
      (Write Flash (image_at (page * part.flash_page) bytes)) (0x13 ∷ 0 ∷ []) → IsRow part row
  WritesEepromRun : (start : ℕ) (bytes : List ℕ) → 0 < length bytes
      → start % part.eeprom_page + length bytes ≤ part.eeprom_page → start + length bytes ≤ part.eeprom_size
      → row ≡ writing (Some start) (block 0x15 0xC1 0xC2 0xA0 bytes) (Write Eeprom (image_at start bytes))
      (0x15 ∷ 0 ∷ []) → IsRow part row
  WritesFuse : (fuse : Fuse) (byte : ℕ)
      → row ≡ writing None (0x17 ∷ 0xAC ∷ write_address fuse ∷ 0x00 ∷ byte ∷ [])
      (Write (fuse_memory fuse) (Some byte ∷ [])) (0x17 ∷ 0 ∷ 0 ∷ []) → IsRow part row
  WritesLock : (byte : ℕ) → row ≡ writing None (0x19 ∷ 0xAC ∷ 0xE0 ∷ 0x00 ∷ byte ∷ []) (Write Lock (Some byte ∷ []))
      (0x19 ∷ 0 ∷ 0 ∷ []) → IsRow part row
  ReadsFlash : (start count : ℕ) → 0 < count → count ≤ 256 → start + count ≤ part.flash_size → start % 2 ≡ 0
      → count % 2 ≡ 0 → row ≡ reading (Some (flash_address part start)) (0x14 ∷ (big_bytes 2 count ++ 0x20 ∷ [])) count
      (λ x. take count (drop start x.flash)) 0x14 → IsRow part row
  ReadsEeprom : (start count : ℕ) → 0 < count → count ≤ 256 → start + count ≤ part.eeprom_size
      → row ≡ reading (Some start) (0x16 ∷ (big_bytes 2 count ++ 0xA0 ∷ [])) count
      (λ x. take count (drop start x.eeprom)) 0x16 → IsRow part row
  ReadsFuse : (fuse : Fuse) → row ≡ reading None (0x18 ∷ 4 ∷ read_instruction fuse) 1
      (memory_in part (fuse_memory fuse)) 0x18 → IsRow part row
  ReadsLock : row ≡ reading None (0x1A ∷ 4 ∷ 0x58 ∷ 0x00 ∷ 0x00 ∷ 0x00 ∷ []) 1 (λ x. x.lock ∷ []) 0x1A
      → IsRow part row
  ReadsSignature : (place : ℕ) → place < 3 → row ≡ reading None (0x1B ∷ 4 ∷ 0x30 ∷ 0x00 ∷ place ∷ 0x00 ∷ []) 1
      (λ x. take 1 (drop place part.signature)) 0x1B → IsRow part row
  ReadsCalibration : row ≡ reading None (0x1C ∷ 4 ∷ 0x38 ∷ 0x00 ∷ 0x00 ∷ 0x00 ∷ []) 1 (λ x. 255 ∷ []) 0x1C
      → IsRow part row

-- The programmer has these memories, and is in a state of this kind.
pub record Stands {P : Type 0} (view : P → Memories) (Is : P → Type 0) (x : Memories) (p : P) : Type 0 where
  pub memories : view p ≡ x
  pub is : Is p

-- The body of LOAD_ADDRESS.
abbrev pub load_body : ℕ → List ℕ
load_body address = 0x06 ∷ big_bytes 4 address

-- The programmer when the row's command comes, if it didn't restart; and LOAD_ADDRESS had the good reply.
abbrev pub addressed : {P : Type 0} → Device P → Option ℕ → P → P
addressed m None p = p
addressed m (Some address) p = m.after (load_body address) p

-- LOAD_ADDRESS had the good reply, if the row has an address.
abbrev pub IsLoaded : {P : Type 0} → Device P → Option ℕ → P → Type 0
IsLoaded m None p = Unit {0}
IsLoaded m (Some address) p = m.reply (load_body address) p ≡ 0x06 ∷ 0 ∷ []

-- The row's command isn't done here, and its reply isn't the good one.
pub record RefusesRow {P : Type 0} (m : Device P) (view : P → Memories) (IsReady : P → Type 0) (row : Row)
    (p : P) : Type 0 where
  pub kept : Stands view IsReady (view p) (m.after row.command p)
  pub bad : (read : List ℕ) → length read ≡ row.count → m.reply row.command p ≡ row.reply read → ⊥

-- From this state the row is done, or not done at all. If its reply is the good one with some data, it was done, and
-- these are the data. This is asked only after a good reply to LOAD_ADDRESS, which itself changes no memory. A command
-- that needs an address is refused right after a restart (or a restart changes nothing).
pub record IsDoneOrNot {P : Type 0} (m : Device P) (view : P → Memories) (IsReady : P → Type 0) (part : Part)
    (row : Row) (p : P) : Type 0 where
  pub loaded : Stands view IsReady (view p) (addressed m row.address p)
  pub either : IsLoaded m row.address p → Stands view IsReady (view p) (m.after row.command (addressed m row.address p))
      ⊎ Stands view IsReady (effects part row.writes (view p)) (m.after row.command (addressed m row.address p))
  pub good : IsLoaded m row.address p → (read : List ℕ) → length read ≡ row.count
      → m.reply row.command (addressed m row.address p) ≡ row.reply read → (read ≡ row.reads (view p))
      × Stands view IsReady (effects part row.writes (view p)) (m.after row.command (addressed m row.address p))
  pub restarted : (address : ℕ) → row.address ≡ Some address
      → (m.reset p ≡ p) ⊎ RefusesRow m view IsReady row (m.reset p)

-- The bodies of SIGN_ON, ENTER_PROGMODE_ISP and LEAVE_PROGMODE_ISP.
abbrev pub sign_on_body : List ℕ
sign_on_body = 0x01 ∷ []

abbrev pub enter_body : List ℕ
enter_body =
    0x10 ∷ 0xC8 ∷ 0x64 ∷ 0x19 ∷ 0x20 ∷ 0x00 ∷ 0x53 ∷ 0x03 ∷ 0xAC ∷ 0x53 ∷ 0x00 ∷ 0x00 ∷ []

abbrev pub leave_body : List ℕ
leave_body = 0x11 ∷ 0x01 ∷ 0x01 ∷ []

-- A PROGRAMMER OF A PART: a device that keeps each row of the table that is vouched for, given the memories before.
-- `view` is what the chip's memories are. `IsIn` are the programmer's states. `IsReady` are those from a good ENTER on,
-- also after a restart: no byte is loaded for a page.
pub record IsProgrammer {P : Type 0} (part : Part) (m : Device P) (view : P → Memories) (IsIn IsReady : P → Type 0)
    (Vouched : (row : Row) → IsRow part row → Memories → Type 0) : Type 0 where
  -- these, and a restart, change no memory
  pub signs_on : (p : P) → IsIn p → Stands view IsIn (view p) (m.after sign_on_body p)
  pub enters : (p : P) → IsIn p → Stands view IsIn (view p) (m.after enter_body p)
  pub leaves : (p : P) → IsIn p → Stands view IsIn (view p) (m.after leave_body p)
  pub restarts : (p : P) → IsIn p → Stands view IsIn (view p) (m.reset p)
  -- after ENTER with the good reply it is ready, and stays so at a restart and at another ENTER
  pub entered : (p : P) → IsIn p → m.reply enter_body p ≡ 0x10 ∷ 0 ∷ [] → IsReady (m.after enter_body p)
  pub ready_in : (p : P) → IsReady p → IsIn p
  pub entered_again : (p : P) → IsReady p → IsReady (m.after enter_body p)
  pub restarted : (p : P) → IsReady p → IsReady (m.reset p)
  pub rows : (row : Row) (p : P) (is : IsRow part row) → Vouched row is (view p) → FitsPart part (view p) → IsReady p
      → IsDoneOrNot m view IsReady part row p
