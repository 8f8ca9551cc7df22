-- A worked run over a bootloader that erases elsewhere: `-p tiny -D -U flash:w:a.hex:i -U flash:w:b.hex:i`. Before it
-- writes a page it erases the page that it counts, so the second image's page costs the first one's.
use Rattle.std.specs.Prelude.{ℕ, zero, suc, Bool, true, false, ◌+◌, ◌*◌, ◌%◌, ◌/◌, ◌^◌, ◌==◌, ◌&&◌, List, [], ◌∷◌, ◌++◌, None, Some, codes, drop, replicate, slice_index, take, if◌then◌else◌}
use Rattle.std.specs.List.{concat}
use Rattle.byteorder.specs.Endian.{big_number}
use Rattle.avr_part.specs.Part.{Part}
use Rattle.avr_part.specs.declared.part.Mem.{Mem}
use Rattle.avr_part.specs.declared.part.Mem.TheVariants.{Flash, Signature}
use Rattle.avr_plan.specs.Plan.{Plan}
use Rattle.avr_plan.specs.declared.planned.Task.TheVariants.{Write}
use Rattle.avr_laws.specs.Worked.{worked_settings}
use Rattle.avr_laws.specs.WorkedLoss.{loss_part}
use Rattle.stk_emu.specs.Device.{Device}
use Rattle.stk_emu.specs.Effect.{Image, Memories, effect}
use Rattle.stk_emu.specs.Effect as item
use Rattle.stk_emu.specs.Exchange.{Execution, Executed}
use Rattle.stk_emu.specs.Settled.{FitsPart}
use Rattle.stk_emu.specs.WriteOperations.{image_at}
use Rattle.stk_frame.specs.Frame.{frame}
use Rattle.stk_host.specs.Tape.{Tape, on_tape}
use Rattle.avr_laws.specs.Table.{block, enter_body, leave_body, sign_on_body}

-- The bootloader: whether it is in programming mode, the address that was loaded, and the page that it erases next.
pub record Bootloader : Type 0 where
  pub programming : Bool
  pub address : ℕ
  pub page : ℕ
  pub memories : Memories

-- FF in place of so many bytes from this one on.
abbrev pub erased : ℕ → ℕ → List ℕ → List ℕ
erased start count [] = []
erased (suc start) count (x ∷ xs) = x ∷ erased start count xs
erased zero (suc count) (x ∷ xs) = 255 ∷ erased zero count xs
erased zero zero (x ∷ xs) = x ∷ xs

-- The memories after a page is written: the page that is next is erased, and the bytes are put to the address.
abbrev pub with_page : Part → List ℕ → Bootloader → Memories
with_page part bytes b =
    effect part (item.Write Flash (image_at (b.address % 2 ^ 31 * 2) bytes)) (record b.memories {
      flash = erased (b.page % (part.flash_size / part.flash_page) * part.flash_page) part.flash_page b.memories.flash;
    })

-- It replies to SIGN_ON, LOAD_ADDRESS, ENTER and LEAVE, and in programming mode to the reading of flash and signature,
-- and to the writing of flash. It refuses all else.
abbrev pub boot_reply : Part → List ℕ → Bootloader → List ℕ
boot_reply part body b =
    let code = slice_index body 0 in
    if code == 0x01 then 0x01 ∷ 0 ∷ 8 ∷ codes "STK500_2"
    else if code == 0x06 then 0x06 ∷ 0 ∷ []
    else if code == 0x10 then 0x10 ∷ 0 ∷ []
    else if code == 0x11 then 0x11 ∷ 0 ∷ []
    else if code == 0x13 && b.programming then 0x13 ∷ 0 ∷ []
    else if code == 0x14 && b.programming
    then 0x14 ∷ 0 ∷ (take (big_number 2 (drop 1 body)) (drop (b.address % 2 ^ 31 * 2) b.memories.flash) ++ 0 ∷ [])
    else if code == 0x1B && b.programming
    then 0x1B ∷ 0 ∷ (take 1 (drop (slice_index body 4) part.signature) ++ 0 ∷ [])
    else code ∷ 0xC0 ∷ []

-- This body writes a page.
abbrev pub writes_page : List ℕ → Bootloader → Bool
writes_page body b = slice_index body 0 == 0x13 && b.programming

-- What a command does to it.
abbrev pub after_body : Part → List ℕ → Bootloader → Bootloader
after_body part body b =
    let code = slice_index body 0 in
    record {
      programming = if code == 0x10 then true else if code == 0x11 then false else b.programming;
      address = if code == 0x06 then big_number 4 (drop 1 body) else b.address;
      page = if writes_page body b then b.page + 1 else b.page;
      memories = if writes_page body b then with_page part (drop 10 body) b else b.memories;
    }

-- It as a device: a restart ends programming mode, and keeps the page that is next.
abbrev pub bootloader : Part → Device Bootloader
bootloader part = record {
  reply = boot_reply part;
  after = after_body part;
  reset = λ b. record b { programming = false; address = 0 };
}

-- Its memories have the part's sizes.
abbrev pub FitsBoot : Part → Bootloader → Type 0
FitsBoot part b = FitsPart part b.memories

-- Of its chip only flash and the signature can be read.
abbrev pub IsRead : Mem → Type 0
IsRead Flash = Unit {0}
IsRead Signature = Unit {0}
IsRead mem = ⊥

-- ---- the run

-- Before it the flash is empty, and the second page is the next to be erased.
abbrev pub boot_before : Bootloader
boot_before = record {
  programming = false;
  address = 0;
  page = 1;
  memories = record {
    flash = replicate 8 255;
    eeprom = replicate 2 255;
    lfuse = 0x62;
    hfuse = 0xD9;
    efuse = 0xFF;
    lock = 0xFF;
  };
}

-- Each image has two bytes, at the beginning of a page.
abbrev pub first_image : Image
first_image = Some 0x12 ∷ Some 0x34 ∷ replicate 6 None

-- The second one has the second page.
abbrev pub second_image : Image
second_image = replicate 4 None ++ Some 0x56 ∷ Some 0x78 ∷ replicate 2 None

-- The plan writes both, without an erase of the chip.
abbrev pub boot_plan : Plan
boot_plan = record {
  part = loss_part;
  tasks = Write Flash first_image ∷ Write Flash second_image ∷ [];
  switches = record worked_settings.switches { keep_flash = true };
}

-- The frames of these bodies, from this number on.
abbrev numbered : ℕ → List (List ℕ) → List (List ℕ)
numbered n [] = []
numbered n (body ∷ bodies) = frame n body ∷ numbered (n + 1) bodies

-- A read of the signature's byte at this place.
abbrev reads_signature : ℕ → List ℕ
reads_signature place = 0x1B ∷ 4 ∷ 0x30 ∷ 0x00 ∷ place ∷ 0x00 ∷ []

-- LOAD_ADDRESS of this address, in words.
abbrev loads : ℕ → List ℕ
loads address = 0x06 ∷ 0 ∷ 0 ∷ 0 ∷ address ∷ []

-- READ_FLASH of eight bytes.
abbrev reads_flash : List ℕ
reads_flash = 0x14 ∷ 0 ∷ 8 ∷ 0x20 ∷ []

-- The frames sent, all of which arrive, and the replies.
abbrev pub boot_frames : List (List ℕ)
boot_frames =
    numbered 1 (sign_on_body ∷ enter_body ∷ reads_signature 0 ∷ reads_signature 1 ∷ reads_signature 2 ∷ loads 0
    ∷ block 0x13 0x40 0x4C 0x20 (0x12 ∷ 0x34 ∷ 0xFF ∷ 0xFF ∷ []) ∷ loads 0 ∷ reads_flash ∷ loads 2
    ∷ block 0x13 0x40 0x4C 0x20 (0x56 ∷ 0x78 ∷ 0xFF ∷ 0xFF ∷ []) ∷ loads 0 ∷ reads_flash ∷ leave_body ∷ [])

-- What became of the frames.
abbrev pub boot_executions : List Execution
boot_executions = replicate 14 Executed

-- The replies: each command succeeds.
abbrev pub boot_replies : Tape
boot_replies = on_tape (concat (numbered 1 (
    (0x01 ∷ 0 ∷ 8 ∷ codes "STK500_2") ∷ (0x10 ∷ 0 ∷ []) ∷ (0x1B ∷ 0 ∷ 0x1E ∷ 0 ∷ []) ∷ (0x1B ∷ 0 ∷ 0x90 ∷ 0 ∷ [])
    ∷ (0x1B ∷ 0 ∷ 0x07 ∷ 0 ∷ []) ∷ (0x06 ∷ 0 ∷ []) ∷ (0x13 ∷ 0 ∷ []) ∷ (0x06 ∷ 0 ∷ [])
    ∷ (0x14 ∷ 0 ∷ 0x12 ∷ 0x34 ∷ (replicate 6 0xFF ++ 0 ∷ [])) ∷ (0x06 ∷ 0 ∷ []) ∷ (0x13 ∷ 0 ∷ []) ∷ (0x06 ∷ 0 ∷ [])
    ∷ (0x14 ∷ 0 ∷ (replicate 4 0xFF ++ 0x56 ∷ 0x78 ∷ 0xFF ∷ 0xFF ∷ 0 ∷ [])) ∷ (0x11 ∷ 0 ∷ []) ∷ []
    )))
