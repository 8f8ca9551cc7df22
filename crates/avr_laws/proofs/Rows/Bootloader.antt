-- A bootloader that erases elsewhere is a reader. A worked run over it meets all premises, and the first image is gone.
use Rattle.std.proofs.Common.{◌≡◌, ◌+◌, ◌%◌, ◌<◌, ◌≤◌, ℕ, zero, suc, Bool, cond, List, [], ◌∷◌, ◌++◌, length, take, drop, refl, sym, ap, ap₂, subst, arith, inl, Some, None, rules}
use Rattle.std.proofs.lemmas.List.{append_cancel_right}
use Rattle.std.proofs.lemmas.List.Elements.{All-cons, All-nil, All-head, All-tail}
use Rattle.std.specs.List.{concat}
use Rattle.std.specs.Prelude.{slice_index}
use Rattle.byteorder.specs.Endian.{big_bytes}
use Rattle.avr_part.specs.Memory.{AreBytes}
use Rattle.avr_part.specs.Part.{Part, IsPart}
use Rattle.stk_emu.proofs.Memories.Pages.{flash_address_back}
use Rattle.stk_emu.specs.Effect.{Memories}
use Rattle.stk_emu.specs.Settled.{FitsPart}
use Rattle.stk_emu.specs.StepData.{HoldsImage}
use Rattle.stk_frame.specs.declared.command.Fuse.TheVariants.{Low, High, Extended}
use Rattle.stk_host.specs.Places.{flash_address}
use Rattle.avr_tool.proofs.WriteOperations.Items.{effect_sizes}
use Rattle.avr_tool.proofs.WriteOperations.Steps.{address_fits}
use Rattle.avr_session.specs.Session.{session}
use Rattle.stk_host.specs.Dialog.{frames_in, played}
use Rattle.stk_host.specs.Operations.{handshake, opening, closing, operation}
use Rattle.stk_host.specs.Steps.{exchange, attempt, attempts_or_fault, play}
use Rattle.stk_host.specs.Tape.{answer}
use Rattle.avr_laws.proofs.Lines.NoneForgedTest.{by_test}
use Rattle.avr_laws.specs.AnyTape.{ReceivedSentFrames, after_sent_frames}
use Rattle.avr_laws.specs.Kept.{NoneForged}
use Rattle.avr_laws.specs.WorkedLoss.{loss_part}
use Rattle.avr_laws.specs.Reader.{IsReader, ReadsOneOf}
use Rattle.avr_laws.specs.Table.{IsDoneOrNot, IsRow, Row, reading, ReadsFlash, ReadsFuse, ReadsSignature}
use Rattle.avr_laws.specs.WorkedBootloader.{Bootloader, FitsBoot, boot_before, boot_executions, boot_frames, boot_plan, boot_replies, IsRead, after_body, bootloader, erased, first_image, with_page}
use Rattle.avr_laws.proofs.Rows.Loss.{is_part}

-- ---- it keeps the sizes

-- an erase of some bytes keeps the length
erased_length : (start count : ℕ) (more : List ℕ) → length (erased start count more) ≡ length more
erased_length start count [] = refl
erased_length (suc start) count (byte ∷ more) = ap suc (erased_length start count more)
erased_length zero (suc count) (byte ∷ more) = ap suc (erased_length zero count more)
erased_length zero zero (byte ∷ more) = refl

-- what it leaves are bytes
erased_bytes : (start count : ℕ) (more : List ℕ) → AreBytes more → AreBytes (erased start count more)
erased_bytes start count [] bytes = bytes
erased_bytes (suc start) count (byte ∷ more) bytes =
    All-cons (λ b. b < 256) byte (erased start count more) (All-head (λ b. b < 256) byte more bytes)
    (erased_bytes start count more (All-tail (λ b. b < 256) byte more bytes))
erased_bytes zero (suc count) (byte ∷ more) bytes =
    All-cons (λ b. b < 256) 255 (erased zero count more) (omega arith)
    (erased_bytes zero count more (All-tail (λ b. b < 256) byte more bytes))
erased_bytes zero zero (byte ∷ more) bytes = bytes

-- memories that fit, by a test
if_fits : (part : Part) (test : Bool) (x y : Memories) → FitsPart part x → FitsPart part y
    → FitsPart part (cond test x y)
if_fits part test x y f g = search rules

module _ (part : Part) (sound : IsPart part) where
  -- they fit after a page is written
  page_fits : (bytes : List ℕ) (b : Bootloader) → FitsBoot part b → FitsPart part (with_page part bytes b)
  page_fits bytes b fits = search (rules, effect_sizes, erased_length, erased_bytes)

  -- and after any command
  stays_sound : (body : List ℕ) (b : Bootloader) → FitsBoot part b → FitsBoot part (after_body part body b)
  stays_sound body b fits = search (rules, if_fits, page_fits)

  -- ---- it reads truly

  -- the bootloader does a row, or doesn't
  abbrev Done : Row → Bootloader → Type 0
  Done row b = IsDoneOrNot (bootloader part) (λ b. b.memories) (FitsBoot part) part row b

  -- of an equal row
  by_row : (row other : Row) (b : Bootloader) → row ≡ other → Done other b → Done row b
  by_row row other b e done = subst (λ r. Done r b) (sym e) done

  -- a refusal isn't a good reply
  refusal : (code : ℕ) (more : List ℕ) → code ∷ 0xC0 ∷ [] ≡ code ∷ 0 ∷ more → ⊥
  refusal code more e = let status = ap (λ (xs : List ℕ). slice_index xs 1) e in omega (arith, status)

  -- a reply with a block is true
  is_block : (on : Bool) (code : ℕ) (block read : List ℕ)
      → cond on (code ∷ 0 ∷ (block ++ 0 ∷ [])) (code ∷ 0xC0 ∷ []) ≡ code ∷ 0 ∷ (read ++ 0 ∷ []) → read ≡ block
  is_block on code block read e = search (rules, append_cancel_right, refusal)

  -- a block of flash
  reads_block : (start count : ℕ) (b : Bootloader) → FitsBoot part b → start + count ≤ part.flash_size → start % 2 ≡ 0
      → count ≤ 256
      → Done (reading (Some (flash_address part start)) (0x14 ∷ (big_bytes 2 count ++ 0x20 ∷ [])) count
      (λ x. take count (drop start x.flash)) 0x14) b
  reads_block start count b f inside even few = search (rules, address_fits, flash_address_back, is_block, ap₂, refusal)

  -- a byte of the signature
  reads_place : (place : ℕ) (b : Bootloader) → FitsBoot part b
      → Done (reading None (0x1B ∷ 4 ∷ 0x30 ∷ 0x00 ∷ place ∷ 0x00 ∷ []) 1 (λ x. take 1 (drop place part.signature))
      0x1B) b
  reads_place place b f = record {
    loaded = record { memories = refl; is = f };
    either = λ loaded. inl (record { memories = refl; is = f });
    good = λ loaded read long e. (
      is_block b.programming 0x1B (take 1 (drop place part.signature)) read e,
      record { memories = refl; is = f },
    );
    restarted = λ address is. absurd (cc is);
  }

  -- so the rows that it may read are done
  of_row : (row : Row) (b : Bootloader) (is : IsRow part row) → ReadsOneOf IsRead part row is b.memories
      → FitsPart part b.memories → FitsBoot part b → Done row b
  of_row row b (ReadsFlash start count some few inside even evens is) reads fits f = search (rules, by_row, reads_block)
  of_row row b (ReadsSignature place few is) reads fits f = by_row row _ b is (reads_place place b f)
  of_row row b (ReadsFuse Low is) reads fits f = absurd reads
  of_row row b (ReadsFuse High is) reads fits f = absurd reads
  of_row row b (ReadsFuse Extended is) reads fits f = absurd reads
  of_row row b is reads fits f = absurd reads

  -- so it is a reader
  pub boot_reads : IsReader part (bootloader part) (λ b. b.memories) (FitsBoot part) IsRead
  boot_reads = record {
    keeps = record {
      signs_on = λ b f. record { memories = refl; is = f };
      enters = λ b f. record { memories = refl; is = f };
      leaves = λ b f. record { memories = refl; is = f };
      restarts = λ b f. record { memories = refl; is = f };
      entered = λ b f e. f;
      ready_in = λ b f. f;
      entered_again = λ b f. f;
      restarted = λ b f. f;
      rows = of_row;
    };
    stays = stays_sound;
    sizes = λ b f. f;
  }

-- ---- the run over it

-- also for the part of the example
pub tiny_reads : IsReader loss_part (bootloader loss_part) (λ b. b.memories) (FitsBoot loss_part) IsRead
tiny_reads = boot_reads loss_part is_part

-- the run ends with status 0
pub ends_with_0 : (played (session boot_plan) 1 boot_replies).outcome ≡ Some (0, 15, [])
unfolding session opening handshake operation closing play attempts_or_fault attempt exchange answer
ends_with_0 = refl

-- it sends these frames
pub sends_frames : frames_in (played (session boot_plan) 1 boot_replies).events ≡ boot_frames
unfolding session opening handshake operation closing play attempts_or_fault attempt exchange answer
sends_frames = refl

-- the bootloader is one of the part before it
pub starts_sound : FitsBoot loss_part boot_before
starts_sound = search (rules, All-cons, All-nil)

-- all frames came
pub frames_came : ReceivedSentFrames (concat boot_frames) [] boot_frames boot_executions
frames_came = record { good = refl }

-- none of the replies is forged
pub none_is_forged : NoneForged (bootloader loss_part) boot_frames boot_replies boot_before boot_executions []
unfolding answer
none_is_forged = by_test (bootloader loss_part) boot_frames boot_replies boot_before boot_executions [] refl

-- what the flash has then
pub flash_is : (after_sent_frames (bootloader loss_part) boot_frames boot_executions boot_before).memories.flash
    ≡ 0xFF ∷ 0xFF ∷ 0xFF ∷ 0xFF ∷ 0x56 ∷ 0x78 ∷ 0xFF ∷ 0xFF ∷ []
flash_is = refl

-- so nothing can be said of what was compared before another write
first_gone : HoldsImage first_image (0xFF ∷ 0xFF ∷ 0xFF ∷ 0xFF ∷ 0x56 ∷ 0x78 ∷ 0xFF ∷ 0xFF ∷ []) → ⊥
first_gone holds = let byte = holds 0 0x12 refl (omega arith) in omega (arith, byte)
