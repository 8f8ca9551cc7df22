-- An image file that is read in pieces.
use Rattle.std.proofs.Common.{◌≡◌, ◌∙◌, sym, ap, arith, ℕ, ◌+◌, ◌≤◌, ◌<◌, ◌++◌, length, take, false, nat_le, Ok, Err, append_assoc, length-append, rules}
use Rattle.std.proofs.Math.Seq.{take-append-add}
use Rattle.std.proofs.lemmas.Bool.Decides.{nat_tests}
use Rattle.std.proofs.lemmas.List.{take-take, take-append-le}
use Rattle.avr_io.proofs.FilePieces.{read_next, read_piece}
use Rattle.avr_plan.specs.declared.update.Format.{Format}
use Rattle.avr_io.specs.Files.{FileBreaks, after_reading}
use Rattle.avr_io.specs.Record.{DeskState, ChangesRecord, after_open, after_read, Bytes}
use Rattle.avr_io.specs.declared.files.FileFault.TheVariants.{NotRead}
use Rattle.avr_records.specs.Detect.{format_of_file}
use Rattle.avr_records.specs.declared.kind.Found.{Found}
use Rattle.avr_plan.specs.ImageFile.{ImageOrBadFile, image_of_file, fault_of_long_file, kind_of}
use Rattle.avr_plan.specs.ImageReading.{ImageOrFault, BreaksReading, MatchRead, ReadsImage, ReadsRest}
use Rattle.avr_plan.specs.Intake.{WasFed}
use Rattle.avr_plan.specs.declared.intake.BadFile.{BadFile}
use Rattle.avr_plan.specs.declared.image_file.ReadFault.TheVariants.{File, Image}
use Rattle.avr_plan.specs.declared.intake.Intake.{Intake}

-- ---- the rest of a file

-- The open file gave some bytes, and all were fed. Their count and `left` add up to `room`.
pub record FedSoFar (old now : DeskState) (first last : Intake) (room left : ℕ) : Type 0 where
  pub bytes : Bytes
  pub kept : ChangesRecord (after_reading bytes false) old now
  pub feeds : (found : Found) (size : ℕ) (text : Bytes) → WasFed found size first text
      → WasFed found size last (text ++ bytes)
  pub count : length bytes + left ≡ room

-- one pass of the loop of `read_rest`: a read gave n more bytes
module _ (old now new : DeskState) (first last : Intake) (room left n : ℕ) (buf : Bytes)
    (going : FedSoFar old now first last room left) (then : ChangesRecord (after_read buf (Ok n)) now new) where
  -- After this read the bytes so far, with those that it gave, were fed.
  pub going_on : (next : Intake) (rest : ℕ) → (n ≡ 0 → ⊥) → length (take n buf) + rest ≡ left
      → ((found : Found) (size : ℕ) (text : Bytes) → WasFed found size last text
      → WasFed found size next (text ++ take n buf)) → FedSoFar old new first next room rest
  going_on next rest some count feeds = record {
    bytes = going.bytes ++ take n buf;
    kept = read_piece old.kept now.kept new.kept going.bytes buf n going.kept then some;
    feeds = search (rules, append_assoc);
    count = omega (arith, going.count, length-append going.bytes (take n buf));
  }

  module _ (limit : ℕ) (found : Found) (size : ℕ) (before : Bytes) (was_fed : WasFed found size first before)
      (count : length before + room ≡ limit) where
    -- The end was seen: the result is that of all bytes.
    pub rest_ends : (result : ImageOrFault) → n ≡ 0 → 0 < length buf
        → ((found : Found) (size : ℕ) (text : Bytes) → WasFed found size last text
        → MatchRead (λ given. given ≡ image_of_file found text size) (λ fault. ⊥) result)
        → MatchRead (ReadsRest limit found size before old new) (BreaksReading old new) result
    rest_ends result zero some gives = search (rules, length-append, read_next)

    -- More bytes came than the limit allows: the fault is that of a longer file.
    pub rest_long : (bad : BadFile) → left < n → n ≤ length buf → length buf ≤ 4096
        → ((found : Found) (size : ℕ) (text : Bytes) → WasFed found size last text
        → bad ≡ fault_of_long_file found (text ++ take left buf) size)
        → ReadsRest limit found size before old new (Err bad)
    rest_long bad more fits most gives =
        let bytes = going.bytes ++ take n buf in
        let all = before ++ going.bytes in
        let whole : before ++ bytes ≡ all ++ take n buf = sym (append_assoc before going.bytes (take n buf)) in
        let len : length (before ++ bytes) ≡ length before + length going.bytes + n = search (rules, length-append) in
        let sum : length (before ++ bytes) + left ≡ limit + n = omega (arith, len, going.count, count) in
        let past : nat_le (length (before ++ bytes)) limit ≡ false = grind (arith, nat_tests) in
        let together : length all + left ≡ limit =
        omega (arith, going.count, count, length-append before going.bytes) in
        let prefix : take limit (before ++ bytes) ≡ all ++ take left buf =
        ap (take limit) whole ∙ (search (rules, take-append-add, take-take)) in
        record {
          bytes = bytes;
          ended = false;
          kept = search (rules, read_piece);
          whole = (omega (arith, sum, more), omega (arith, sum, fits, most));
          gives = search rules;
        }

-- ---- a whole file

-- The first 1,024 bytes decide the detected format.
detected-prefix : (prefix more : Bytes) → length prefix ≡ 1024 → format_of_file (prefix ++ more) ≡ format_of_file prefix
detected-prefix prefix more len = search (rules, take-append-le, more, len)

-- The first 1,024 bytes decide the kind of a file.
pub kind-prefix : (format : Format) (prefix more : Bytes) → length prefix ≡ 1024
    → kind_of format (prefix ++ more) ≡ kind_of format prefix
kind-prefix format prefix more len = search (rules, detected-prefix)

-- A file of which the first bytes were read, and then the rest, was read.
open_rest : (limit : ℕ) (format : Format) (size : ℕ) (name prefix : Bytes) (old mid now new : DeskState)
    (given : ImageOrBadFile) → ChangesRecord (after_open name (Ok tt)) old mid
    → ChangesRecord (after_reading prefix false) mid now → length prefix ≡ 1024
    → ReadsRest limit (kind_of format prefix) size prefix now new given → ReadsImage limit format size name old new
    given
open_rest limit format size name prefix old mid now new given opened first len rest = record {
  bytes = prefix ++ rest.bytes;
  ended = rest.ended;
  kept = read_next mid.kept now.kept new.kept prefix rest.bytes rest.ended first rest.kept
      ∙ ap (after_reading (prefix ++ rest.bytes) rest.ended) opened;
  whole = rest.whole;
  gives = search (rules, kind-prefix);
}

-- If the first bytes were read, and then the rest, the file was; if reading the rest failed, reading the file did.
pub image_is_rest : (limit : ℕ) (format : Format) (size : ℕ) (name prefix : Bytes) (old mid now new : DeskState)
    (result : ImageOrFault) → ChangesRecord (after_open name (Ok tt)) old mid
    → ChangesRecord (after_reading prefix false) mid now → length prefix ≡ 1024
    → MatchRead (ReadsRest limit (kind_of format prefix) size prefix now new) (BreaksReading now new) result
    → MatchRead (ReadsImage limit format size name old new) (FileBreaks name old new) result
image_is_rest limit format size name prefix old mid now new (Ok good) opened first len rest = search (rules, open_rest)
image_is_rest limit format size name prefix old mid now new (Err (Image bad)) opened first len rest =
    search (rules, open_rest)
image_is_rest limit format size name prefix old mid now new (Err (File NotRead)) opened first len rest = (
  prefix ++ rest.1,
  read_next mid.kept now.kept new.kept prefix rest.1 false first rest.2
      ∙ ap (after_reading (prefix ++ rest.1) false) opened,
)
image_is_rest limit format size name prefix old mid now new (Err (File fault)) opened first len rest = cc rest.0
