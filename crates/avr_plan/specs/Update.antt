-- The update that the text of `-U` means: MEMORY:OP:FILE[:FORMAT], or a file alone for flash.
use Rattle.std.specs.Prelude.{◌≡◌, ◌⊎◌, ◌==◌, ◌-◌, ◌&&◌, ℕ, nat_le, List, [], ◌∷◌, ◌++◌, Option, Some, None, Result, Ok, Err, IsOk}
use Rattle.std.specs.Prelude.{codes, length, take, slice_index, find, unwrap_or, ok_or, if◌then◌else◌}
use Rattle.std.specs.Option.{option_map_or}
use Rattle.std.specs.Str.{bytes_eq}
use Rattle.avr_part.specs.Mem.{name_of, memory_named}
use Rattle.avr_part.specs.declared.part.Mem.{Mem}
use Rattle.avr_part.specs.declared.part.Mem.TheVariants.{Flash}
use Rattle.avr_part.specs.PartFile.{Bytes, ◌>>=◌}
use Rattle.avr_plan.specs.Split.{colon, split_first}
use Rattle.avr_plan.specs.declared.update.Op.{Op}
use Rattle.avr_plan.specs.declared.update.Op.TheVariants.{Read, Write, Verify}
use Rattle.avr_plan.specs.declared.update.Format.{Format}
use Rattle.avr_plan.specs.declared.update.Format.TheVariants.{Auto, Ihex, Srec, Raw, Immediate, Decimal, Hexadecimal, Octal, Binary}
use Rattle.avr_plan.specs.declared.update.Update.{Update}
use Rattle.avr_plan.specs.declared.update.UpdateFault.{UpdateFault}
use Rattle.avr_plan.specs.declared.update.UpdateFault.TheVariants.{BadMemory, BadOp, BadFormat, NoFile, Memory}

-- the wanted result, or allocation failed for what is an update
abbrev pub GivesUpdateUnlessOutOfMemory : Result Update UpdateFault → Result Update UpdateFault → Type 0
GivesUpdateUnlessOutOfMemory want got = (got ≡ want) ⊎ (IsOk want × (got ≡ Err Memory))

-- the letter of an operation
abbrev pub op_name : Op → Bytes
op_name Read = codes "r"
op_name Write = codes "w"
op_name Verify = codes "v"

-- the operation with this letter
abbrev pub op_named : Bytes → Option Op
op_named name = find (λ op. bytes_eq name (op_name op)) (Read ∷ Write ∷ Verify ∷ [])

-- the letter of a format
abbrev pub letter_of : Format → ℕ
letter_of Auto = 97
letter_of Ihex = 105
letter_of Srec = 115
letter_of Raw = 114
letter_of Immediate = 109
letter_of Decimal = 100
letter_of Hexadecimal = 104
letter_of Octal = 111
letter_of Binary = 98

-- the formats of output files, and of input files
abbrev pub formats_of : Op → List Format
formats_of Read = Ihex ∷ Srec ∷ Raw ∷ Decimal ∷ Hexadecimal ∷ Octal ∷ Binary ∷ []
formats_of op = Ihex ∷ Srec ∷ Raw ∷ Immediate ∷ Auto ∷ []

-- the format with this letter, if the operation can have it; without a letter the default one
abbrev pub format_of : Op → Option ℕ → Option Format
format_of op (Some letter) = find (λ format. letter_of format == letter) (formats_of op)
format_of Read None = Some Raw
format_of op None = Some Auto

-- the file, and the format's letter if the last byte but one is a colon
abbrev pub file_and_letter : Bytes → Bytes × Option ℕ
file_and_letter rest =
    if nat_le 2 (length rest) && slice_index rest (length rest - 2) == colon
    then (take (length rest - 2) rest, Some (slice_index rest (length rest - 1)))
    else (rest, None)

-- an update with this file and format
abbrev pub update_by : Mem → Op → Bytes × Option ℕ → Result Update UpdateFault
update_by memory op named = do
  format ← if length named.0 == 0 then Err NoFile else ok_or (format_of op named.1) BadFormat
  Ok (record { memory = memory; op = op; format = format; file = named.0 })

-- an update with this operation's name, and what follows its colon
abbrev pub update_with_op : Mem → Bytes → Bytes → Result Update UpdateFault
update_with_op memory op rest = ok_or (op_named op) BadOp >>= (λ op. update_by memory op (file_and_letter rest))

-- what follows a memory's colon: the operation up to the next colon, or the end, and the file after it
abbrev pub update_after : Mem → Bytes → Result Update UpdateFault
update_after memory after = let p = unwrap_or (split_first after) (after, []) in update_with_op memory p.0 p.1

-- a text without a colon is a file, written to flash in the format that its first bytes show
abbrev pub update_of : Bytes → Result Update UpdateFault
update_of text =
    option_map_or (λ parts. ok_or (memory_named parts.0) BadMemory >>= (λ memory. update_after memory parts.1))
    (split_first text) (update_by Flash Write (text, None))

-- the text of an update with all four parts
abbrev pub update_text : Mem → Op → Bytes → ℕ → Bytes
update_text memory op file letter = name_of memory ++ (colon ∷ (op_name op ++ (colon ∷ (file ++ colon ∷ letter ∷ []))))
