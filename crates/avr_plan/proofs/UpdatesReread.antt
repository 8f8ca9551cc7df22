-- The text of an update reads back as the update.
use Rattle.std.proofs.lemmas.Grind.{common_steps}
use Rattle.std.proofs.Common.{◌≡◌, ◌≢◌, arith, ℕ, false, ◌==◌, [], ◌∷◌, ◌++◌, length, rules}
use Rattle.std.proofs.Common.{Some, Ok}
use Rattle.std.proofs.lemmas.Bool.Decides.{nat_tests}
use Rattle.std.proofs.lemmas.List.{length-append, get_or-append-add}
use Rattle.std.proofs.Math.Seq.{get_or-append_seam, take-append_seam}
use Rattle.avr_part.specs.declared.part.Mem.{Mem}
use Rattle.avr_part.specs.PartFile.{Bytes}
use Rattle.avr_plan.specs.Split.{colon}
use Rattle.avr_plan.specs.Update.{file_and_letter, format_of, op_name, update_by, update_of, update_after, update_text}
use Rattle.avr_plan.specs.declared.update.Format.{Format}
use Rattle.avr_plan.specs.declared.update.Op.{Op}

-- A file with a colon and a letter after it is cut into these.
pub file_and_letter-append : (file : Bytes) (letter : ℕ)
    → file_and_letter (file ++ colon ∷ letter ∷ []) ≡ (file, Some letter)
file_and_letter-append file letter =
    grind (arith, common_steps, nat_tests, length-append, get_or-append_seam, get_or-append-add, take-append_seam)

-- The name of an operation and a colon are read as this operation.
of_op : (memory : Mem) (op : Op) (rest : Bytes)
    → update_after memory (op_name op ++ colon ∷ rest) ≡ update_by memory op (file_and_letter rest)
of_op memory op rest = search rules

-- A text that is not empty has a length other than 0.
pub not_empty : (text : Bytes) → text ≢ [] → (length text == 0) ≡ false
not_empty text some = grind (arith, common_steps, nat_tests)

-- The text of an update reads back as the update.
pub update_is_read : (memory : Mem) (op : Op) (file : Bytes) (letter : ℕ) (format : Format) → file ≢ []
    → format_of op (Some letter) ≡ Some format → update_of (update_text memory op file letter)
    ≡ Ok (record { memory = memory; op = op; format = format; file = file })
update_is_read memory op file letter format some is = search (rules, of_op, file_and_letter-append)
