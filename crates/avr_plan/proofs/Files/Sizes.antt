-- The size of an image that was read from a file.
use Rattle.std.proofs.Common.{◌≡◌, sym, ℕ, List, length, nat_le, Option, Ok, inl, inr, rules}
use Rattle.std.proofs.lemmas.Bool.{cases_Bool}
use Rattle.std.proofs.lemmas.List.{length-replicate}
use Rattle.avr_plan.specs.declared.update.Format.{Format}
use Rattle.avr_image.proofs.Lemmas.{laid_size, from_zero_is_a_span}
use Rattle.avr_io.specs.Record.{Bytes}
use Rattle.avr_records.specs.declared.kind.Ending.{Ending}
use Rattle.avr_records.specs.declared.kind.Found.{Found}
use Rattle.avr_plan.specs.ImageFile.{image_of_file, image_within, kind_of}

-- An optional byte for each address.
abbrev Image : Type 0
Image = List (Option ℕ)

-- The image of a whole file has the size of the memory.
whole-size : (found : Found) (bytes : Bytes) (size : ℕ) (p : Image × Ending) → image_of_file found bytes size ≡ Ok p
    → length p.0 ≡ size
whole-size found bytes size p is = search (rules, from_zero_is_a_span, laid_size, length-replicate)

-- The image of a file within a limit has the size of the memory.
pub image-size : (limit : ℕ) (format : Format) (bytes : Bytes) (size : ℕ) (image : Image) (last : Ending)
    → Ok (image, last) ≡ image_within limit format bytes size → length image ≡ size
image-size limit format bytes size image last is =
    elim (cases_Bool (nat_le (length bytes) limit)) [
      | inl t ↦
          let whole : image_of_file (kind_of format bytes) bytes size ≡ Ok (image, last) = sym (rw t at is) in
          whole-size (kind_of format bytes) bytes size (image, last) whole
      | inr f ↦ cc (rw f at is)
    ]
