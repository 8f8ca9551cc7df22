-- The image that values on the command line make, if their reader finds no fault.
use Rattle.std.proofs.Common.{◌≡◌, ◌∙◌, ◌+◌, ◌≤◌, ◌<◌, ap, subst, ℕ, suc, List, [], ◌∷◌, length, refl, Some, Option, Result, Ok, Err, Bool, true, false, arith, rules}
use Rattle.std.proofs.lemmas.Bool.{and_parts}
use Rattle.std.proofs.lemmas.Bool.Decides.{nat_tests}
use Rattle.std.proofs.lemmas.List.{length-map}
use Rattle.std.specs.List.{list_all, enumerate_from}
use Rattle.std.specs.Prelude.{map, nat_lt, ◌==◌, if◌then◌else◌}
use Rattle.avr_image.specs.Image.{from_zero}
use Rattle.avr_image.specs.Values.{all_ok, byte_of_value, fitting, image_of_bytes, image_of_values, onto_ok, pieces, value_of}
use Rattle.avr_laws.specs.HeldImage.{HoldsValues}
use Rattle.avr_image.specs.declared.fault.ImageFault.{ImageFault}
use Rattle.avr_image.specs.declared.fault.ImageFault.TheVariants.{BadNumber}

-- these texts are these bytes, which fit into the memory from this address on
record AreFitting (size addr : ℕ) (texts : List (List ℕ)) (bytes : List ℕ) : Type 0 where
  are : map value_of texts ≡ map (λ (byte : ℕ). Some byte) bytes
  are_bytes : list_all (λ (byte : ℕ). nat_lt byte 256) bytes ≡ true
  ends : length texts ≡ length bytes
  last : 0 < length bytes → addr + length bytes ≤ size

-- this value is a byte, at an address inside the memory
record Fits (size addr byte : ℕ) (o : Option ℕ) : Type 0 where
  is : o ≡ Some byte
  is_byte : nat_lt byte 256 ≡ true
  before : addr < size

value_fits : (size addr byte : ℕ) (o : Option ℕ) → fitting size addr o ≡ Ok byte → Fits size addr byte o
value_fits size addr byte o is = search rules

-- the first value was read, and so were the rest
record BothRead (first : Result ℕ ImageFault) (rest : Result (List ℕ) ImageFault) (bytes : List ℕ) : Type 0 where
  byte : ℕ
  more : List ℕ
  byte_is : first ≡ Ok byte
  more_are : rest ≡ Ok more
  is : byte ∷ more ≡ bytes

both_read : (first : Result ℕ ImageFault) (rest : Result (List ℕ) ImageFault) (bytes : List ℕ)
    → onto_ok first rest ≡ Ok bytes → BothRead first rest bytes
both_read first rest bytes is = grind (arith)

-- one address further the rest fits, too
rest_fits : (addr n size : ℕ) → addr < size → (0 < n → (addr + 1) + n ≤ size) → addr + suc n ≤ size
rest_fits addr n size one more = search rules

-- values that are read fit
all_fit : (size addr : ℕ) (texts : List (List ℕ)) (bytes : List ℕ)
    → all_ok (map (byte_of_value size) (enumerate_from addr texts)) ≡ Ok bytes → AreFitting size addr texts bytes
all_fit size addr [] bytes is = search rules
all_fit size addr (text ∷ texts) bytes is =
    let read = both_read (fitting size addr (value_of text))
    (all_ok (map (byte_of_value size) (enumerate_from (addr + 1) texts))) bytes is in
    let first = value_fits size addr read.byte (value_of text) read.byte_is in
    let rest = all_fit size (addr + 1) texts read.more read.more_are in
    subst (AreFitting size addr (text ∷ texts)) read.is (record {
      are = search rules;
      are_bytes = search (rules, first.is_byte, rest.are_bytes);
      ends = search (rules, rest.ends);
      last = λ some. rest_fits addr (length read.more) size first.before rest.last;
    })

-- at least one value was given, and they make this image
record AreGiven (empty : Bool) (all : Result (List ℕ) ImageFault) (size : ℕ) (image : List (Option ℕ)) : Type 0 where
  bytes : List ℕ
  some : empty ≡ false
  all_are : all ≡ Ok bytes
  is : image ≡ from_zero bytes size

values_given : (empty : Bool) (all : Result (List ℕ) ImageFault) (size : ℕ) (image : List (Option ℕ))
    → (if empty then Err (BadNumber 1) else image_of_bytes size all) ≡ Ok image → AreGiven empty all size image
values_given empty all size image is = grind (arith)

-- the image that is read is the one that the values hold
pub held_values : (text : List ℕ) (size : ℕ) (image : List (Option ℕ)) → image_of_values text size ≡ Ok image
    → HoldsValues text size image
held_values text size image is =
    let values = pieces text in
    let these = values_given (length values == 0) (all_ok (map (byte_of_value size) (enumerate_from 0 values)))
    size image is in
    let fit = all_fit size 0 values these.bytes these.all_are in
    search rules

-- and conversely

-- a value that fits is read
one_read : (size addr byte : ℕ) → nat_lt byte 256 ≡ true → addr < size → fitting size addr (Some byte) ≡ Ok byte
one_read size addr byte is_byte before = search (rules, nat_tests)

-- values that fit are read
all_read : (size addr : ℕ) (texts : List (List ℕ)) (bytes : List ℕ)
    → map value_of texts ≡ map (λ (byte : ℕ). Some byte) bytes → list_all (λ (byte : ℕ). nat_lt byte 256) bytes ≡ true
    → addr + length bytes ≤ size → all_ok (map (byte_of_value size) (enumerate_from addr texts)) ≡ Ok bytes
all_read size addr [] [] are are_bytes last = refl
all_read size addr [] (byte ∷ bytes) are are_bytes last = absurd (cc are)
all_read size addr (text ∷ texts) [] are are_bytes last = absurd (cc are)
all_read size addr (text ∷ texts) (byte ∷ bytes) are are_bytes last =
    let are_small = and_parts (nat_lt byte 256) (list_all (λ (byte : ℕ). nat_lt byte 256) bytes) are_bytes in
    let first : value_of text ≡ Some byte = cc are in
    let rest : map value_of texts ≡ map (λ (byte : ℕ). Some byte) bytes = cc are in
    ap (λ (o : Option ℕ). onto_ok (fitting size addr o) (all_ok (map (byte_of_value size) (enumerate_from (addr + 1)
    texts)))) first
    ∙ (ap (λ (r : Result ℕ ImageFault). onto_ok r (all_ok (map (byte_of_value size) (enumerate_from (addr + 1) texts))))
    (one_read size addr byte are_small.0 (omega arith))
    ∙ ap (onto_ok (Ok byte)) (all_read size (addr + 1) texts bytes rest are_small.1 (omega arith)))

pub values_read : (text : List ℕ) (size : ℕ) (image : List (Option ℕ)) → HoldsValues text size image
    → image_of_values text size ≡ Ok image
values_read text size image (bytes, are, are_bytes, some, last, is) = search (rules, all_read, nat_tests, length-map)
