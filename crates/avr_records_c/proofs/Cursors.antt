-- The numbers of a cursor give back its position, and pieces joined are the file.
use Rattle.std.proofs.lemmas.Grind.{common_steps}
use Rattle.std.proofs.lemmas.Bool.Decides.{nat_tests}
use Rattle.std.proofs.Common.{◌≡◌, ◌∙◌, ap, sym, arith, ℕ, ◌^◌, ◌<◌, min, List, [], ◌∷◌, length, take, drop, Bool, Option, Some, rules}
use Rattle.std.specs.Prelude.{if◌then◌else◌}
use Rattle.std.specs.List.{concat}
use Rattle.std.proofs.lemmas.Bool.{cases_lt}
use Rattle.std.proofs.lemmas.List.{drop_all, length-take-le, take_all, take-append-le, take-append-drop}
use Rattle.avr_records.specs.Sparse.{image_text}
use Rattle.avr_records.specs.Text.{width_of}
use Rattle.avr_records.specs.Writing.{text_left, text_from}
use Rattle.avr_records.specs.declared.address_size.AddressSize.{AddressSize}
use Rattle.avr_records.specs.declared.cursor.Cursor.{Cursor as Position}
use Rattle.avr_records.specs.declared.kind.Kind.{Kind}
use Rattle.avr_records.specs.declared.kind.Kind.TheVariants.{Srec}
use Rattle.avr_records_c.specs.Cursor.{ended_of, size_in_force, cursor_of}
use Rattle.avr_records_c.specs.Writing.{WriteCall, WroteFile, file_rest, file_start}
use Rattle.avr_records_c.specs.declared.cursor.Cursor.{Cursor}

-- 0 and 1 give back whether the file has ended
ended_back : (ended : Bool) → ended_of (if ended then 1 else 0) ≡ Some ended
ended_back x = grind (arith, nat_tests)

-- the number of bytes of an address gives back its size
size_back : (size : AddressSize) (image : List (Option ℕ)) → size_in_force Srec (width_of size) image ≡ Some size
size_back x image = grind (arith, nat_tests)

-- after the last byte it doesn't matter which address a position has
capped : (kind : Kind) (upper : ℕ) (size : AddressSize) (addr : ℕ) (image : List (Option ℕ)) → length image < 2 ^ 32
    → text_from kind upper size (min addr 4294967295) image ≡ text_from kind upper size addr image
capped kind upper size addr image few = grind (arith, nat_tests, cases_lt, drop_all)

-- the numbers of a cursor give back the text that is left
pub left_kept : (kind : Kind) (lines : Position) (gone : ℕ) (image : List (Option ℕ)) → lines.kind ≡ kind
    → length image < 2 ^ 32 → file_rest kind image (cursor_of lines gone) ≡ Some (drop gone (text_left lines image))
left_kept kind lines gone image is few = grind (arith, nat_tests, ended_back, capped, size_back)

-- at the beginning the whole file is left
pub starts : (kind : Kind) (image : List (Option ℕ)) → file_rest kind image file_start ≡ Some (image_text kind image)
starts x image = grind (arith, nat_tests)

-- the bytes that a call put are a prefix of those that were left
call_prefix : (kind : Kind) (image : List (Option ℕ)) (cursor next : Cursor) (piece : List ℕ)
    → (call : WriteCall kind image cursor next piece) → piece ≡ take (length piece) call.text
call_prefix kind image cursor next piece call = grind (arith, nat_tests, length-take-le, take-append-le, take_all)

-- pieces written one after the other are the text that was left
joins : (kind : Kind) (image : List (Option ℕ)) (cursor : Cursor) (pieces : List (List ℕ)) (text : List ℕ)
    → file_rest kind image cursor ≡ Some text → WroteFile kind image cursor pieces → concat pieces ≡ text
joins kind image cursor [] text is wrote = let same : Some [] ≡ Some text = sym wrote ∙ is in cc same
joins kind image cursor (piece ∷ more) text is (next, call, wrote) =
    let n : ℕ = length piece in
    let same : Some call.text ≡ Some text = sym call.left ∙ is in
    let text_is : call.text ≡ text = cc same in
    grind (
      arith,
      common_steps,
      call_prefix,
      take-append-drop,
      joins kind image next more (drop n call.text) (call.goes.left ∙ ap Some call.goes.puts.left) wrote,
    )

-- so the pieces from the beginning on are the file
pub pieces_join : (kind : Kind) (image : List (Option ℕ)) (pieces : List (List ℕ))
    → WroteFile kind image file_start pieces → concat pieces ≡ image_text kind image
pieces_join kind image pieces wrote = search (rules, joins, starts)
