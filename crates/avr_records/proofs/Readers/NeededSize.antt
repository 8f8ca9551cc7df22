-- The size that a file needs is the least memory into which it reads.
use Rattle.std.proofs.Common.{◌≡◌, refl, arith, ℕ, ◌+◌, ◌≤◌, List, [], ◌∷◌, length, map, max, flat_map, Option, None, Ok, rules}
use Rattle.std.proofs.lemmas.Bool.Decides.{nat_tests}
use Rattle.avr_records.specs.Lines.{lines}
use Rattle.avr_records.specs.Needed.{largest_memory, end_after, end_of_bytes, size_needed_in_text}
use Rattle.avr_records.specs.Reading.{LineResult, up_to_end, with_lines_before, bytes_of_lines, first_fault, fault_of_line, fault_under_base, bytes_of_line, bytes_under_base, first_outside, line_result, file_ending, image_in_text, ok_unless}
use Rattle.avr_image.specs.Image.{image_of_pairs}
use Rattle.avr_records.specs.declared.kind.Kind.{Kind}
use Rattle.avr_records.specs.declared.kind.Ending.{Ending}
use Rattle.avr_records.specs.declared.kind.AddressBase.{AddressBase}
use Rattle.avr_records.specs.declared.fault.RecordFault.{RecordFault}
use Rattle.avr_records.proofs.Readers.LaterLines.{or_later_none}
use Rattle.avr_records.proofs.Texts.Places.{first_outside_append, first_outside_parts}

-- if the end after all places is at most the size, no address is out of range
inside : (size end : ℕ) (places : List (ℕ × ℕ)) → end_after end places ≤ size
    → (end ≤ size) × (first_outside size places ≡ None)
inside size end [] l = (l, refl)
inside size end (p ∷ ps) l = grind (arith, nat_tests, inside size (max end (p.0 + 1)) ps l)

-- if no address is out of range, the end after all places is at most the size
end_is_inside : (size end : ℕ) (places : List (ℕ × ℕ)) → end ≤ size → first_outside size places ≡ None
    → end_after end places ≤ size
end_is_inside size end [] l none = l
end_is_inside size end (p ∷ ps) l none = grind (arith, nat_tests, end_is_inside size (max end (p.0 + 1)) ps)

-- a line without a fault in one memory has none in each memory that has its addresses
good : (size other : ℕ) (base : AddressBase) (count : ℕ) (line : LineResult) → fault_under_base size base count line
    ≡ None → first_outside other (bytes_under_base base line) ≡ None → fault_under_base other base count line ≡ None
good size other base count line none lies_in = search rules

-- lines without a fault in one memory have none in each memory that has their addresses
stay_sound : (size other : ℕ) (taken : List (List LineResult × LineResult)) → first_fault size taken ≡ None
    → first_outside other (flat_map bytes_of_line taken) ≡ None → first_fault other taken ≡ None
stay_sound size other [] none lies_in = refl
stay_sound size other (p ∷ ps) none lies_in =
    let parts = or_later_none (length p.0 + 1) (fault_of_line size p) (first_fault size ps) none in
    let both = first_outside_parts other (bytes_of_line p) (flat_map bytes_of_line ps) lies_in in
    search (rules, stay_sound size other ps parts.1 both.1)

-- lines without a fault have no address out of range
none_outside : (size : ℕ) (taken : List (List LineResult × LineResult)) → first_fault size taken ≡ None
    → first_outside size (flat_map bytes_of_line taken) ≡ None
none_outside size [] none = refl
none_outside size (p ∷ ps) none =
    let parts = or_later_none (length p.0 + 1) (fault_of_line size p) (first_fault size ps) none in
    search (rules, first_outside_append, none_outside size ps parts.1)

-- a size without a fault is the size, and there is no fault
needed_is_sound : (fault : Option RecordFault) (size needed : ℕ) → ok_unless fault size ≡ Ok needed
    → (fault ≡ None) × (size ≡ needed)
needed_is_sound fault size needed is = search rules

-- a text that was read has no fault
read_is_sound : (fault : Option RecordFault) (good read : List (Option ℕ) × Ending) → ok_unless fault good ≡ Ok read
    → fault ≡ None
read_is_sound fault good read is = search rules

-- the results of the lines of a text that count
abbrev taken_of : Kind → List ℕ → List LineResult
taken_of kind text = up_to_end (map (line_result kind) (lines text))

-- a memory of the needed size or more reads the text
pub enough : (kind : Kind) (text : List ℕ) (needed size : ℕ) → size_needed_in_text kind text ≡ Ok needed → needed ≤ size
    → (read : List (Option ℕ) × Ending) × (image_in_text kind text size ≡ Ok read)
enough kind text needed size is l =
    let taken : List LineResult = taken_of kind text in
    let fault = first_fault largest_memory (with_lines_before [] taken) in
    let parts = needed_is_sound fault (end_of_bytes (bytes_of_lines taken)) needed is in
    let all_inside = (inside size 0 (bytes_of_lines taken) (rw parts.1 l)).1 in
    let none = stay_sound largest_memory size (with_lines_before [] taken) parts.0 all_inside in
    ((image_of_pairs size (bytes_of_lines taken), file_ending (map (line_result kind) (lines text))), rw none refl)

-- a memory that reads the text has at least the needed size
pub least : (kind : Kind) (text : List ℕ) (size : ℕ) (read : List (Option ℕ) × Ending) → size ≤ largest_memory
    → image_in_text kind text size ≡ Ok read
    → (needed : ℕ) × (size_needed_in_text kind text ≡ Ok needed) × (needed ≤ size)
least kind text size read l is =
    let taken : List LineResult = taken_of kind text in
    let none = read_is_sound (first_fault size (with_lines_before [] taken)) _ read is in
    let lies_in = none_outside size (with_lines_before [] taken) none in
    let reach = end_is_inside size 0 (bytes_of_lines taken) (omega arith) lies_in in
    let all_inside = (inside largest_memory 0 (bytes_of_lines taken) (omega (arith, l, reach))).1 in (
      end_of_bytes (bytes_of_lines taken),
      rw (stay_sound size largest_memory (with_lines_before [] taken) none all_inside) refl,
      reach,
    )
