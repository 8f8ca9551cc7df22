-- The addresses of a data record's bytes, and whether a memory has them.
use Rattle.std.proofs.Common.{◌≡◌, ap, refl, sym, arith, ℕ, ◌+◌, ◌*◌, ◌%◌, ◌<◌, ◌≤◌, List, [], ◌∷◌, ◌++◌, length, map, take, drop, Option, Some, None, Result, Ok, Err, max, false, true, rules}
use Rattle.std.proofs.lemmas.Bool.Decides.{nat_tests}
use Rattle.std.proofs.lemmas.List.{length-take-le, length-drop, take-append-drop, take_rest}
use Rattle.std.proofs.lemmas.List.Sums.{fold-append}
use Rattle.std.specs.List.{enumerate_from}
use Rattle.std.specs.Prelude.{OnOk, if◌then◌else◌}
use Rattle.avr_image.specs.Image.{fits, with_pairs}
use Rattle.avr_image.specs.declared.fault.ImageFault.{ImageFault}
use Rattle.avr_image.specs.declared.fault.ImageFault.TheVariants.{OutOfRange}
use Rattle.avr_records.specs.Reading.{address, places, first_outside}
use Rattle.avr_records.specs.Judging.{FitsKind}
use Rattle.avr_records.specs.Laying.{IsEndOrOutOfRange, StartsInRange}
use Rattle.avr_records.specs.Needed.{end_after}
use Rattle.avr_records.specs.Steps.{HasBase}
use Rattle.avr_records.specs.declared.kind.AddressBase.{AddressBase}
use Rattle.avr_records.specs.declared.kind.AddressBase.TheVariants.{Linear, Segment}
use Rattle.avr_records.specs.declared.kind.Kind.{Kind}
use Rattle.avr_records.specs.declared.line.Line.TheVariants.{Data}

-- the bytes of a record from the ith on, with their addresses
abbrev places_from : AddressBase → ℕ → ℕ → List ℕ → List (ℕ × ℕ)
places_from base offset i bytes = map (λ p. (address base offset p.0, p.1)) (enumerate_from i bytes)

-- ---- the addresses

-- under a linear base the addresses follow each other from any byte on
pub linear_from : (upper offset i : ℕ) (bytes : List ℕ) (addr : ℕ) → addr ≡ upper * 65536 + offset + i
    → places_from (Linear upper) offset i bytes ≡ enumerate_from addr bytes
linear_from upper offset i [] addr is = refl
linear_from upper offset i (b ∷ bs) addr is =
    grind (arith, nat_tests, linear_from upper offset (i + 1) bs (addr + 1) (omega (arith, is)))

-- under a linear base the addresses follow each other
pub places_linear : (upper offset : ℕ) (bytes : List ℕ)
    → places (Linear upper) offset bytes ≡ enumerate_from (upper * 65536 + offset) bytes
places_linear upper offset bytes = linear_from upper offset 0 bytes (upper * 65536 + offset) (omega arith)

-- within a segment they do so from any byte on
segment_from : (paragraph offset i : ℕ) (bytes : List ℕ) (addr : ℕ) → addr ≡ paragraph * 16 + (offset + i) % 65536
    → (offset + i) % 65536 + length bytes ≤ 65536
    → places_from (Segment paragraph) offset i bytes ≡ enumerate_from addr bytes
segment_from paragraph offset i [] addr is room = refl
segment_from paragraph offset i (b ∷ []) addr is room = ap (λ (n : ℕ). (n, b) ∷ []) (sym is)
segment_from paragraph offset i (b ∷ c ∷ bs) addr is room =
    let next : (offset + (i + 1)) % 65536 ≡ (offset + i) % 65536 + 1 = omega (arith, room) in
    grind (arith, nat_tests, next, segment_from paragraph offset (i + 1) (c ∷ bs) (addr + 1))

-- they do so within a segment too
pub places_segment : (paragraph offset : ℕ) (bytes : List ℕ) → offset % 65536 + length bytes ≤ 65536
    → places (Segment paragraph) offset bytes ≡ enumerate_from (paragraph * 16 + offset % 65536) bytes
places_segment paragraph offset bytes room = grind (arith, nat_tests, segment_from)

-- the addresses of two lists of bytes are those of the first, then those of the second
places_from_append : (base : AddressBase) (offset i : ℕ) (xs ys : List ℕ)
    → places_from base offset i (xs ++ ys) ≡ places_from base offset i xs ++ places_from base offset (i + length xs) ys
places_from_append base offset i [] ys = ap (λ (n : ℕ). places_from base offset n ys) (omega arith)
places_from_append base offset i (x ∷ xs) ys = grind (arith, nat_tests, places_from_append base offset (i + 1) xs ys)

-- past the end of a segment they go on at its beginning
pub places_wrapped : (paragraph offset : ℕ) (before behind : List ℕ) → offset % 65536 + length before ≡ 65536
    → length behind ≤ 65536 → places (Segment paragraph) offset (before ++ behind)
    ≡ enumerate_from (paragraph * 16 + offset % 65536) before ++ enumerate_from (paragraph * 16) behind
places_wrapped paragraph offset before behind full short = grind (arith, nat_tests, places_from_append, segment_from)

-- the same, cut at the segment's end
pub places_wrapped_at : (paragraph offset n : ℕ) (bytes : List ℕ) → offset % 65536 + n ≡ 65536 → n ≤ length bytes
    → length bytes ≤ 255 → places (Segment paragraph) offset bytes
    ≡ enumerate_from (paragraph * 16 + offset % 65536) (take n bytes) ++ enumerate_from (paragraph * 16) (drop n bytes)
places_wrapped_at paragraph offset n bytes full inside short =
    let wrapped = places_wrapped paragraph offset (take n bytes) (drop n bytes) in
    grind (arith, nat_tests, length-take-le, length-drop, take-append-drop, wrapped)

-- ---- the first address out of range

-- if the first list has no address out of range, the second one decides
pub first_outside_append : (size : ℕ) (xs ys : List (ℕ × ℕ)) → first_outside size xs ≡ None
    → first_outside size (xs ++ ys) ≡ first_outside size ys
first_outside_append size [] ys none = refl
first_outside_append size (x ∷ xs) ys none = grind (arith, nat_tests, first_outside_append size xs ys)

-- an address of the first list that is out of range is the first of both
pub first_outside_first : (size : ℕ) (xs ys : List (ℕ × ℕ)) (addr : ℕ) → first_outside size xs ≡ Some addr
    → first_outside size (xs ++ ys) ≡ Some addr
first_outside_first size [] ys addr found = cc found
first_outside_first size (x ∷ xs) ys addr found = grind (arith, nat_tests, first_outside_first size xs ys addr)

-- if no address of two lists is out of range, none of either list is
pub first_outside_parts : (size : ℕ) (xs ys : List (ℕ × ℕ)) → first_outside size (xs ++ ys) ≡ None
    → (first_outside size xs ≡ None) × (first_outside size ys ≡ None)
first_outside_parts size [] ys none = (refl, none)
first_outside_parts size (x ∷ xs) ys none = grind (arith, nat_tests, first_outside_parts size xs ys)

-- a span inside the memory has no address out of range
first_outside_span : (size addr : ℕ) (bytes : List ℕ) → fits addr bytes size ≡ true
    → first_outside size (enumerate_from addr bytes) ≡ None
first_outside_span size addr [] inside = refl
first_outside_span size addr (b ∷ []) inside = grind (arith, nat_tests)
first_outside_span size addr (b ∷ c ∷ bs) inside =
    grind (arith, nat_tests, first_outside_span size (addr + 1) (c ∷ bs))

-- a span that isn't inside is out of range at its first address, or at the size
first_outside_span_end : (size addr : ℕ) (bytes : List ℕ) → fits addr bytes size ≡ false
    → first_outside size (enumerate_from addr bytes) ≡ Some (max addr size)
first_outside_span_end size addr [] outside = cc outside
first_outside_span_end size addr (b ∷ []) outside = grind (arith, nat_tests)
first_outside_span_end size addr (b ∷ c ∷ bs) outside =
    grind (arith, nat_tests, first_outside_span_end size (addr + 1) (c ∷ bs))

-- the end of a span is the end after all its addresses
end_past_span : (end addr : ℕ) (bytes : List ℕ) → 0 < length bytes
    → max end (addr + length bytes) ≡ end_after end (enumerate_from addr bytes)
end_past_span end addr [] some = absurd (omega (arith, some))
end_past_span end addr (b ∷ []) some = refl
end_past_span end addr (b ∷ c ∷ bs) some =
    grind (arith, nat_tests, end_past_span (max end (addr + 1)) (addr + 1) (c ∷ bs) (omega arith))

-- ---- how far spans reach

-- a span up to the limit gives the larger end
pub extends_inside : (limit end addr : ℕ) (bytes : List ℕ) → 0 < length bytes → addr + length bytes ≤ limit
    → IsEndOrOutOfRange limit end (enumerate_from addr bytes) (Ok (max end (addr + length bytes)))
extends_inside limit end addr bytes some l = search (rules, first_outside_span, nat_tests, end_past_span)

-- a span beyond the limit gives its first address at the limit or above
pub extends_outside : (limit end addr : ℕ) (bytes : List ℕ) → 0 < length bytes → limit < addr + length bytes
    → IsEndOrOutOfRange limit end (enumerate_from addr bytes) (Err (max addr limit))
extends_outside limit end addr bytes some l = search (rules, first_outside_span_end, nat_tests)

-- one span, then another
pub extends_both : (limit end mid : ℕ) (xs ys : List (ℕ × ℕ)) (result : Result ℕ ℕ)
    → IsEndOrOutOfRange limit end xs (Ok mid) → IsEndOrOutOfRange limit mid ys result → IsEndOrOutOfRange limit end (xs
    ++ ys) result
extends_both limit end mid xs ys result first second = search (rules, first_outside_append, fold-append)

-- ---- bytes put into the image

-- bytes without an address out of range are put into the image
pub lays_span : (old new : List (Option ℕ)) (addr : ℕ) (bytes : List ℕ) (result : Result ℕ ImageFault)
    → first_outside (length old) (enumerate_from addr bytes) ≡ None
    → result ≡ (if fits addr bytes (length old) then Ok (addr + length bytes)
    else Err (OutOfRange (max addr (length old)))) → OnOk result (new ≡ with_pairs old (enumerate_from addr bytes))
    → new ≡ with_pairs old (enumerate_from addr bytes)
lays_span old new addr bytes result none is laid = grind (arith, nat_tests, first_outside_span_end)

-- ---- addresses in range

-- an offset of Intel HEX has 16 bits, and S-records set no base
pub near : (kind : Kind) (base : AddressBase) (offset : ℕ) (bytes : _) → FitsKind kind (Data offset bytes)
    → HasBase kind base → StartsInRange base offset
near kind base offset bytes fits has = search rules

-- the lemmas for `Spans`
pub ruleset spans_of_record = (nat_tests, take_rest, places_linear, places_segment, places_wrapped_at)

-- the lemmas for `end` of `Spans`
pub ruleset spans_end = (nat_tests, extends_both, first_outside_first)

-- the lemmas for `lay` of `Spans`
pub ruleset spans_laid = (nat_tests, fold-append, first_outside_parts, lays_span)
