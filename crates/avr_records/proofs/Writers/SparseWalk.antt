-- The next line of a memory's file, by the walk over its runs.
use Rattle.std.proofs.lemmas.Grind.{common_steps}
use Rattle.std.proofs.lemmas.Bool.Decides.{nat_tests}
use Rattle.std.proofs.Common.{◌≡◌, ◌∙◌, sym, ap, ap₂, refl, arith, ℕ, zero, suc, ◌+◌, ◌-◌, ◌<◌, ◌≤◌, List, [], ◌∷◌, ◌++◌, length, take, drop, min, Option, Some, None, is_some, rules}
use Rattle.std.specs.List.{position_from, slice_range}
use Rattle.std.proofs.lemmas.List.{drop-drop, length-append, length-drop, length-take, take_min, append-nil}
use Rattle.avr_image.specs.Image.{first_from, run_end, filled_bytes}
use Rattle.avr_records.specs.Text.{rows, ihex_record, two_bytes}
use Rattle.avr_image.specs.Runs.{runs, leading_run}
use Rattle.avr_image.proofs.Lemmas.{next_held, filled_is, filled_part, runs_none, runs_next, runs_first, lead_some, lead_is_run, lead_is_filled, lead_within}
use Rattle.avr_records.specs.Sparse.{file_rows, last_held, new_upper, row_size, row_text, rows_of}
use Rattle.avr_records.specs.Writing.{text_from}
use Rattle.avr_records.specs.declared.address_size.AddressSize.{AddressSize}
use Rattle.avr_records.specs.declared.kind.Kind.{Kind}
use Rattle.avr_records.proofs.Writers.Pieces.{rows_next, rows_upper, wide_row}

-- ---- the first run, and what is after it

-- what is after the first run
abbrev after : List (Option ℕ) → List (Option ℕ)
after image = drop (length (leading_run image)) image

-- the first run without its first n bytes
leading_run_drop : (n : ℕ) (image : List (Option ℕ)) → n ≤ length (leading_run image) → leading_run (drop n image)
    ≡ drop n (leading_run image)
leading_run_drop zero image l = refl
leading_run_drop (suc n) (Some b ∷ image) l = leading_run_drop n image (omega (arith, l))
leading_run_drop (suc n) x l = absurd (omega (arith, l))

-- what is after the first run stays, if only bytes of that run are dropped
after_drop : (n : ℕ) (image : List (Option ℕ)) → n ≤ length (leading_run image) → after (drop n image) ≡ after image
after_drop zero image l = refl
after_drop (suc n) (Some b ∷ image) l = after_drop n image (omega (arith, l))
after_drop (suc n) x l = absurd (omega (arith, l))

-- the rows of an image are those of its first run, then those of what is after it
pub rows_leading_run : (size : ℕ → ℕ) (addr : ℕ) (image : List (Option ℕ))
    → rows_of size (runs addr image) ≡ rows size addr (leading_run image)
    ++ rows_of size (runs (addr + length (leading_run image)) (after image))
rows_leading_run size addr image = grind (arith, common_steps, runs_first)

-- the first row is the first bytes of the first run
pub rows_step : (size : ℕ → ℕ) (addr n : ℕ) (image : List (Option ℕ)) → 0 < length (leading_run image) → 0 < size addr
    → n ≡ min (size addr) (length (leading_run image))
    → rows_of size (runs addr image) ≡ (addr, take n (leading_run image))
    ∷ rows_of size (runs (addr + n) (drop n image))
rows_step size addr n image some wide is =
    grind (arith, nat_tests, length-drop, rows_leading_run, leading_run_drop, after_drop, rows_next)

-- ---- as the walk finds them

-- the run that a walk finds, up to the length of a row
pub run_is : (size place most : ℕ) (image : List (Option ℕ)) → most ≡ min size (length image - place)
    → run_end image place (place + most) ≡ place + min size (length (leading_run (drop place image)))
run_is size place most image is = grind (arith, nat_tests, lead_within, length-drop, lead_is_run)

-- a row is inside the image, whatever its length
pub record IsPart (place most end : ℕ) (bytes : List ℕ) (image : List (Option ℕ)) : Type 0 where
  pub within : end ≤ length bytes
  pub part : slice_range bytes place end ≡ take most (leading_run (drop place image))

-- the bytes of an image from a place to the end of a row are this row
pub row_part : (place most end : ℕ) (bytes : List ℕ) (image : List (Option ℕ)) → place < length image
    → end ≡ place + min most (length (leading_run (drop place image))) → bytes ≡ filled_bytes image 0 (length image)
    → IsPart place most end bytes image
row_part place most end bytes image inside is whole =
    grind (arith, nat_tests, lead_within, length-drop, filled_is, filled_part, lead_is_filled, take_min)

-- a row has as many bytes as fit, and as the run has
row_length : (size place : ℕ) (row : List ℕ) (image : List (Option ℕ))
    → row ≡ take size (leading_run (drop place image)) → length row ≡ min size (length (leading_run (drop place image)))
row_length size place row image is = ap length is ∙ length-take size (leading_run (drop place image))

-- the next row: the bytes from the next address that holds one
rows_walk : (size : ℕ → ℕ) (addr place : ℕ) (row : List ℕ) (image : List (Option ℕ))
    → first_from image addr ≡ Some place → 0 < size place → row ≡ take (size place) (leading_run (drop place image))
    → rows_of size (runs addr (drop addr image))
    ≡ (place, row) ∷ rows_of size (runs (place + length row) (drop (place + length row) image))
rows_walk size addr place row image found wide is =
    let run : List ℕ = leading_run (drop place image) in
    let n : ℕ = length row in
    let long = row_length (size place) place row image is in
    let same : take n run ≡ row = ap (λ (k : ℕ). take k run) long ∙ take_min (size place) run ∙ sym is in
    ap (rows_of size) (runs_next image addr place found)
    ∙ rows_step size place n (drop place image) (lead_some image addr place found) wide long
    ∙ ap₂ (λ (bytes : List ℕ) (xs : List (Option ℕ)). (place, bytes) ∷ rows_of size (runs (place + n) xs)) same
    (drop-drop n place image)

-- ---- the text that is not written yet

-- after the last byte only the end record is left to write
pub text_end : (kind : Kind) (upper : ℕ) (size : AddressSize) (addr : ℕ) (image : List (Option ℕ))
    → first_from image addr ≡ None → text_from kind upper size addr image ≡ file_rows kind upper size []
text_end kind upper size addr image none = grind (arith, nat_tests, runs_none)

-- if the upper 16 bits change at the next row, their record comes first, and then the text that is left
pub text_upper : (kind : Kind) (upper new : ℕ) (size : AddressSize) (addr place : ℕ) (image : List (Option ℕ))
    → first_from image addr ≡ Some place → new_upper kind upper place ≡ Some new
    → text_from kind upper size addr image ≡ ihex_record 4 0 (two_bytes new) ++ text_from kind new size addr image
text_upper kind upper new size addr place image found is =
    let row : List ℕ = take (row_size kind place) (leading_run (drop place image)) in
    let cut = rows_walk (row_size kind) addr place row image found (wide_row kind place) refl in
    search (rules, rows_upper)

-- else the next row comes first, and then the text that is left behind it
pub text_row : (kind : Kind) (upper : ℕ) (size : AddressSize) (addr place : ℕ) (row : List ℕ)
    (image : List (Option ℕ)) → first_from image addr ≡ Some place → new_upper kind upper place ≡ None
    → row ≡ take (row_size kind place) (leading_run (drop place image)) → text_from kind upper size addr image
    ≡ row_text kind size place row ++ text_from kind upper size (place + length row) image
text_row kind upper size addr place row image found same is = grind (arith, nat_tests, rows_walk)

-- a text with a piece in front isn't empty
pub some_with_piece : (text piece more : List ℕ) → text ≡ piece ++ more → 0 < length piece → 0 < length text
some_with_piece text piece more is some = omega (arith, ap length is, length-append piece more, some)

-- ---- the last address that holds a byte

-- if no byte is found, the last address is the one found before
last_none : (last addr : ℕ) (image : List (Option ℕ)) → position_from is_some addr image ≡ None
    → last_held last addr image ≡ last
last_none last addr [] is = refl
last_none last addr (None ∷ image) is = last_none last (addr + 1) image is
last_none last addr (Some b ∷ image) is = absurd (cc is)

-- a byte is found at the address asked for or above
found_from : (addr place : ℕ) (image : List (Option ℕ)) → position_from is_some addr image ≡ Some place → addr ≤ place
found_from addr place [] is = absurd (cc is)
found_from addr place (None ∷ image) is = let more = found_from (addr + 1) place image is in omega (arith, more)
found_from addr place (Some b ∷ image) is = let here : addr ≡ place = cc is in omega (arith, here)

-- the walk may begin at the next byte
last_next : (last addr place : ℕ) (image : List (Option ℕ)) → position_from is_some addr image ≡ Some place
    → last_held last addr image ≡ last_held last place (drop (place - addr) image)
last_next last addr place [] is = absurd (cc is)
last_next last addr place (None ∷ image) is =
    let one : suc (place - (addr + 1)) ≡ place - addr = omega (arith, found_from (addr + 1) place image is) in
    last_next last (addr + 1) place image is ∙ ap (λ (n : ℕ). last_held last place (drop n (None ∷ image))) one
last_next last addr place (Some b ∷ image) is = grind (arith, nat_tests)

-- it may pass over bytes of one run
last_prefix : (last addr n : ℕ) (image : List (Option ℕ)) → n < length (leading_run image)
    → last_held last addr image ≡ last_held (addr + n) (addr + suc n) (drop (suc n) image)
last_prefix last addr zero (Some b ∷ image) some = grind (arith, nat_tests)
last_prefix last addr (suc n) (Some b ∷ image) some =
    grind (arith, nat_tests, last_prefix addr (addr + 1) n image (omega (arith, some)))
last_prefix last addr n x some = absurd (omega (arith, some))

-- if no byte is left, the last address is found
pub last_done : (last addr : ℕ) (image : List (Option ℕ)) → first_from image addr ≡ None
    → last_held last addr (drop addr image) ≡ last
last_done last addr image none = last_none last addr (drop addr image) none

-- the walk goes on after the row that was found
pub record Walked (last addr end : ℕ) (image : List (Option ℕ)) : Type 0 where
  pub on : last_held last addr (drop addr image) ≡ last_held (end - 1) end (drop end image)
  pub rises : addr < end
  pub inside : end ≤ length image

-- a walk goes on so after each row
pub last_walk : (last addr place end : ℕ) (row : List ℕ) (image : List (Option ℕ)) → first_from image addr ≡ Some place
    → row ≡ take 32 (leading_run (drop place image)) → end ≡ place + length row → Walked last addr end image
last_walk last addr place end row image found is ends =
    let next = next_held image addr place found in
    let there : drop (place - addr) (drop addr image) ≡ drop place image =
    drop-drop (place - addr) addr image ∙ ap (λ (k : ℕ). drop k image) (omega (arith, next.after)) in
    let some = lead_some image addr place found in
    let short = lead_within (drop place image) in
    let left = length-drop place image in
    let long = row_length 32 place row image is in
    let n : ℕ = length row - 1 in
    let within : n < length (leading_run (drop place image)) = omega (arith, long, some) in
    let last_is : place + n ≡ end - 1 = omega (arith, long, some, ends) in
    let behind : place + suc n ≡ end = omega (arith, long, some, ends) in
    record {
      on =
          last_next last addr place (drop addr image) found
          ∙ ap (last_held last place) there
          ∙ last_prefix last place n (drop place image) within
          ∙ ap (last_held (place + n) (place + suc n))
          (drop-drop (suc n) place image ∙ ap (λ (k : ℕ). drop k image) behind)
          ∙ ap₂ (λ (k m : ℕ). last_held k m (drop end image)) last_is behind;
      rises = omega (arith, next.after, some, long, ends);
      inside = omega (arith, short, left, some, long, ends);
    }

-- the lemmas for the lines of a cursor
pub ruleset lines_written = (nat_tests, append-nil, some_with_piece, text_end, text_row, text_upper)

-- for the last address
pub ruleset last_found = (nat_tests, last_walk, last_done)

-- for the rows of an image
pub ruleset rows_read = (nat_tests, run_is, row_part)
