-- The runs of an image, and a walk over them.
use Rattle.std.proofs.lemmas.Grind.{common_steps}
use Rattle.std.specs.List.{position_from, prefix_len, flat_map, slice_range}
use Rattle.std.proofs.lemmas.List.{take_all, append_assoc, drop-drop, get_or-drop, length-drop, length-append, set_at}
use Rattle.std.proofs.Common.{◌≡◌, ◌∙◌, sym, ap, ap₂, refl, arith, ℕ, zero, suc, ◌+◌, ◌-◌, ◌<◌, ◌≤◌, ◌==◌, Bool, cond, not, List, [], ◌∷◌, ◌++◌, length, take, drop, fold, min, Option, Some, None, is_some, inl, inr, add-zero, All, ◌⊎◌, rules}
use Rattle.std.proofs.lemmas.List.Recursion.{is_count_by}
use Rattle.std.proofs.lemmas.Bool.Decides.{nat_tests}
use Rattle.avr_image.specs.Image.{empty, byte_at, with_byte, first_from, run_end, filled_bytes, image_of_pairs, with_pairs, over, byte_count}
use Rattle.avr_image.specs.Runs.{onto_runs, runs, leading_run, places_of}
use Rattle.avr_image.proofs.Places.Laid.{laid_is_over}
use Rattle.avr_image.specs.Walk.{IsLongestRun}
use Rattle.avr_image.proofs.Fields.Shown.{none_past}
use Rattle.avr_image.proofs.Walks.Places.{next_held, run_is_longest, filled_is}

-- ---- the first run, and what is after it

-- the first run begins here or after
abbrev Begins : ℕ → List (ℕ × List ℕ) → Type 0
Begins addr [] = Unit {0}
Begins addr (run ∷ more) = addr ≤ run.0

-- a byte in front begins the first run
begins_onto : (addr b : ℕ) (cut : List (ℕ × List ℕ)) → Begins addr (onto_runs addr b cut)
begins_onto addr b cut = search (rules, nat_tests)

-- the runs of an image begin where it does, or after
runs_begin : (addr : ℕ) (image : List (Option ℕ)) → Begins addr (runs addr image)
runs_begin addr [] = tt
runs_begin addr (None ∷ image) = search (rules, runs_begin (addr + 1) image)
runs_begin addr (Some b ∷ image) = begins_onto addr b (runs (addr + 1) image)

-- what is after the first run
abbrev after : List (Option ℕ) → List (Option ℕ)
after image = drop (length (leading_run image)) image

-- the bytes in front are the first run, and the other runs are those of what is after it
runs_leading_run : (addr b : ℕ) (image : List (Option ℕ))
    → runs addr (Some b ∷ image) ≡ (addr, b ∷ leading_run image) ∷ runs (addr + 1 + length (leading_run image))
    (after image)
runs_leading_run addr b [] = refl
runs_leading_run addr b (None ∷ image) = grind (arith, nat_tests, runs_begin)
runs_leading_run addr b (Some c ∷ image) = grind (arith, nat_tests, runs_leading_run (addr + 1) c image)

-- the same of an image that begins with a byte
pub runs_first : (image : List (Option ℕ)) (addr : ℕ) → 0 < length (leading_run image)
    → runs addr image ≡ (addr, leading_run image) ∷ runs (addr + length (leading_run image))
    (drop (length (leading_run image)) image)
runs_first image addr some = search (rules, runs_leading_run)

-- ---- as the walk finds them

-- there is no run if no byte follows
walk_none : (addr : ℕ) (image : List (Option ℕ)) → position_from is_some addr image ≡ None → runs addr image ≡ []
walk_none addr [] is = refl
walk_none addr (None ∷ image) is = walk_none (addr + 1) image is
walk_none addr (Some b ∷ image) is = absurd (cc is)

record Next (addr place : ℕ) (image : List (Option ℕ)) : Type 0 where
  from : addr ≤ place
  same : runs addr image ≡ runs place (drop (place - addr) image)
  some : 0 < length (leading_run (drop (place - addr) image))

-- a walk may begin at the next byte
walk_next : (addr place : ℕ) (image : List (Option ℕ)) → position_from is_some addr image ≡ Some place
    → Next addr place image
walk_next addr place [] is = absurd (cc is)
walk_next addr place (None ∷ image) is =
    let more = walk_next (addr + 1) place image is in
    let one : place - addr ≡ suc (place - (addr + 1)) = omega (arith, more.from) in search rules
walk_next addr place (Some b ∷ image) is = grind (arith, nat_tests)

-- if no byte follows, there are no runs
pub runs_none : (image : List (Option ℕ)) (addr : ℕ) → first_from image addr ≡ None → runs addr (drop addr image) ≡ []
runs_none image addr none = walk_none addr (drop addr image) none

-- the image from the next byte on, in one step or in two
found_there : (image : List (Option ℕ)) (addr place : ℕ) → first_from image addr ≡ Some place
    → drop (place - addr) (drop addr image) ≡ drop place image
found_there image addr place found =
    search (rules, walk_next addr place (drop addr image) found, drop-drop (place - addr) addr image)

-- the runs from an address on are those from the next byte on
pub runs_next : (image : List (Option ℕ)) (addr place : ℕ) → first_from image addr ≡ Some place
    → runs addr (drop addr image) ≡ runs place (drop place image)
runs_next image addr place found =
    search (rules, walk_next addr place (drop addr image) found, found_there image addr place found)

-- at the next byte a run begins
pub lead_some : (image : List (Option ℕ)) (addr place : ℕ) → first_from image addr ≡ Some place
    → 0 < length (leading_run (drop place image))
lead_some image addr place found =
    search (rules, walk_next addr place (drop addr image) found, found_there image addr place found)

-- the image without one more item
drop_next : (image xs : List (Option ℕ)) (place : ℕ) (x : Option ℕ) → drop place image ≡ x ∷ xs
    → drop (place + 1) image ≡ xs
drop_next image xs place x is = sym (drop-drop 1 place image) ∙ ap (drop 1) is

-- where bytes are there, the filled bytes are these
filled_leading_run : (image xs : List (Option ℕ)) (n place : ℕ) → drop place image ≡ xs
    → n ≤ length (leading_run xs) → filled_bytes image place n ≡ take n (leading_run xs)
filled_leading_run image xs zero place is l = refl
filled_leading_run image (Some b ∷ xs) (suc n) place is l =
    let here : byte_at image place ≡ Some b =
    ap (byte_at image) (sym (add-zero place)) ∙ sym (get_or-drop place image 0 None)
    ∙ ap (λ (zs : List (Option ℕ)). byte_at zs 0) is in
    search (rules, filled_leading_run image xs n (place + 1) (drop_next image xs place (Some b) is) (omega (arith, l)))
filled_leading_run image x (suc n) place is l = absurd (omega (arith, l))

-- the bytes before a gap are the first bytes of a filled page
pub lead_is_filled : (image : List (Option ℕ)) (addr n : ℕ) → n ≤ length (leading_run (drop addr image))
    → filled_bytes image addr n ≡ take n (leading_run (drop addr image))
lead_is_filled image addr n = filled_leading_run image (drop addr image) n addr refl

-- bytes in front are counted up to the first gap
prefix_leading_run : (k : ℕ) (image : List (Option ℕ)) → prefix_len is_some (take k image)
    ≡ min k (length (leading_run image))
prefix_leading_run (suc k) (Some b ∷ image) = let more = prefix_leading_run k image in omega (arith, more)
prefix_leading_run x y = omega arith

-- the end of a run is where its bytes end, or the limit
pub lead_is_run : (image : List (Option ℕ)) (addr end : ℕ)
    → run_end image addr end ≡ addr + min (end - addr) (length (leading_run (drop addr image)))
lead_is_run image addr end = ap (λ (n : ℕ). addr + n) (prefix_leading_run (end - addr) (drop addr image))

-- a run is no longer than the image
pub lead_within : (image : List (Option ℕ)) → length (leading_run image) ≤ length image
lead_within (Some b ∷ image) = let more = lead_within image in omega (arith, more)
lead_within x = omega arith

-- ---- the bytes of an image at their addresses

-- the bytes that are there, with their addresses, if the list begins at `addr`
abbrev held_places : ℕ → List (Option ℕ) → List (ℕ × ℕ)
held_places addr [] = []
held_places addr (None ∷ image) = held_places (addr + 1) image
held_places addr (Some b ∷ image) = (addr, b) ∷ held_places (addr + 1) image

-- the image with this byte at this address
abbrev put : List (Option ℕ) → ℕ × ℕ → List (Option ℕ)
put image place = with_byte image place.0 place.1

-- bytes put one after the other fill an empty image
laid_held : (prefix image : List (Option ℕ)) (addr : ℕ) → length prefix ≡ addr
    → fold put (prefix ++ empty (length image)) (held_places addr image) ≡ prefix ++ image
laid_held prefix [] addr at = refl
laid_held prefix (None ∷ image) addr at =
    let gap : List (Option ℕ) = None ∷ [] in
    let next : length (prefix ++ gap) ≡ addr + 1 = length-append prefix gap ∙ omega (arith, at) in
    search (rules, append_assoc, laid_held (prefix ++ None ∷ []) image (addr + 1) next)
laid_held prefix (Some b ∷ image) addr at =
    let next : length (prefix ++ Some b ∷ []) ≡ addr + 1 = length-append prefix (Some b ∷ []) ∙ omega (arith, at) in
    ap (λ (whole : List (Option ℕ)). fold put whole (held_places (addr + 1) image))
    (search (rules, set_at, append_assoc))
    ∙ laid_held (prefix ++ Some b ∷ []) image (addr + 1) next
    ∙ append_assoc prefix (Some b ∷ []) image

-- an image is made of its bytes
laid_image : (image : List (Option ℕ)) → image_of_pairs (length image) (held_places 0 image) ≡ image
laid_image image = laid_held [] image 0 refl

-- ---- the runs of an image have its bytes at their addresses

runs_hold : (addr : ℕ) (image : List (Option ℕ)) → flat_map places_of (runs addr image) ≡ held_places addr image
runs_hold addr [] = refl
runs_hold addr (None ∷ image) = runs_hold (addr + 1) image
runs_hold addr (Some b ∷ image) = grind (arith, nat_tests, runs_hold (addr + 1) image)

-- so an image is made of its runs
pub runs_are_whole : (image : List (Option ℕ))
    → image_of_pairs (length image) (flat_map places_of (runs 0 image)) ≡ image
runs_are_whole image = ap (image_of_pairs (length image)) (runs_hold 0 image) ∙ laid_image image

-- ---- a walk from run to run

-- there are as many filled bytes as asked for
pub length_filled : (image : List (Option ℕ)) (start n : ℕ) → length (filled_bytes image start n) ≡ n
length_filled image start zero = refl
length_filled image start (suc n) = ap suc (length_filled image (start + 1) n)

-- filled bytes without the first are filled bytes from later on
drop_filled : (image : List (Option ℕ)) (i start n : ℕ)
    → drop i (filled_bytes image start n) ≡ filled_bytes image (start + i) (n - i)
drop_filled image zero start n = ap₂ (λ (s k : ℕ). filled_bytes image s k) (sym (add-zero start)) (omega arith)
drop_filled image (suc i) start zero = let none : zero - suc i ≡ zero = omega arith in rw none refl
drop_filled image (suc i) start (suc n) = grind (arith, nat_tests, drop_filled image i (start + 1) n)

-- the first filled bytes are fewer filled bytes
take_filled : (image : List (Option ℕ)) (k start n : ℕ) → k ≤ n
    → take k (filled_bytes image start n) ≡ filled_bytes image start k
take_filled image zero start n l = refl
take_filled image (suc k) start zero l = absurd (omega (arith, l))
take_filled image (suc k) start (suc n) l = simp (take_filled image k (start + 1) n (omega (arith, l)))

-- a part of the bytes of all addresses
pub filled_part : (image : List (Option ℕ)) (place end : ℕ) → place ≤ end → end ≤ length image
    → slice_range (filled_bytes image 0 (length image)) place end ≡ filled_bytes image place (end - place)
filled_part image place end rises within = grind (arith, nat_tests, drop_filled, take_filled)

-- the run that is found is the first of those left
pub record Stepped (addr place end : ℕ) (image : List (Option ℕ)) : Type 0 where
  pub is : runs addr (drop addr image) ≡ (place, slice_range (filled_bytes image 0 (length image)) place end)
      ∷ runs end (drop end image)
  pub rises : place < end
  pub within : end ≤ length image

-- the next run, as a walk finds it
pub next_run : (addr place end : ℕ) (image : List (Option ℕ)) → first_from image addr ≡ Some place
    → end ≡ run_end image place (length image) → Stepped addr place end image
next_run addr place end image found is =
    let some = lead_some image addr place found in
    let run : ℕ = length (leading_run (drop place image)) in
    let short = lead_within (drop place image) in
    let left = length-drop place image in
    let far : end ≡ place + min (length image - place) run = is ∙ lead_is_run image place (length image) in
    let ends : place + run ≡ end = omega (arith, far, short, left) in
    let rises : place < end = omega (arith, ends, some) in
    let within : end ≤ length image = omega (arith, ends, short, left, some) in
    let bytes_are : leading_run (drop place image) ≡ slice_range (filled_bytes image 0 (length image)) place end =
    search (rules, filled_part, lead_is_filled, take_all) in
    let behind : after (drop place image) ≡ drop end image =
    drop-drop run place image ∙ ap (λ (k : ℕ). drop k image) ends in
    record {
      is =
          runs_next image addr place found ∙ runs_first (drop place image) place some
          ∙ ap (λ (bytes : List ℕ). (place, bytes) ∷ runs (place + run) (after (drop place image))) bytes_are
          ∙ ap₂ (λ (n : ℕ) (more : List (Option ℕ)).
          (place, slice_range (filled_bytes image 0 (length image)) place end) ∷ runs n more) ends behind;
      rises = rises;
      within = within;
    }

-- ---- an image laid over another

-- the runs end inside a memory of this size
abbrev pub EndBy : ℕ → List (ℕ × List ℕ) → Type 0
EndBy size [] = Unit {0}
EndBy size (run ∷ more) = (run.0 + length run.1 ≤ size) × EndBy size more

-- the runs of an image end inside it
pub runs_end : (size addr : ℕ) (image : List (Option ℕ)) → addr + length image ≤ size → EndBy size (runs addr image)
runs_end size addr [] room = tt
runs_end size addr (None ∷ image) room = runs_end size (addr + 1) image (omega (arith, room))
runs_end size addr (Some b ∷ image) room = search (rules, runs_end size (addr + 1) image (omega (arith, room)))

-- the same, run by run
pub runs_inside : (image : List (Option ℕ)) → All (λ run. run.0 + length run.1 ≤ length image) (runs 0 image)
runs_inside image = each (runs 0 image) (runs_end (length image) 0 image (omega arith))
  where
    each : (cut : List (ℕ × List ℕ)) → EndBy (length image) cut → All (λ run. run.0 + length run.1 ≤ length image) cut
    each [] ends k d l = absurd (omega (arith, l))
    each (run ∷ more) ends zero d l = ends.0
    each (run ∷ more) ends (suc k) d l = each more ends.1 k d (omega (arith, l))

-- an image laid over one of its size, run by run
pub runs_over : (image other : List (Option ℕ)) → length other ≡ length image
    → with_pairs image (flat_map places_of (runs 0 other)) ≡ over image other
runs_over image other same = search (rules, runs_hold, laid_is_over, laid_image)

-- ---- no byte at all

-- without a byte the count is 0
pub none_counted : (addr : ℕ) (image : List (Option ℕ)) → position_from is_some addr image ≡ None → byte_count image ≡ 0
none_counted addr [] none = refl
none_counted addr (None ∷ image) none = none_counted (addr + 1) image none
none_counted addr (Some b ∷ image) none = absurd (cc none)

-- counting on never makes a count less
count_least : (n : ℕ) (image : List (Option ℕ)) → n ≤ fold (λ total byte. total + cond (is_some byte) 1 0) n image
count_least n [] = omega arith
count_least n (None ∷ image) = let more = count_least (n + 0) image in omega (arith, more)
count_least n (Some b ∷ image) = let more = count_least (n + 1) image in omega (arith, more)

-- with a byte the count isn't 0
pub some_counted : (addr place : ℕ) (image : List (Option ℕ)) → position_from is_some addr image ≡ Some place
    → 0 < byte_count image
some_counted addr place [] some = absurd (cc some)
some_counted addr place (None ∷ image) some = some_counted (addr + 1) place image some
some_counted addr place (Some b ∷ image) some = count_least 1 image

-- an image is empty exactly if its count is 0
pub empty_held : (image : List (Option ℕ)) (found : Option ℕ) (none : Bool) → found ≡ first_from image 0
    → is_some found ≡ not none → none ≡ (byte_count image == 0)
empty_held image found none is notice = search (rules, nat_tests, none_counted, some_counted)

-- ---- the runs are the longest

-- a run after a gap, or at the start, is as long as can be
longest_run : (addr place end : ℕ) (image : List (Option ℕ)) → (addr ≡ 0) ⊎ (byte_at image addr ≡ None)
    → first_from image addr ≡ Some place → end ≡ run_end image place (length image)
    → IsLongestRun image (place, slice_range (filled_bytes image 0 (length image)) place end)
longest_run addr place end image gap found is =
    let next = next_held image addr place found in
    search (rules, run_is_longest, filled_part, filled_is, none_past)

-- after a longest run there is a gap
none_behind : (addr place end : ℕ) (image : List (Option ℕ))
    → IsLongestRun image (place, slice_range (filled_bytes image 0 (length image)) place end)
    → place < end → end ≤ length image → byte_at image end ≡ None
none_behind addr place end image longest rises within = grind (arith, nat_tests, filled_part, length_filled)

-- so are all runs from such an address on
longest_from : (n addr : ℕ) (image : List (Option ℕ)) → length image ≤ addr + n
    → (addr ≡ 0) ⊎ (byte_at image addr ≡ None)
    → (found : Option ℕ) → first_from image addr ≡ found → All (IsLongestRun image) (runs addr (drop addr image))
longest_from n addr image room gap None found = search (rules, runs_none)
longest_from zero addr image room gap (Some place) found = grind (arith, common_steps)
longest_from (suc n) addr image room gap (Some place) found =
    let end : ℕ = run_end image place (length image) in
    let stepped = next_run addr place end image found refl in
    let next = next_held image addr place found in
    let longest = longest_run addr place end image gap found refl in
    let none = none_behind addr place end image longest stepped.rises stepped.within in
    search (
      rules,
      longest_from n end image (omega (arith, room, next.after, stepped.rises)) (inr none) (first_from image end) refl,
    )

-- so all runs of an image are the longest
pub runs_are_longest : (image : List (Option ℕ)) → All (IsLongestRun image) (runs 0 image)
runs_are_longest image = longest_from (length image) 0 image (omega arith) (inl refl) (first_from image 0) refl

-- ---- how many bytes there are

-- how many bytes an image has
abbrev held_in : List (Option ℕ) → ℕ
held_in [] = 0
held_in (None ∷ image) = held_in image
held_in (Some b ∷ image) = suc (held_in image)

-- one more item counts if it is a byte
first_counted : (byte : Option ℕ) (image : List (Option ℕ))
    → held_in (byte ∷ image) ≡ cond (is_some byte) (1 + held_in image) (held_in image)
first_counted byte image = search rules

-- this is the count
held_is_counted : (image : List (Option ℕ)) → held_in image ≡ byte_count image
held_is_counted = is_count_by held_in is_some refl first_counted

-- how many bytes runs have
abbrev pub held_by : List (ℕ × List ℕ) → ℕ
held_by [] = 0
held_by (run ∷ more) = length run.1 + held_by more

-- the runs of an image have as many bytes as the image
held_by_each : (addr : ℕ) (image : List (Option ℕ)) → held_by (runs addr image) ≡ held_in image
held_by_each addr [] = refl
held_by_each addr (None ∷ image) = held_by_each (addr + 1) image
held_by_each addr (Some b ∷ image) = grind (arith, nat_tests, held_by_each (addr + 1) image)

-- so they have its count
pub held_by_runs : (addr : ℕ) (image : List (Option ℕ)) → held_by (runs addr image) ≡ byte_count image
held_by_runs addr image = held_by_each addr image ∙ held_is_counted image

-- the lemmas for `Runs::next`
pub ruleset stepped = (nat_tests, runs_none, next_run, next_held, length_filled)
