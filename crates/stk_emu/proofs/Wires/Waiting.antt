-- What waits to be received, as bytes and places of timeouts.
use Rattle.std.proofs.Common.{◌≡◌, ℕ, zero, suc, ◌+◌, ◌-◌, ◌<◌, ◌≤◌, List, [], ◌∷◌, ◌++◌, length, take, drop, slice_index_or, refl, ap, sym, ◌∙◌, append_assoc, arith, rules, length-drop}
use Rattle.std.proofs.lemmas.List.{length-take, map-append, drop-map, drop-append-le, take-append-le, drop-drop, drop-take, take_rest, length-map, drop_all}
use Rattle.stk_host.specs.declared.link.Item.TheVariants.{Byte, Silence}
use Rattle.stk_host.specs.Tape.{Tape, on_tape, leading_bytes}
use Rattle.stk_host.proofs.Tapes.Readings.{on_tape_append}
use Rattle.stk_emu.specs.Waiting.{tape_in, AreWithin, HasNoLeadingByte}
use Rattle.stk_emu.specs.Wired.{IsReceivedNext}

-- the bytes at the front of a tape
bytes_before : (xs : List ℕ) (tape : Tape) → leading_bytes (on_tape xs ++ Silence ∷ tape) ≡ xs
bytes_before [] tape = refl
bytes_before (x ∷ xs) tape = ap (λ ys. x ∷ ys) (bytes_before xs tape)

bytes_all : (xs : List ℕ) → leading_bytes (on_tape xs) ≡ xs
bytes_all [] = refl
bytes_all (x ∷ xs) = ap (λ ys. x ∷ ys) (bytes_all xs)

pub bytes_taken : (tape : Tape) (n : ℕ) → n ≤ length (leading_bytes tape) → on_tape (take n (leading_bytes tape))
    ≡ take n tape
bytes_taken tape zero le = refl
bytes_taken (Byte b ∷ tape) (suc n) le = ap (λ ys. Byte b ∷ ys) (bytes_taken tape n (omega (arith, le)))
bytes_taken tape (suc n) le = absurd (omega (arith, le))

-- the places of the timeouts
pub within_more : (at n m : ℕ) (places : List ℕ) → AreWithin at places n → n ≤ m → AreWithin at places m
within_more at n m [] w le = w
within_more at n m (place ∷ places) w le = (w.0, omega (arith, w.1, le), within_more place n m places w.2 le)

pub within_last : (at n : ℕ) (places : List ℕ) → at ≤ n → AreWithin at places n → AreWithin at (places ++ n ∷ []) n
within_last at n [] le w = (le, omega arith, w)
within_last at n (place ∷ places) le w = (w.0, w.1, within_last place n places w.1 w.2)

within_from : (at place n : ℕ) (places : List ℕ) → at ≤ place → AreWithin place places n → AreWithin at places n
within_from at place n [] le w = w
within_from at place n (next ∷ places) le w = (omega (arith, le, w.0), w.1, w.2)

pub within_next : (at n : ℕ) (places : List ℕ) → AreWithin at places n → AreWithin at (drop 1 places) n
within_next at n [] w = w
within_next at n (place ∷ places) w = within_from at place n places w.0 w.2

pub bytes_put : (at : ℕ) (bytes more places : List ℕ) → at ≤ length bytes → AreWithin at places (length bytes)
    → tape_in at (bytes ++ more) places ≡ tape_in at bytes places ++ on_tape more
bytes_put at bytes more [] le w = search (rules, drop-append-le, map-append)
bytes_put at bytes more (place ∷ places) le w =
    search (rules, drop-append-le, take-append-le, length-drop, append_assoc, bytes_put place bytes more places)

-- one more timeout waits
pub timeout_put : (at : ℕ) (bytes places : List ℕ) → AreWithin at places (length bytes)
    → tape_in at bytes (places ++ length bytes ∷ []) ≡ tape_in at bytes places ++ Silence ∷ []
timeout_put at bytes [] w = rw (take_rest bytes at, drop_all (length bytes) bytes (omega arith)) refl
timeout_put at bytes (place ∷ places) w =
    search (rules, append_assoc, timeout_put place bytes places)

pub bytes_dropped : (at count : ℕ) (bytes places : List ℕ) → count ≤ length (leading_bytes (tape_in at bytes places))
    → tape_in (at + count) bytes places ≡ drop count (tape_in at bytes places)
bytes_dropped at count bytes [] le = sym (drop-map Byte count (drop at bytes) ∙ ap on_tape (drop-drop count at bytes))
bytes_dropped at count bytes (place ∷ places) le =
    let xs = take (place - at) (drop at bytes) in
    let here : count ≤ length xs = rw (bytes_before xs (tape_in place bytes places)) at le in
    let size = length-take (place - at) (drop at bytes) in
    let is : place - at ≡ count + (place - (at + count)) = omega (arith, here, size) in
    let left : drop count xs ≡ take (place - (at + count)) (drop (at + count) bytes) =
    rw (is, drop-take count (place - (at + count)) (drop at bytes), drop-drop count at bytes) refl in
    search (rules, drop-append-le, length-map, drop-map, left)

pub at_dropped : (at count : ℕ) (bytes places : List ℕ) → at ≤ length bytes → AreWithin at places (length bytes)
    → count ≤ length (leading_bytes (tape_in at bytes places)) → at + count ≤ length bytes
at_dropped at count bytes [] from w le =
    grind (arith, bytes_all, length-drop)
at_dropped at count bytes (place ∷ places) from w le =
    grind (arith, bytes_before, length-take)

pub within_dropped : (at count : ℕ) (bytes places : List ℕ) → AreWithin at places (length bytes)
    → count ≤ length (leading_bytes (tape_in at bytes places)) → AreWithin (at + count) places (length bytes)
within_dropped at count bytes [] w le = w
within_dropped at count bytes (place ∷ places) w le =
    grind (arith, bytes_before, length-take)

-- a timeout is received, or nothing waits
silent_before : (xs : List ℕ) (tape : Tape) → HasNoLeadingByte (on_tape xs ++ Silence ∷ tape) → xs ≡ []
silent_before [] tape s = refl
silent_before (x ∷ xs) tape s = absurd s

silent_all : (xs : List ℕ) → HasNoLeadingByte (on_tape xs) → xs ≡ []
silent_all [] s = refl
silent_all (x ∷ xs) s = absurd s

pub timeout_dropped : (at : ℕ) (bytes places : List ℕ) → AreWithin at places (length bytes)
    → HasNoLeadingByte (tape_in at bytes places) → tape_in at bytes (drop 1 places) ≡ drop 1 (tape_in at bytes places)
timeout_dropped at bytes [] w silent = rw (silent_all (drop at bytes) silent) refl
timeout_dropped at bytes (place ∷ places) w silent =
    let none = silent_before (take (place - at) (drop at bytes)) (tape_in place bytes places) silent in
    let is : place ≡ at = grind (arith, ap length none, length-take, length-drop) in
    rw (none, is) refl

pub next_place : (at place : ℕ) (bytes places : List ℕ) → 0 < length places → place ≡ slice_index_or places 0 place
    → leading_bytes (tape_in at bytes places) ≡ take (place - at) (drop at bytes)
next_place at place bytes [] some is = absurd (omega (arith, some))
next_place at place bytes (first ∷ places) some is =
    rw is (bytes_before (take (first - at) (drop at bytes)) (tape_in first bytes places))

pub place_within : (at place n : ℕ) (places : List ℕ) → 0 < length places → place ≡ slice_index_or places 0 place
    → AreWithin at places n → (at ≤ place) × (place ≤ n)
place_within at place n [] some is w = absurd (omega (arith, some))
place_within at place n (first ∷ places) some is w = rw is (w.0, w.1)

pub no_place : (at : ℕ) (bytes places : List ℕ) → length places ≡ 0
    → leading_bytes (tape_in at bytes places) ≡ drop at bytes
no_place at bytes [] none = bytes_all (drop at bytes)
no_place at bytes (first ∷ places) none = absurd (omega (arith, none))

pub none_wait : (at : ℕ) (bytes cleared places : List ℕ) → length places ≡ 0 → at ≡ length bytes → cleared ≡ []
    → tape_in 0 cleared places ≡ tape_in at bytes places
none_wait at bytes cleared [] none is empty = rw (empty, drop_all at bytes (omega (arith, is))) refl
none_wait at bytes cleared (first ∷ places) none is empty = absurd (omega (arith, none))

-- three pieces of bytes, put one after another
pub three_put : (t x y z : Tape) (a b c : List ℕ) → x ≡ t ++ on_tape a → y ≡ x ++ on_tape b → z ≡ y ++ on_tape c
    → z ≡ t ++ on_tape (a ++ (b ++ c))
three_put t x y z a b c f g h = search (rules, on_tape_append, append_assoc)

-- a timeout is next, or nothing waits
pub silence_next : (waits : Tape) → HasNoLeadingByte waits → IsReceivedNext (Silence ∷ []) waits
silence_next [] silent = refl
silence_next (Silence ∷ waits) silent = (omega arith, refl)
silence_next (other ∷ waits) silent = absurd silent

pub bytes_next : (waits items : Tape) (n : ℕ) → 0 < n → n ≤ length (leading_bytes waits) → length items ≡ n
    → items ≡ take n waits → IsReceivedNext items waits
bytes_next [] items n some le size is = absurd (omega (arith, some, le))
bytes_next (item ∷ waits) items n some le size is = (rw size some, rw size is)
