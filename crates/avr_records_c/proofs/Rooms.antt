-- A text that is put into a room line by line.
use Rattle.std.proofs.lemmas.Bool.Decides.{nat_tests}
use Rattle.std.proofs.Common.{◌≡◌, ◌∙◌, ap, ap₂, sym, arith, ℕ, ◌+◌, ◌-◌, ◌≤◌, List, ◌++◌, length, take, drop, min}
use lib.Seq.{take-append-add, drop-append-add}
use Rattle.std.proofs.lemmas.Bool.{cases_lt}
use Rattle.std.proofs.lemmas.List.{append_assoc, drop-drop, length-drop, length-take-le, length-append, take_all, take-append-le, drop-append-le, take-append-drop}
use Rattle.avr_records_c.specs.Writing.{PutsPrefix}

-- the first `put` bytes of the text are in the room, and this is left of the text
pub record IsPut (text rest room : List ℕ) (put : ℕ) (now : List ℕ) : Type 0 where
  pub fits : put ≤ length room
  pub most : put ≤ length text
  pub left : rest ≡ drop put text
  pub stands : now ≡ take put text ++ drop put room

-- putting text keeps the size of the room
pub room_length : {text rest room : List ℕ} {put : ℕ} {now : List ℕ} → IsPut text rest room put now
    → length now ≡ length room
room_length {text} {rest} {room} {put} {now} is = grind (arith, nat_tests, length-append, length-take-le, length-drop)

-- the first bytes of a text, in two steps
take_more : (put count : ℕ) (text : List ℕ) → put ≤ length text
    → take (put + count) text ≡ take put text ++ take count (drop put text)
take_more put count text few =
    let prefix : List ℕ = take put text in
    ap (take (put + count)) (sym (take-append-drop put text))
    ∙ ap (λ (n : ℕ). take (n + count) (prefix ++ drop put text)) (sym (length-take-le put text few))
    ∙ take-append-add prefix (drop put text) count

-- a text's next line, and the lines after it
pub record NextLine (whole : List ℕ) : Type 0 where
  pub line : List ℕ
  pub more : List ℕ
  pub joined : whole ≡ line ++ more

-- the part of a line that fits
pub more_put : (text whole room now after : List ℕ) (put gone count : ℕ) (next : NextLine whole)
    → IsPut text (drop gone whole) room put now → count ≡ min (length now - put) (length (drop gone next.line))
    → after ≡ take put now ++ (take count (drop gone next.line) ++ drop (put + count) now)
    → IsPut text (drop (gone + count) whole) room (put + count) after
more_put text whole room now after put gone count next is fit put_is =
    let line : List ℕ = next.line in
    let split : whole ≡ line ++ next.more = next.joined in
    let long = room_length is in
    let prefix : List ℕ = take put text in
    let prefix_long : length prefix ≡ put = length-take-le put text is.most in
    let few : count ≤ length (drop gone line) = omega (arith, fit) in
    let whole_long : length whole ≡ length line + length next.more = ap length split ∙ length-append line next.more in
    let line_left = length-drop gone line in
    let whole_left = length-drop gone whole in
    let text_left : length (drop gone whole) ≡ length text - put = ap length is.left ∙ length-drop put text in
    let most : put + count ≤ length text =
    omega (arith, few, whole_long, line_left, whole_left, text_left, is.most) in
    let kept : take put now ≡ prefix =
    grind (arith, nat_tests, take-append-le, take_all) in
    let behind : drop (put + count) now ≡ drop (put + count) room =
    ap (drop (put + count)) is.stands
    ∙ ap (λ (n : ℕ). drop (n + count) (prefix ++ drop put room)) (sym prefix_long)
    ∙ drop-append-add prefix (drop put room) count
    ∙ drop-drop count put room in
    let part : take count (drop gone line) ≡ take count (drop put text) =
    grind (arith, nat_tests, cases_lt, drop-append-le, take-append-le, length-drop) in
    record {
      fits = omega (arith, fit, long, is.fits);
      most = most;
      left = sym (drop-drop count gone whole) ∙ ap (drop count) is.left ∙ drop-drop count put text;
      stands = grind (arith, nat_tests, append_assoc, take_more);
    }

-- the room takes the whole line
pub line_out : (text whole room now : List ℕ) (put gone left : ℕ) (next : NextLine whole)
    → IsPut text (drop gone whole) room put now → length next.line ≤ gone → left ≡ gone - length next.line
    → IsPut text (drop left next.more) room put now
line_out text whole room now put gone left next is past left_is =
    let there : gone ≡ length next.line + left = omega (arith, past, left_is) in
    record {
      fits = is.fits;
      most = is.most;
      left = sym (drop-append-add next.line next.more left) ∙ ap₂ drop (sym there) (sym next.joined) ∙ is.left;
      stands = is.stands;
    }

-- the loop ends: the room is full, or the text is at its end
pub all_put : (text left room now : List ℕ) (put : ℕ) → IsPut text left room put now
    → put ≡ min (length room) (length text) → PutsPrefix text left room put now
all_put text left room now put is far = record { count = far; left = is.left; stands = is.stands }
