-- Bytes sent in parts, and the rest of a range.
use Rattle.std.proofs.lemmas.Grind.{common_steps}
use Rattle.std.proofs.Common.{◌≡◌, ℕ, ◌+◌, ◌-◌, ◌<◌, ◌≤◌, List, [], ◌∷◌, ◌++◌, length, take, drop, append_assoc, arith, Err, rules}
use Rattle.std.proofs.lemmas.List.{drop-take, drop-drop, take-append-drop, length-take, length-drop}
use Rattle.std.proofs.Math.Seq.{take-add}
use Rattle.std.specs.Prelude.{slice_range}
use Rattle.ghosts.specs.Failures.{OneFailureCounted}
use Rattle.stk_host.specs.Transcript.{Transcript, LinkState, Sent, NoneTaken, IsNothingOrTaken, TakesPart, sent, Grows, LinkCounts}
use Rattle.stk_host.specs.Reach.{SendsExactly, SendsOnlyPart}
use Rattle.stk_host.proofs.Transcripts.Laws.{sent_append, grows_on, quiet_append, taken_quiet, none_append, none_behind}

pub output_more : (x y : List ℕ) (o p q : Transcript) → SendsExactly x o p → Grows p (Sent y ∷ []) q
    → SendsExactly (x ++ y) o q
output_more x y o p q emits g = grind (arith, common_steps, quiet_append, none_append, sent_append)

-- one more part
pub sends_part : (bytes : List ℕ) (n m : ℕ) (part : List ℕ) (o p q : Transcript) → SendsExactly (take n bytes) o p
    → part ≡ drop n bytes → Grows p (Sent (take m part) ∷ []) q → SendsExactly (take (n + m) bytes) o q
sends_part bytes n m part o p q emits is g = search (rules, take-add, output_more)

-- what a failed send didn't take
some_unsent : (last : Transcript) (bytes unsent : List ℕ) → IsNothingOrTaken last → NoneTaken last
    → bytes ≡ sent last ++ unsent → 0 < length bytes → 0 < length unsent
some_unsent last bytes unsent taken none is some = search rules

-- the first `n` bytes were sent, and the send of the others failed
pub part_of : (bytes : List ℕ) (n : ℕ) (part : List ℕ) (o p q : Transcript) → n < length bytes
    → SendsExactly (take n bytes) o p → part ≡ drop n bytes → TakesPart part p q → SendsOnlyPart bytes o q
part_of bytes n part o p q few emits is t =
    let some : 0 < length part = rw (is, length-drop) (omega arith) in
    record {
      part = take n bytes ++ sent t.last;
      unsent = t.unsent;
      bytes_are = search (rules, take-append-drop, append_assoc);
      some = omega arith;
      during = emits.during ++ t.last;
      grows = grows_on o p q emits.during t.last emits.grows t.grows;
      quiet = search (rules, quiet_append, taken_quiet);
      bytes_sent = search (rules, sent_append);
      not_whole = search (rules, some_unsent, none_behind);
    }

-- nothing was taken
pub takes_none : (bytes : List ℕ) (old new : Transcript) → new ≡ old → TakesPart bytes old new
takes_none bytes old new is = search rules

-- a failed send of the first bytes alone
pub takes_first : (bytes : List ℕ) (n : ℕ) (old new : Transcript) → TakesPart (take n bytes) old new
    → TakesPart bytes old new
takes_first bytes n old new t =
    search (rules, take-append-drop n bytes, append_assoc (sent t.last) t.unsent (drop n bytes))

-- a link that has failed since an earlier time with the same count
pub fails_since : {A E : Type 0} (a c : LinkState) (count : ℕ) (error : E) → count ≡ a.failures → count ≤ c.failures
    → OneFailureCounted count c.failures → LinkCounts {A = A} a c (Err error)
fails_since a c count error same counted failed = search rules

-- the rest of a range after its first places
pub range_later : (xs : List ℕ) (a b n : ℕ) → a + n ≤ b → slice_range xs (a + n) b ≡ drop n (slice_range xs a b)
range_later xs a b n le = search (rules, drop-drop n a xs, drop-take n (b - (a + n)) (drop a xs))

pub range_consumed : (xs : List ℕ) (a b n : ℕ) (all : List ℕ) → a ≤ b → slice_range xs a b ≡ all → n ≤ length all
    → slice_range xs (a + n) b ≡ drop n all
range_consumed xs a b n all order is le = search (rules, length-take, range_later)
