-- Bytes that are sent one after another.
use Rattle.std.proofs.lemmas.Bool.Decides.{nat_tests}
use Rattle.std.proofs.Common.{◌≡◌, ◌∙◌, ap, arith, ℕ, ◌+◌, ◌-◌, ◌++◌, append_assoc, take, drop, length, [], ◌≤◌, rules}
use Rattle.std.proofs.Math.Seq.{take-add, take-append-add}
use Rattle.std.proofs.lemmas.Grind.{common_steps}
use Rattle.std.proofs.lemmas.List.{take-append-le}
use Rattle.avr_io.specs.Record.{Record, Bytes, showing}
use Rattle.avr_io.specs.Stream.{after_sent, SendsPart}
use Rattle.avr_io.specs.declared.stream.Stream.{Stream}

-- bytes sent after others are one sending of both
pub after_sent-after_sent : (s : Stream) (r : Record) (a b : Bytes)
    → after_sent s b (after_sent s a r) ≡ after_sent s (a ++ b) r
after_sent-after_sent s r a b = search (rules, append_assoc)

-- sending nothing changes nothing
pub sent_none : (s : Stream) (r : Record) → r ≡ after_sent s [] r
sent_none s r = search rules

-- `&bytes[m..]`
pub slice_rest : (bytes : Bytes) (m : ℕ) → take (length bytes - m) (drop m bytes) ≡ drop m bytes
slice_rest bytes m = grind (arith, common_steps)

-- the first m bytes are sent, then the next n
pub sent_on : (s : Stream) (old now new : Record) (bytes : Bytes) (m n : ℕ) → now ≡ after_sent s (take m bytes) old
    → new ≡ after_sent s (take n (take (length bytes - m) (drop m bytes))) now
    → new ≡ after_sent s (take (m + n) bytes) old
sent_on s old now new bytes m n first then = grind (arith, nat_tests, slice_rest, after_sent-after_sent, take-add)

-- the first m bytes are sent, then a prefix of the others; without the counts
pub sent_on_part : (s : Stream) (old now new : Record) (bytes : Bytes) (m : ℕ) → m ≤ length bytes
    → now ≡ after_sent s (take m bytes) old
    → SendsPart s (showing now 0 0) (showing new 0 0) (take (length bytes - m) (drop m bytes))
    → SendsPart s (showing old 0 0) (showing new 0 0) bytes
sent_on_part s old now new bytes m within first (n, bound, then) =
    (m + n, grind (arith, common_steps), sent_on s old now new bytes m n first then)

-- some bytes are sent, then others
pub sent_next : (s : Stream) (old now new : Record) (a b : Bytes) → now ≡ after_sent s a old → new ≡ after_sent s b now
    → new ≡ after_sent s (a ++ b) old
sent_next s old now new a b first then = then ∙ ap (after_sent s b) first ∙ after_sent-after_sent s old a b

-- and only a part of the others
pub sent_next_part : (s : Stream) (old now new : Record) (a b c : Bytes) → now ≡ after_sent s a old
    → SendsPart s (showing now 0 0) (showing new 0 0) b
    → SendsPart s (showing old 0 0) (showing new 0 0) (a ++ (b ++ c))
sent_next_part s old now new a b c first (n, within, then) = (
  length a + n,
  grind (arith, common_steps),
  grind (arith, common_steps, sent_next, take-append-add, take-append-le),
)
