-- The bytes in front of a tape.
use Rattle.std.proofs.Common.{◌≡◌, ◌-◌, min, drop, length-append, length-drop, set, ◌≤◌, ◌<◌, ◌+◌, ℕ, zero, suc, List, [], ◌∷◌, ◌++◌, length, take, slice_get, Some, None, ap, arith, rules}
use Rattle.std.proofs.lemmas.List.{take_all, take_more_set, take-append-le, take_rest}
use Rattle.stk_host.specs.declared.link.Heard.{Heard}
use Rattle.stk_host.specs.declared.link.Item.TheVariants.{Byte}
use Rattle.stk_host.specs.Tape.{Tape, leading_bytes}
use Rattle.stk_host.specs.Transcript.{items_of, FitsBuffer}
use Rattle.stk_host.specs.Links.{byte_of, next_piece}

-- if the tape has a byte at a place up to the end of its first bytes, it is one of them
pub within_bytes : (tape : Tape) (i byte : ℕ) → i ≤ length (leading_bytes tape) → byte_of (slice_get tape i) ≡ Some byte
    → i < length (leading_bytes tape)
within_bytes [] i byte le is = cc
within_bytes (Byte b ∷ tape) zero byte le is = omega arith
within_bytes (Byte b ∷ tape) (suc i) byte le is = omega (arith, within_bytes tape i byte (omega arith) is)
within_bytes (item ∷ tape) i byte le is = search rules

-- and the next of them
pub next_byte : (tape : Tape) (i byte : ℕ) → i ≤ length (leading_bytes tape) → byte_of (slice_get tape i) ≡ Some byte
    → take (suc i) (leading_bytes tape) ≡ take i (leading_bytes tape) ++ byte ∷ []
next_byte [] i byte le is = cc
next_byte (Byte b ∷ tape) zero byte le is = cc
next_byte (Byte b ∷ tape) (suc i) byte le is = ap (λ bytes. b ∷ bytes) (next_byte tape i byte (omega arith) is)
next_byte (item ∷ tape) i byte le is = search rules

-- if the place after bytes has no byte, they end there
pub no_byte : (tape : Tape) (i : ℕ) → i ≤ length (leading_bytes tape) → byte_of (slice_get tape i) ≡ None
    → length (leading_bytes tape) ≡ i
no_byte [] i le is = omega arith
no_byte (Byte b ∷ tape) zero le is = cc
no_byte (Byte b ∷ tape) (suc i) le is = ap suc (no_byte tape i (omega arith) is)
no_byte (item ∷ tape) i le is = omega arith

-- one more byte is copied
pub copied_more : (tape : Tape) (buffer : List ℕ) (i byte : ℕ) → i < length buffer → i ≤ length (leading_bytes tape)
    → byte_of (slice_get tape i) ≡ Some byte
    → take i buffer ≡ take i (leading_bytes tape) → take (i + 1) (set buffer i byte) ≡ take (i + 1) (leading_bytes tape)
copied_more tape buffer i byte room le is same = search (rules, take_more_set, next_byte)

-- all bytes are copied
pub copied_all : (tape : Tape) (buffer : List ℕ) (i : ℕ) → i < length buffer → i ≤ length (leading_bytes tape)
    → byte_of (slice_get tape i) ≡ None
    → take i buffer ≡ take i (leading_bytes tape) → take i buffer ≡ take (length buffer) (leading_bytes tape)
copied_all tape buffer i room le is same = search (rules, no_byte, take_all)

-- the bytes after a piece in its buffer aren't part of it
pub piece_alone : (heard : Heard) (prefix back : List ℕ) → FitsBuffer heard (length prefix)
    → items_of heard (prefix ++ back) ≡ items_of heard prefix
piece_alone heard prefix back fits = search (rules, take-append-le)

-- the room for a piece whose bytes replace the prefix of a buffer
pub room_of : (prefix buffer : List ℕ) (cut most : ℕ) → most ≡ min cut (length buffer)
    → length prefix ≡ length (take most buffer) → length prefix ≡ min cut (length (prefix ++ drop most buffer))
room_of prefix buffer cut most is same = search (rules, length-append, length-drop)

-- the items from a place on, as the code cuts them off
pub from_place : (size room at : ℕ) (given items : Tape) → size ≡ room → given ≡ items
    → next_piece size (take (length given - at) (drop at given)) ≡ next_piece room (drop at items)
from_place size room at given items fits is = search (rules, take_rest)
