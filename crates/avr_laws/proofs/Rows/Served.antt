-- The limit of a chip file. Then worked outcomes that contracts refuse: of holding, of saving, and of
-- replies to a frame with a command that no programmer knows.
use Rattle.std.proofs.Common.{◌≡◌, refl, ap, ℕ, List, [], ◌∷◌, length, Ok, Err, arith, rules}
use Rattle.avr_io.specs.Record.{Bytes, DeskState, Record, after_err, nothing_kept, showing, with_held, with_replaced}
use Rattle.avr_laws.proofs.Limits.{LARGEST_CHIP_FILE}
use Rattle.avr_tool.specs.Holding.{LocksFile}
use Rattle.avr_io.specs.Lines.{error}
use Rattle.avr_tool.specs.Lines.{in_use_pieces}
use Rattle.avr_tool.specs.Saving.{SavesChip}
use Rattle.stk_host.specs.declared.link.Item.TheVariants.{End}
use Rattle.stk_host.specs.Tape.{on_tape}
use Rattle.stk_host.specs.Transcript.{Transcript, Sent, Got}
use Rattle.stk_emu.specs.Programmer.{Programmer}
use Rattle.avr_tool.specs.Serving.{RepliesInTurn}

-- the limit of a chip file
limits : LARGEST_CHIP_FILE ≡ 4194304
limits = refl

-- a desk of no requests and no failures, and one that shows this and has failed this often
abbrev pub begun : DeskState
begun = showing nothing_kept 0 0

abbrev now : Record → ℕ → DeskState
now r failures = showing r failures 0

abbrev denials : Record → ℕ
denials r = length r.denied

abbrev file_count : Record → ℕ
file_count r = length r.uses

-- a denial of a file that nobody was asked to lock
pub no_denial_unasked : (file : Bytes) → LocksFile begun (now (after_err (error (in_use_pieces file)) nothing_kept) 0) file
    (Err 1) → ⊥
no_denial_unasked file holds = search rules

-- a file that is held though the desk failed
pub no_hold_behind_a_failure : (file : Bytes) → LocksFile begun (now (with_held file nothing_kept) 1) file (Ok tt) → ⊥
no_hold_behind_a_failure file holds = let e : 1 ≡ 0 = holds.1.0 in omega (arith, e)

-- a save that failed and left an empty file
pub no_empty_file : (file bytes line : Bytes)
    → SavesChip begun (now (after_err line (with_replaced file [] nothing_kept)) 1) file bytes (Err 1) → ⊥
no_empty_file file bytes line saves = search rules

-- a save that succeeded though nothing was written, or though the desk failed
pub no_success_and_nothing_saved : (file bytes : Bytes) → SavesChip begun begun file bytes (Ok tt) → ⊥
no_success_and_nothing_saved file bytes saves = let e : 0 ≡ 1 = ap file_count saves.0 in omega (arith, e)

pub no_success_behind_a_failure : (file bytes : Bytes)
    → SavesChip begun (now (with_replaced file bytes nothing_kept) 1) file bytes (Ok tt) → ⊥
no_success_behind_a_failure file bytes saves = let e : 1 ≡ 0 = saves.1.0 in omega (arith, e)

abbrev frame : List ℕ
frame = 0x1B ∷ 0x09 ∷ 0x00 ∷ 0x01 ∷ 0x0E ∷ 0x05 ∷ 0x18 ∷ []

abbrev reply : List ℕ
reply = 0x1B ∷ 0x09 ∷ 0x00 ∷ 0x02 ∷ 0x0E ∷ 0x05 ∷ 0xC9 ∷ 0xD2 ∷ []

-- a programmer that listens before it replies isn't in turn, nor is one that keeps a byte of its reply
abbrev ahead : Transcript
ahead = Got (on_tape frame) ∷ (Got (End ∷ []) ∷ (Sent reply ∷ []))

-- one that listens before it replies
pub not_ahead : (p : Programmer) → RepliesInTurn p [] [] ahead → ⊥
not_ahead p in_turn = let none : [] ≡ reply = in_turn.1.0 in absurd (cc)

abbrev short : Transcript
short = Got (on_tape frame) ∷ (Sent (0x1B ∷ 0x09 ∷ 0x00 ∷ 0x02 ∷ 0x0E ∷ 0x05 ∷ 0xC9 ∷ []) ∷ (Got (End ∷ []) ∷ []))

-- one that keeps a byte
pub not_short : (p : Programmer) → RepliesInTurn p [] [] short → ⊥
not_short p in_turn = search rules
