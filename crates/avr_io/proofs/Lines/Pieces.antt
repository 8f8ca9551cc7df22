-- Pieces of a line, written one after another.
use Rattle.std.proofs.lemmas.Grind.{common_steps}
use Rattle.std.proofs.lemmas.Bool.Decides.{nat_tests}
use Rattle.std.proofs.Common.{◌≡◌, refl, subst, arith, ℕ, ◌+◌, List, [], ◌∷◌, ◌++◌, append_assoc, append-nil, take, drop, length, map, get_or, ◌<◌, ◌≤◌, OnOk, OnErr, Result, Ok, Err}
use Rattle.std.specs.List.{concat}
use Rattle.std.proofs.lemmas.List.{drop_more, take-append-drop, take_all}
use Rattle.avr_io.specs.Record.{Record, after_err, showing}
use Rattle.avr_io.specs.Stream.{SendsPart}
use Rattle.avr_io.specs.declared.stream.Stream.TheVariants.{Messages}
use Rattle.avr_io.specs.declared.desk.DeskFault.{DeskFault}
use Rattle.avr_io.proofs.Lines.SentBytes.{sent_next_part}
use Rattle.avr_io.specs.Lines.{line, text_of}
use Rattle.avr_io.specs.OutputEvents.{IsPrinted}
use Rattle.avr_io.specs.declared.line.Piece.{Piece}

-- the text of all pieces
abbrev pub all_text : List Piece → List ℕ
all_text ps = concat (map text_of ps)

-- the text of two lists of pieces is that of the first, then that of the second
all_text-append : (ps qs : List Piece) → all_text (ps ++ qs) ≡ all_text ps ++ all_text qs
all_text-append [] qs = refl
all_text-append (p ∷ ps) qs = grind (arith, nat_tests, all_text-append ps qs, append_assoc)

-- the pieces before the ith, the ith, and those after it
pub all_text_at : (ps : List Piece) (i : ℕ) (d : Piece) → i < length ps
    → all_text ps ≡ all_text (take i ps) ++ (text_of (get_or ps i d) ++ all_text (drop (i + 1) ps))
all_text_at ps i d l =
    grind (arith, nat_tests, take-append-drop i ps, all_text-append (take i ps) (drop i ps), drop_more ps i d l)

-- the text of the pieces up to the ith is that of those before, then that of the ith
pub all_text_more : (ps : List Piece) (i : ℕ) (d : Piece) → i < length ps
    → all_text (take (i + 1) ps) ≡ all_text (take i ps) ++ text_of (get_or ps i d)
all_text_more ps i d l = grind (arith, common_steps, all_text-append, append-nil)

-- a line is at least as long as its mark and the pieces up to the ith
pub line_longer : (mark so_far : List ℕ) (ps : List Piece) (i : ℕ) (d : Piece) (room : ℕ) → i < length ps
    → so_far ≡ mark ++ all_text (take i ps) → room < length so_far + length (text_of (get_or ps i d))
    → room < length (line mark (map text_of ps))
line_longer mark so_far ps i d room within is over = grind (arith, common_steps, all_text_at ps i d within)

-- a part of the ith piece was sent after the mark and the pieces before; without the counts
pub line_breaks : (old now new : Record) (mark : List ℕ) (ps : List Piece) (i : ℕ) (d : Piece) → i < length ps
    → now ≡ after_err (mark ++ all_text (take i ps)) old
    → SendsPart Messages (showing now 0 0) (showing new 0 0) (text_of (get_or ps i d))
    → SendsPart Messages (showing old 0 0) (showing new 0 0) (line mark (map text_of ps))
line_breaks old now new mark ps i d within sent part =
    subst (SendsPart Messages (showing old 0 0) (showing new 0 0))
    (grind (arith, nat_tests, append_assoc, all_text_at ps i d within))
    (sent_next_part Messages old now new (mark ++ all_text (take i ps)) (text_of (get_or ps i d))
    (all_text (drop (i + 1) ps) ++ 10 ∷ []) sent part)

-- the end of a line after its mark and its pieces, without the counts
pub line_ends : (old then new : Record) (mark : List ℕ) (ps : List Piece) (i : ℕ) (result : Result (Unit {0}) DeskFault)
    → length ps ≤ i → then ≡ after_err (mark ++ all_text (take i ps)) old → OnOk result (new ≡ after_err (10 ∷ []) then)
    → OnErr result (SendsPart Messages (showing then 0 0) (showing new 0 0) (10 ∷ []))
    → IsPrinted (showing old 0 0) (showing new 0 0) (line mark (map text_of ps)) result
line_ends old then new mark ps i (Ok done) past sent all part =
    grind (arith, common_steps, append_assoc, take_all i ps past)
line_ends old then new mark ps i (Err fault) past sent all part =
    subst (SendsPart Messages (showing old 0 0) (showing new 0 0))
    (grind (arith, common_steps, append_assoc, take_all i ps past))
    (sent_next_part Messages old then new (mark ++ all_text (take i ps)) (10 ∷ []) [] sent part)
