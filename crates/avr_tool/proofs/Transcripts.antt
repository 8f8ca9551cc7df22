-- Laws of what is received, and of transcripts in turn.
use Rattle.std.proofs.Common.{◌≡◌, ℕ, ◌+◌, List, [], ◌∷◌, ◌++◌, refl, sym, subst, append_assoc, arith, rules}
use Rattle.std.proofs.lemmas.List.{append-nil}
use Rattle.stk_host.specs.Tape.{Tape, on_tape, bytes_on_tape}
use Rattle.stk_host.specs.Transcript.{Transcript, Sent, Taken, Got, NoneTaken, sent, heard}
use Rattle.stk_host.specs.Reach.{NothingReceived}
use Rattle.stk_host.proofs.Tapes.Readings.{bytes_of_append}
use Rattle.stk_emu.specs.Programmer.{Programmer}
use Rattle.avr_tool.specs.Serving.{HasNoEnd, reads, RepliesInTurn}

-- Two tapes without an end have none together.
pub no_end_append : (x y : Tape) → HasNoEnd x → HasNoEnd y → HasNoEnd (x ++ y)
no_end_append [] y f g = g
no_end_append (item ∷ x) y f g = (f.0, no_end_append x y f.1 g)

-- Bytes on a tape are no end.
pub no_end_on_tape : (bytes : List ℕ) → HasNoEnd (on_tape bytes)
no_end_on_tape [] = tt
no_end_on_tape (b ∷ bytes) = ((λ e. cc), no_end_on_tape bytes)

-- The reads of two transcripts add up.
pub reads_append : (x y : Transcript) → reads (x ++ y) ≡ reads x + reads y
reads_append [] y = omega arith
reads_append (Got tape ∷ x) y = omega (arith, reads_append x y)
reads_append (other ∷ x) y = reads_append x y

-- nothing is read in a quiet transcript, so its replies are in turn
pub reads_quiet : (transcript : Transcript) → NothingReceived transcript → reads transcript ≡ 0
reads_quiet [] quiet = refl
reads_quiet (Sent bytes ∷ transcript) quiet = reads_quiet transcript quiet
reads_quiet transcript quiet = search rules

-- A transcript in which nothing is received is in turn.
pub in_turn_quiet : (p : Programmer) (text out : List ℕ) (transcript : Transcript) → NothingReceived transcript
    → RepliesInTurn p text out transcript
in_turn_quiet p text out [] quiet = tt
in_turn_quiet p text out (Sent bytes ∷ transcript) quiet = in_turn_quiet p text (out ++ bytes) transcript quiet
in_turn_quiet p text out transcript quiet = search rules

-- Two transcripts in turn, one after the other.
pub in_turn_append : (p : Programmer) (text out : List ℕ) (x y : Transcript) → NoneTaken x → RepliesInTurn p text out x
    → RepliesInTurn p (text ++ bytes_on_tape (heard x)) (out ++ sent x) y → RepliesInTurn p text out (x ++ y)
in_turn_append p text out [] y none f g = search (rules, append-nil)
in_turn_append p text out (Sent bytes ∷ x) y none f g =
    search (rules, append_assoc, in_turn_append p text (out ++ bytes) x y none f)
in_turn_append p text out (Taken bytes ∷ x) y none f g = absurd none
in_turn_append p text out (Got tape ∷ x) y none f g =
    search (rules, bytes_of_append, append_assoc, in_turn_append p (text ++ bytes_on_tape tape) out x y none f.1)
