-- Serving read by read.
use Rattle.std.proofs.Common.{ℕ, ◌+◌, ◌≤◌, List, [], ◌∷◌, ◌++◌, append_assoc, rules}
use Rattle.std.specs.Prelude.{◌≢◌}
use Rattle.std.proofs.lemmas.List.{append-nil}
use Rattle.stk_host.specs.Tape.{on_tape, bytes_on_tape}
use Rattle.stk_host.specs.Transcript.{Transcript, Got, NoneTaken, sent, heard as got_in, Grows, LinkState}
use Rattle.stk_host.proofs.Transcripts.Laws.{sent_append, got_append, got_quiet, grows_none, grows_on, none_append}
use Rattle.stk_host.proofs.Tapes.Readings.{bytes_of_append, bytes_of_on_tape}
use Rattle.stk_emu.specs.Programmer.{Programmer}
use Rattle.stk_emu.specs.Emulator.{EmulatorState}
use Rattle.avr_tool.specs.declared.serving_link.Served.{Served}
use Rattle.avr_tool.specs.declared.serving_link.Served.TheVariants.{SendFailed, TooManyReads}
use Rattle.avr_tool.specs.Serving.{ReceivesUntil, RepliesToAll, LastReplyFailed, NoSendFailed, ServingLeaves, Serves}
use Rattle.avr_tool.specs.Replying.{SendsAllReplies, SendsPartOfReplies}
use Rattle.avr_tool.proofs.Transcripts.{no_end_append, no_end_on_tape, reads_append, reads_quiet, in_turn_quiet, in_turn_append}
use Rattle.avr_tool.proofs.LaterReplies.{all_nothing, all_more, breaks_more, breaks_prefix, breaks_got}

-- A reply that failed in a later read failed in the whole transcript.
breaks_transcript : (p : Programmer) (text : List ℕ) (x y : Transcript) (mid now : EmulatorState)
    → RepliesToAll p text (bytes_on_tape (got_in x)) (sent x) mid
    → LastReplyFailed p (text ++ bytes_on_tape (got_in x)) (bytes_on_tape (got_in y)) y now
    → LastReplyFailed p text (bytes_on_tape (got_in (x ++ y))) (x ++ y) now
breaks_transcript p text x y mid now first then = search (rules, breaks_more, got_append, bytes_of_append)

-- Serving leaves after one more read what that read leaves.
leaves_more : (served : Served) (p : Programmer) (text : List ℕ) (x y : Transcript) (mid now : EmulatorState)
    → RepliesToAll p text (bytes_on_tape (got_in x)) (sent x) mid
    → ServingLeaves served p (text ++ bytes_on_tape (got_in x)) y now → ServingLeaves served p text (x ++ y) now
leaves_more served p text x y mid now first then =
    search (rules, breaks_transcript, breaks_prefix, sent_append, all_more, got_append, bytes_of_append)

-- What was received with one more read meets `ReceivesUntil`.
receives_more : (served : Served) (most_reads : ℕ) (x y : Transcript) → ReceivesUntil TooManyReads most_reads x
    → ReceivesUntil served 1 y → ReceivesUntil served (most_reads + 1) (x ++ y)
receives_more served most_reads x y first then = search (rules, no_end_append, got_append, append_assoc, reads_append)

-- If no send failed before, only those of the last read can have.
sends_more : (served : Served) (x y : Transcript) → NoneTaken x → NoSendFailed served y → NoSendFailed served (x ++ y)
sends_more served x y first then = search (rules, none_append)

-- Before the first read nothing was served.
pub serves_none : (machine : EmulatorState) (o : LinkState) → Serves machine 0 TooManyReads o o machine
serves_none machine o = search (rules, all_nothing, grows_none o.transcript)

-- Serving and one more read are serving.
pub serves_more : (served : Served) (most_reads : ℕ) (old mid now : EmulatorState) (a b c : LinkState)
    → Serves old most_reads TooManyReads a b mid → Serves mid 1 served b c now
    → Serves old (most_reads + 1) served a c now
serves_more served most_reads old mid now a b c first then =
    search (rules, grows_on, receives_more, sends_more, in_turn_append, leaves_more)

-- Serving that ended may be counted with more reads.
pub serves_within : (served : Served) (few many : ℕ) (old now : EmulatorState) (a b : LinkState) → served ≢ TooManyReads
    → few ≤ many → Serves old few served a b now → Serves old many served a b now
serves_within served few many old now a b other le s = search rules

-- the outcome of one read

-- If a piece was received and all replies were sent, this is one read.
pub read_replied : (piece : List ℕ) (old now : EmulatorState) (a b c : LinkState)
    → Grows a.transcript (Got (on_tape piece) ∷ []) b.transcript → SendsAllReplies old piece b c now
    → Serves old 1 TooManyReads a c now
read_replied piece old now a b c g r =
    let transcript : Transcript = r.sends.during in
    record {
      during = Got (on_tape piece) ∷ transcript;
      grows = grows_on a.transcript b.transcript c.transcript (Got (on_tape piece) ∷ []) transcript g r.sends.grows;
      receives = search (rules, got_quiet, append-nil, no_end_on_tape, reads_quiet);
      sends = r.sends.none_taken;
      in_turn = search (rules, in_turn_quiet);
      leaves = search (rules, bytes_of_on_tape, got_quiet, append-nil);
    }

-- If a piece was received and a reply failed, serving ended with this read.
pub read_broken : (piece : List ℕ) (old now : EmulatorState) (a b c : LinkState)
    → Grows a.transcript (Got (on_tape piece) ∷ []) b.transcript → SendsPartOfReplies old piece b c now
    → Serves old 1 SendFailed a c now
read_broken piece old now a b c g r =
    let transcript : Transcript = r.during in
    record {
      during = Got (on_tape piece) ∷ transcript;
      grows = grows_on a.transcript b.transcript c.transcript (Got (on_tape piece) ∷ []) transcript g r.grows;
      receives = search (rules, got_quiet, append-nil, no_end_on_tape, reads_quiet);
      sends = tt;
      in_turn = search (rules, in_turn_quiet);
      leaves = search (rules, bytes_of_on_tape, got_quiet, append-nil, breaks_prefix, breaks_got);
    }
