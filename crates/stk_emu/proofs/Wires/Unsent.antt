-- How many bytes are sent, when a piece is added.
use Rattle.std.proofs.Common.{◌≡◌, ◌∙◌, ◌+◌, ◌++◌, ◌∷◌, [], ℕ, List, ap, length, take, length-append, append-nil, rules}
use Rattle.std.proofs.Math.Seq.{take-length}
use Rattle.stk_host.specs.Tape.{Tape}
use Rattle.stk_host.specs.Transcript.{Transcript, Sent, Got, sent}
use Rattle.stk_host.proofs.Transcripts.Laws.{sent_append}

pub unsent_sending : (t : Transcript) (bytes : List ℕ)
    → length (sent (t ++ Sent (take (length bytes) bytes) ∷ [])) ≡ length (sent t) + length bytes
unsent_sending t bytes =
    search (rules, take-length, sent_append, append-nil, length-append)

pub unsent_receiving : (t : Transcript) (items : Tape) → sent (t ++ Got items ∷ []) ≡ sent t
unsent_receiving t items = sent_append t (Got items ∷ []) ∙ append-nil (sent t)
