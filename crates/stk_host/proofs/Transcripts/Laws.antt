-- Laws of transcripts.
use Rattle.std.proofs.Common.{◌≡◌, ℕ, [], ◌∷◌, ◌++◌, refl, sym, ap, ◌∙◌, append_assoc, rules}
use Rattle.std.proofs.lemmas.List.{append-nil}
use Rattle.stk_host.specs.Tape.{Tape}
use Rattle.stk_host.specs.Transcript.{Transcript, Sent, Taken, Got, NoneTaken, IsNothingOrTaken, sent, heard, Grows}
use Rattle.stk_host.specs.Reach.{NothingReceived, WaitsFrom}

pub sent_append : (x y : Transcript) → sent (x ++ y) ≡ sent x ++ sent y
sent_append [] y = refl
sent_append (Sent bytes ∷ x) y = ap (λ bs. bytes ++ bs) (sent_append x y) ∙ sym (append_assoc bytes (sent x) (sent y))
sent_append (Taken bytes ∷ x) y = ap (λ bs. bytes ++ bs) (sent_append x y) ∙ sym (append_assoc bytes (sent x) (sent y))
sent_append (Got tape ∷ x) y = sent_append x y

pub got_append : (x y : Transcript) → heard (x ++ y) ≡ heard x ++ heard y
got_append [] y = refl
got_append (Got tape ∷ x) y = ap (λ t. tape ++ t) (got_append x y) ∙ sym (append_assoc tape (heard x) (heard y))
got_append (other ∷ x) y = got_append x y

-- what both parts received, before what follows
pub got_both : (u : Tape) (x y : Transcript) (more : Tape)
    → u ++ (heard (x ++ y) ++ more) ≡ u ++ (heard x ++ (heard y ++ more))
got_both u x y more = search (rules, got_append, append_assoc)

pub grows_none : (old : Transcript) → Grows old [] old
grows_none old = sym (append-nil old)

pub grows_on : (a b c : Transcript) (x y : Transcript) → Grows a x b → Grows b y c → Grows a (x ++ y) c
grows_on a b c x y f g = g ∙ ap (λ (t : Transcript). t ++ y) f ∙ append_assoc a x y

-- in a quiet transcript nothing is received
pub got_quiet : (transcript : Transcript) → NothingReceived transcript → heard transcript ≡ []
got_quiet [] quiet = refl
got_quiet (Sent bytes ∷ transcript) quiet = got_quiet transcript quiet
got_quiet transcript quiet = search rules

pub quiet_append : (x y : Transcript) → NoneTaken x → NothingReceived x → NothingReceived y → NothingReceived (x ++ y)
quiet_append [] y none f g = g
quiet_append (Sent bytes ∷ x) y none f g = quiet_append x y none f g
quiet_append x y none f g = search rules

pub taken_quiet : (last : Transcript) → IsNothingOrTaken last → NothingReceived last
taken_quiet last taken = search rules

-- nothing is sent during the wait for a reply
pub sent_waiting : (seq : ℕ) (tape : Tape) (transcript : Transcript) → WaitsFrom seq tape transcript
    → sent transcript ≡ []
sent_waiting seq tape [] waits = refl
sent_waiting seq tape (Got items ∷ transcript) waits = sent_waiting seq (tape ++ items) transcript waits.1
sent_waiting seq tape (other ∷ transcript) waits = absurd waits

pub waits_append : (seq : ℕ) (tape : Tape) (x y : Transcript) → WaitsFrom seq tape x → WaitsFrom seq (tape ++ heard x) y
    → WaitsFrom seq tape (x ++ y)
waits_append seq tape [] y f g = rw (append-nil tape) at g
waits_append seq tape (Got items ∷ x) y f g =
    (f.0, waits_append seq (tape ++ items) x y f.1 (rw (← append_assoc tape items (heard x)) at g))
waits_append seq tape (other ∷ x) y f g = absurd f

-- where no send failed

pub none_append : (x y : Transcript) → NoneTaken x → NoneTaken y → NoneTaken (x ++ y)
none_append [] y f g = g
none_append (Taken bytes ∷ x) y f g = absurd f
none_append (other ∷ x) y f g = none_append x y f g

pub none_behind : (x y : Transcript) → NoneTaken (x ++ y) → NoneTaken y
none_behind [] y f = f
none_behind (Taken bytes ∷ x) y f = absurd f
none_behind (other ∷ x) y f = none_behind x y f

pub none_waiting : (seq : ℕ) (tape : Tape) (transcript : Transcript) → WaitsFrom seq tape transcript
    → NoneTaken transcript
none_waiting seq tape [] waits = tt
none_waiting seq tape (Got items ∷ transcript) waits = none_waiting seq (tape ++ items) transcript waits.1
none_waiting seq tape (other ∷ transcript) waits = absurd waits

-- what is received isn't behind the last piece
pub not_behind : (before after : Transcript) (items : Tape) → before ++ Got items ∷ after ≡ [] → ⊥
not_behind [] after items is = cc
not_behind (piece ∷ before) after items is = cc
