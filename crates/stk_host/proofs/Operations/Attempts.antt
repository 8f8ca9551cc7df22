-- Commands, attempts and steps, in the order of the code.
use Rattle.std.proofs.Common.{◌≡◌, ℕ, zero, suc, List, [], ◌∷◌, ◌++◌, refl, Ok, Err, Result, rules}
use Rattle.stk_frame.specs.declared.command.Command.{Command}
use Rattle.stk_frame.specs.Frame.{frame}
use Rattle.stk_frame.specs.Commands.{body}
use Rattle.ghosts.specs.Preserves.{Preserves}
use Rattle.stk_host.specs.declared.link.Link.{Ghosts}
use Rattle.stk_host.specs.declared.fault.StepFault.{StepFault}
use Rattle.stk_host.specs.Tape.{Reading}
use Rattle.stk_host.specs.Transcript.{LinkState, HasFailed}
use Rattle.stk_host.specs.Dialog.{Dialog, Done, Frame, next}
use Rattle.stk_host.specs.declared.fault.HostFault.{HostFault}
use Rattle.stk_host.specs.declared.fault.HostFault.TheVariants.{SendFailed, RecvFailed}
use Rattle.stk_host.specs.Play.{Progress, RunsOverLink, BreaksOverLink}
use Rattle.stk_host.specs.Reach.{Reaches, SendsExactly, SendsOnlyPart, ReceivesReply, ReceivesNoReply}
use Rattle.stk_host.specs.declared.conversation.Reply as in_code
use Rattle.stk_host.specs.declared.conversation.Reply.TheVariants as replies
use Rattle.stk_host.specs.State.{ConversationState}
use Rattle.stk_host.specs.Calls.{ReturnsReply, reply_of}
use Rattle.stk_host.specs.Steps.{exchange, attempt, attempts_or_fault, Reply, Data, Again, Stop, reply_from_reading, with_data, retry_or_end, StepOutcome}
use Rattle.stk_host.proofs.Transcripts.Laws.{grows_on}
use Rattle.stk_host.proofs.Transcripts.InDialogs.{leads_ask, plays_from, breaks_asking, breaks_listening}
use Rattle.stk_host.proofs.Transcripts.Reached.{reaches_on, reaches_from, played_from, broken_on, broken_bind, then_reaches}

-- one command and its reply

pub exchange_done : (seq then : ℕ) (command : Command) {u v : List ℕ} {o p q : LinkState} {reading : Reading}
    → SendsExactly (frame seq (body command)) o.transcript p.transcript → ReceivesReply seq u p q reading v → then
    ≡ next seq → q.failures ≡ o.failures
    → RunsOverLink (exchange command) (record { next = seq; unread = u }) o q (reply_from_reading command reading)
    (record { next = then; unread = v })
unfolding exchange
exchange_done seq then command {u = u} {v = v} {o = o} {p = p} {q = q} {reading = reading} sends receives is same =
    record {
      during = sends.during ++ receives.during;
      events = Frame (frame seq (body command)) ∷ [];
      grows = grows_on o.transcript p.transcript q.transcript sends.during receives.during sends.grows receives.grows;
      plays = rw is (plays_from (leads_ask (body command) (λ r. Done (reply_from_reading command r)) seq u v
          sends.during receives.during reading sends.quiet sends.none_taken sends.bytes_sent receives.waits
          receives.reading_is));
      sound = same;
    }

pub exchange_unsent : (seq : ℕ) (command : Command) (u : List ℕ) {o p : LinkState}
    → SendsOnlyPart (frame seq (body command)) o.transcript p.transcript → HasFailed o p
    → BreaksOverLink SendFailed (exchange command) (record { next = seq; unread = u }) o p
unfolding exchange
exchange_unsent seq command u sends failed = record {
  during = sends.during;
  shown = Frame sends.part ∷ [];
  grows = sends.grows;
  breaks = search (rules, breaks_asking);
  failed = failed;
}

pub exchange_unreceived : (seq : ℕ) (command : Command) {u : List ℕ} {o p q : LinkState}
    → SendsExactly (frame seq (body command)) o.transcript p.transcript → ReceivesNoReply seq u p q → HasFailed o q
    → BreaksOverLink RecvFailed (exchange command) (record { next = seq; unread = u }) o q
unfolding exchange
exchange_unreceived seq command {u = u} {o = o} {p = p} {q = q} sends receives failed = record {
  during = sends.during ++ receives.during;
  shown = Frame (frame seq (body command)) ∷ [];
  grows = grows_on o.transcript p.transcript q.transcript sends.during receives.during sends.grows receives.grows;
  breaks = search (rules, breaks_listening);
  failed = failed;
}

-- an attempt whose next command was sent and got its reply

attempt_on : (command : Command) (commands : List Command) (before : List ℕ) {seq n : Progress} {o q : LinkState}
    (reply : Reply) → RunsOverLink (exchange command) seq o q reply n → Reaches (attempt (command ∷ commands) before)
    seq o (with_data (λ bytes. attempt commands (before ++ bytes)) reply) n q
unfolding attempt
attempt_on command commands before reply f = then_reaches (with_data (λ bytes. attempt commands (before ++ bytes))) f

-- or it broke off there
pub attempt_off : {by : HostFault} (command : Command) (commands : List Command) {seq : Progress} {o q : LinkState}
    → BreaksOverLink by (exchange command) seq o q → BreaksOverLink by (attempt (command ∷ commands) []) seq o q
unfolding attempt
attempt_off command commands f = broken_bind (with_data (λ bytes. attempt commands ([] ++ bytes))) f

-- an attempt of one command
by_reply : (last : Command) (reply : in_code.Reply) (bytes : List ℕ) {m n : Progress} {o q : LinkState}
    → RunsOverLink (exchange last) m o q (reply_of reply bytes) n
    → RunsOverLink (attempt (last ∷ []) []) m o q (reply_of reply bytes) n
unfolding attempt
by_reply last replies.Data bytes e = played_from (attempt_on last [] [] (Data bytes) e)
by_reply last reply bytes e = played_from (attempt_on last [] [] (reply_of reply bytes) e)

pub gets_one : {L : Type 0} {link : Ghosts L} (last : Command) (m n : ConversationState) (o q : L)
    (result : Result in_code.Reply HostFault) → ReturnsReply link (exchange last) last m n o q result
    → ReturnsReply link (attempt (last ∷ []) []) last m n o q result
gets_one last m n o q (Ok reply) f = search (rules, by_reply)
gets_one last m n o q (Err fault) f = search (rules, attempt_off)

-- an attempt of two commands, whose first got a reply without data
pub gets_last : {L : Type 0} {link : Ghosts L} (first last : Command) (m n after : ConversationState) (o p q : L)
    (was : in_code.Reply) (none : List ℕ) (result : Result in_code.Reply HostFault)
    → RunsOverLink (exchange first) m.progress (link.view o) (link.view p) (reply_of was none) n.progress
    → Preserves link.started_as o p → was ≡ replies.Data → none ≡ [] → ReturnsReply link (exchange last) last n after p
    q result → ReturnsReply link (attempt (first ∷ last ∷ []) []) last m after o q result
gets_last {link = link} first last m n after o p q was none result f stays is nothing g =
    by_result result (gets_one last n after p q result g)
  where
    begun : Reaches (attempt (first ∷ last ∷ []) []) m.progress (link.view o) (attempt (last ∷ []) []) n.progress
        (link.view p)
    begun = attempt_on first (last ∷ []) [] (Data []) (rw (is, nothing) at f)

    by_result : (result : Result in_code.Reply HostFault) → ReturnsReply link (attempt (last ∷ []) []) last n after p q
        result → ReturnsReply link (attempt (first ∷ last ∷ []) []) last m after o q result
    by_result (Ok reply) e = search (rules, played_from (reaches_on begun (reaches_from e.ok)), f.sound)
    by_result (Err fault) e = search (rules, broken_on begun e.err, f.sound)

-- an attempt whose first command brought no data
pub gets_short : (first last : Command) (was : in_code.Reply) (none bytes : List ℕ) {m n : Progress} {o p : LinkState}
    → RunsOverLink (exchange first) m o p (reply_of was none) n → (was ≡ replies.Data → ⊥)
    → RunsOverLink (attempt (first ∷ last ∷ []) []) m o p (reply_of was bytes) n
gets_short first last replies.Data none bytes f short = absurd (short refl)
gets_short first last was none bytes f short = search (rules, played_from, attempt_on, was, none, f)

-- one round of the loop over the attempts

tries_on : (more : ℕ) (commands : List Command) (last : StepFault) {seq n : Progress} {o q : LinkState} (reply : Reply)
    → RunsOverLink (attempt commands []) seq o q reply n
    → Reaches (attempts_or_fault (suc more) commands last) seq o (retry_or_end (attempts_or_fault more commands) reply)
    n q
unfolding attempts_or_fault
tries_on more commands last reply f = then_reaches (retry_or_end (attempts_or_fault more commands)) f

tries_none : (commands : List Command) (last : StepFault) → attempts_or_fault zero commands last ≡ Done (Err last)
unfolding attempts_or_fault
tries_none commands last = refl

tries_off : {by : HostFault} (more : ℕ) (commands : List Command) (last : StepFault) {seq : Progress} {o q : LinkState}
    → BreaksOverLink by (attempt commands []) seq o q → BreaksOverLink by (attempts_or_fault (suc more) commands last)
    seq o q
unfolding attempts_or_fault
tries_off more commands last f = broken_bind (retry_or_end (attempts_or_fault more commands)) f

-- in the form of the code: it has come this far, and an attempt is left
module _ {a : Dialog ⊥ StepOutcome} {l seq : Progress} {j o : LinkState} {k : ℕ} (more : ℕ) (commands : List Command)
    (last : StepFault) (count : k ≡ suc more) (come : Reaches a l j (attempts_or_fault k commands last) seq o) where
  next_try : Reaches a l j (attempts_or_fault (suc more) commands last) seq o
  next_try = rw count at come

  try : {n : Progress} {q : LinkState} (reply : Reply) → RunsOverLink (attempt commands []) seq o q reply n
      → Reaches a l j (retry_or_end (attempts_or_fault more commands) reply) n q
  try reply f = reaches_on next_try (tries_on more commands last reply f)

  pub try_again : {n : Progress} {q : LinkState} {fault : StepFault} {reply : in_code.Reply} (bytes : List ℕ)
      → RunsOverLink (attempt commands []) seq o q (reply_of reply bytes) n → reply ≡ replies.Again fault
      → Reaches a l j (attempts_or_fault more commands fault) n q
  try_again {fault = fault} bytes f again = try (Again fault) (rw again at f)

  pub try_data : {n : Progress} {q : LinkState} {bytes : List ℕ} {reply : in_code.Reply}
      → RunsOverLink (attempt commands []) seq o q (reply_of reply bytes) n → reply ≡ replies.Data
      → RunsOverLink a l j q (Ok bytes) n
  try_data {bytes = bytes} f is_data = played_from (try (Data bytes) (rw is_data at f))

  pub try_stop : {n : Progress} {q : LinkState} {fault : StepFault} {reply : in_code.Reply} (bytes : List ℕ)
      → RunsOverLink (attempt commands []) seq o q (reply_of reply bytes) n → reply ≡ replies.Stop fault
      → RunsOverLink a l j q (Err fault) n
  try_stop {fault = fault} bytes f stop = played_from (try (Stop fault) (rw stop at f))

  pub try_breaks : {by : HostFault} {q : LinkState} → BreaksOverLink by (attempt commands []) seq o q
      → BreaksOverLink by a l j q
  try_breaks f = broken_on next_try (tries_off more commands last f)

pub try_end : {a : Dialog ⊥ StepOutcome} {l seq : Progress} {j o : LinkState} (k : ℕ) (commands : List Command)
    (last : StepFault) → Reaches a l j (attempts_or_fault k commands last) seq o → k ≡ 0
    → RunsOverLink a l j o (Err last) seq
try_end k commands last f is = played_from (rw (is, tries_none commands last) at f)
