-- A call breaks off in one way: laws of every dialog, and LEAVE as a worked call.
use Rattle.std.proofs.Common.{◌≡◌, ℕ, ◌<◌, List, [], ◌∷◌, length, length-append, refl, sym, subst, arith, Err, false, rules}
use Rattle.stk_frame.specs.Commands.{body}
use Rattle.stk_frame.specs.HostCommands.{leave}
use Rattle.stk_host.specs.declared.fault.HostFault.TheVariants.{SendFailed, RecvFailed}
use Rattle.stk_host.specs.declared.link.Item.TheVariants.{Silence}
use Rattle.stk_host.specs.Tape.{answer}
use Rattle.stk_host.specs.Transcript.{Transcript, LinkState, Sent, Taken, Got, NoneTaken, sent}
use Rattle.stk_host.specs.Dialog.{Dialog, Event, Frame, bytes_sent}
use Rattle.stk_host.specs.Play.{Progress, progress_at, InTurn, played_over, BreaksSending, BreaksListening, BreaksOverLink}
use Rattle.stk_host.specs.Steps.{exchange, attempt, attempts_or_fault}
use Rattle.stk_host.specs.Operations.{closing}
use Rattle.stk_host.specs.Calls.{EndsCall}
use Rattle.stk_host.proofs.Transcripts.InDialogs.{bytes_append, breaks_asking}

-- a call that broke off in a frame has sent less than its run sends, unless a failed send took the end
pub sent_less : {E R : Type 0} {dialog : Dialog E R} {before : Progress} {transcript : Transcript}
    {shown : List (Event E)} → BreaksSending dialog before transcript shown → NoneTaken transcript
    → length (sent transcript) < length (bytes_sent (played_over dialog before transcript).events)
sent_less {dialog = dialog} {before = before} {transcript = transcript} f none =
    let some = f.not_whole none in search (rules, bytes_append, length-append)

-- so it doesn't listen
pub never_both : {E R : Type 0} {dialog : Dialog E R} {before : Progress} {transcript : Transcript}
    {some others : List (Event E)}
    → BreaksSending dialog before transcript some → BreaksListening dialog before transcript others → ⊥
never_both f g = search (rules, sent_less f g.none_taken)

-- a link with which nothing was done, and one that has failed after this transcript
abbrev fresh : LinkState
fresh = record { transcript = []; failures = 0 }

abbrev showing : Transcript → LinkState
showing transcript = record { transcript = transcript; failures = 1 }

-- nor does a call over it
pub never_either : {R : Type 0} (dialog : Dialog ⊥ R) (before : Progress) (transcript : Transcript)
    → BreaksOverLink SendFailed dialog before fresh (showing transcript)
    → BreaksOverLink RecvFailed dialog before fresh (showing transcript) → ⊥
never_either dialog before transcript f g =
    never_both
    (subst (λ t. BreaksSending dialog before t f.shown) (sym f.grows) f.breaks)
    (subst (λ t. BreaksListening dialog before t g.shown) (sym g.grows) g.breaks)

abbrev sixth : Progress
sixth = progress_at 6 []

abbrev leaving : List ℕ
leaving = 0x1B ∷ 0x06 ∷ 0x00 ∷ 0x03 ∷ 0x0E ∷ 0x11 ∷ 0x01 ∷ 0x01 ∷ 0x01 ∷ []

-- the frame was sent, and its reply not received
pub unreceived : EndsCall false closing sixth fresh (showing (Sent leaving ∷ [])) (Err RecvFailed) sixth
unfolding exchange attempt attempts_or_fault answer closing
unreceived = search rules

-- that is not a failure to send it
pub not_unsent : (after : Progress) → EndsCall false closing sixth fresh (showing (Sent leaving ∷ [])) (Err SendFailed)
    after → ⊥
not_unsent after f = never_either closing sixth (Sent leaving ∷ []) f unreceived

-- two bytes of the frame were sent
pub unsent : EndsCall false closing sixth fresh (showing (Sent (0x1B ∷ 0x06 ∷ []) ∷ [])) (Err SendFailed) sixth
unfolding exchange attempt attempts_or_fault answer closing
unsent = record {
  during = Sent (0x1B ∷ 0x06 ∷ []) ∷ [];
  shown = Frame (0x1B ∷ 0x06 ∷ []) ∷ [];
  grows = refl;
  breaks = breaks_asking (body leave) _ 6 [] (0x1B ∷ 0x06 ∷ [])
      (0x00 ∷ 0x03 ∷ 0x0E ∷ 0x11 ∷ 0x01 ∷ 0x01 ∷ 0x01 ∷ []) _ tt refl refl (λ none. omega arith);
  failed = refl;
}

-- that is not a failure to receive its reply
pub not_unreceived : (after : Progress) → EndsCall false closing sixth fresh (showing (Sent (0x1B ∷ 0x06 ∷ []) ∷ []))
    (Err RecvFailed) after → ⊥
not_unreceived after f = never_either closing sixth (Sent (0x1B ∷ 0x06 ∷ []) ∷ []) unsent f

-- that is not a failure to receive its reply either
pub not_unreceived_whole : (after : Progress) → EndsCall false closing sixth fresh (showing (Taken leaving ∷ []))
    (Err RecvFailed) after → ⊥
not_unreceived_whole after f = search rules

-- nothing was sent, and nothing received
pub unsent_at_all : EndsCall false closing sixth fresh (showing []) (Err SendFailed) sixth
unfolding exchange attempt attempts_or_fault answer closing
unsent_at_all = record {
  during = [];
  shown = Frame [] ∷ [];
  grows = refl;
  breaks = breaks_asking (body leave) _ 6 [] [] leaving _ tt refl refl (λ none. omega arith);
  failed = refl;
}

pub not_unasked : (after : Progress) → EndsCall false closing sixth fresh (showing []) (Err RecvFailed) after → ⊥
not_unasked after f = never_either closing sixth [] unsent_at_all f

-- listening before the frame is sent whole isn't in turn
pub not_early : InTurn closing sixth (Sent (0x1B ∷ 0x06 ∷ []) ∷ (Got (Silence ∷ []) ∷ [])) → ⊥
unfolding exchange attempt attempts_or_fault answer closing
not_early in_turn = let all : leaving ≡ 0x1B ∷ 0x06 ∷ [] = in_turn.0.all_sent in absurd (cc)
