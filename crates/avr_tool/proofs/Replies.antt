-- Replies to one piece, frame by frame, and how each is sent.
use Rattle.std.proofs.lemmas.Grind.{common_steps}
use Rattle.std.proofs.Common.{◌≡◌, ℕ, ◌+◌, List, ◌++◌, take, drop, sym, ap, ◌∙◌, subst, rules, arith}
use Rattle.std.proofs.lemmas.List.{take-append-drop}
use Rattle.std.proofs.Math.Seq.{take-add}
use Rattle.stk_host.specs.Transcript.{LinkState, sent}
use Rattle.stk_host.specs.Reach.{SendsExactly, SendsOnlyPart}
use Rattle.stk_host.proofs.Transcripts.Laws.{sent_append, grows_on, quiet_append, none_append}
use Rattle.stk_emu.specs.Emulator.{EmulatorState, RepliesToFrame}
use Rattle.avr_tool.specs.Serving.{RepliesToAll, LastReplyFailed}
use Rattle.avr_tool.specs.Replying.{SendsAllReplies, SendsPartOfReplies}
use Rattle.avr_tool.proofs.LaterReplies.{all_fed, all_more, breaks_here, breaks_more}

-- the bytes after the first n are fed, up to the first reply
module _ (piece part out : List ℕ) (n used : ℕ) (old mid now : EmulatorState) (a b c : LinkState)
    (r : SendsAllReplies old (take n piece) a b mid) (is : part ≡ drop n piece)
    (one : RepliesToFrame mid (take used part) now out) where
  -- If the next reply was sent, all replies to more bytes were.
  pub replies_more : SendsExactly out b.transcript c.transcript → SendsAllReplies old (take (n + used) piece) a c now
  replies_more sends = record {
    out = r.out ++ out;
    sends = grind (arith, common_steps, grows_on, quiet_append, none_append, sent_append);
    replies = λ p text f.
        let first = r.replies p text f in
        subst (λ bs. RepliesToAll p text bs (r.out ++ out) now)
        (ap (λ bs. take n piece ++ take used bs) is ∙ sym (take-add n used piece))
        (search (rules, all_more, all_fed));
  }

  -- If the next reply was sent in part, the last reply failed.
  pub replies_part : SendsOnlyPart out b.transcript c.transcript → SendsPartOfReplies old piece a c now
  replies_part s = record {
    during = r.sends.during ++ s.during;
    grows = grows_on a.transcript b.transcript c.transcript r.sends.during s.during r.sends.grows s.grows;
    quiet = quiet_append r.sends.during s.during r.sends.none_taken r.sends.quiet s.quiet;
    breaks = λ p text f.
        let first : RepliesToAll p text (take n piece) (sent r.sends.during) mid =
        rw r.sends.bytes_sent (r.replies p text f) in
        subst (λ bs. LastReplyFailed p text bs (r.sends.during ++ s.during) now)
        (ap (λ bs. take n piece ++ bs) (take-append-drop used part ∙ is) ∙ take-append-drop n piece)
        (search (rules, breaks_more, breaks_here));
  }
