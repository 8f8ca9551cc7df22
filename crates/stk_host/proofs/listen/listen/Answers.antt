use Rattle.std.proofs.Common.{arith, rules, ◌-◌}
use Rattle.std.proofs.lemmas.Result.{err_from_is_err_and}
use Rattle.stk_host.proofs.Transcripts.Listening.{Listening, begins, received_bytes, received_silence, received_end, reads_on, read_on, finds, babbles, receives_none}
use Rattle.stk_host.proofs.listen.listen.Goals as goal
use Rattle.stk_host.proofs.listen.listen.Goals.{then-is_empty+in_ok-receive_piece+in-Bytes, else-is_empty}

pub loop-count-init : goal.loop-count-init
loop-count-init g c = search (rules, begins)

pub returns-in-Silence : goal.returns-in-Silence
returns-in-Silence g c =
    let receives = received_silence c.loop-count.invariant.listening (c.is_empty.ensures.0 c.if-is_empty.true)
    (omega arith)
    c.in-Silence.is c.in_ok-receive_piece.ensures.ok in
    search rules

pub returns-in-End : goal.returns-in-End
returns-in-End g c =
    let receives = received_end c.loop-count.invariant.listening (c.is_empty.ensures.0 c.if-is_empty.true)
    (omega arith)
    c.in-End.is c.in_ok-receive_piece.ensures.ok in
    search rules

pub returns-in_err-receive_piece-clause-err : goal.returns-in_err-receive_piece-clause-err
returns-in_err-receive_piece-clause-err g c =
    let p = err_from_is_err_and c.from_residual.result c.from_residual.ensures.1 in
    rw p.1 (receives_none c.loop-count.invariant.listening (c.is_empty.ensures.0 c.if-is_empty.true) (omega arith)
    c.in_err-receive_piece.ensures.err)

pub returns-then-is_reply : goal.returns-then-is_reply
returns-then-is_reply g c =
    let l : Listening c.args.seq c.args.unread.now (g.L.Link.view c.args.link.now) c.loop-count.reader
    c.loop-count.count c.if-is_empty.unread (g.L.Link.view c.if-is_empty.link) =
    elim c.if-is_empty.branch [
      | then-is_empty+in_ok-receive_piece+in-Bytes w ↦ rw (w.unread-is, w.link-is)
          (received_bytes c.loop-count.invariant.listening (c.is_empty.ensures.0 w.if-is_empty.true) (omega arith)
          (omega (arith, w.in_ok-receive_piece.ensures.within)) w.in-Bytes.is w.in_ok-receive_piece.ensures.ok)
      | else-is_empty w ↦ rw (w.unread-is, w.link-is) c.loop-count.invariant.listening
    ] in
    let read = read_on _ (4096 - c.loop-count.count) _ c.prefix.ensures c.feed-used.ensures.within
    c.consume.ensures.left c.feed-used.ensures.fed in
    let receives = finds _ _ _ _ l read.0 (c.is_reply.ensures.yes c.if-is_reply.true)
    (omega (arith, read.1)) in
    search rules

pub loop-count-preserved : goal.loop-count-preserved
loop-count-preserved g c =
    let l : Listening c.args.seq c.args.unread.now (g.L.Link.view c.args.link.now) c.loop-count.reader
    c.loop-count.count c.if-is_empty.unread (g.L.Link.view c.if-is_empty.link) =
    elim c.if-is_empty.branch [
      | then-is_empty+in_ok-receive_piece+in-Bytes w ↦ rw (w.unread-is, w.link-is)
          (received_bytes c.loop-count.invariant.listening (c.is_empty.ensures.0 w.if-is_empty.true) (omega arith)
          (omega (arith, w.in_ok-receive_piece.ensures.within)) w.in-Bytes.is w.in_ok-receive_piece.ensures.ok)
      | else-is_empty w ↦ rw (w.unread-is, w.link-is) c.loop-count.invariant.listening
    ] in
    let read = read_on _ (4096 - c.loop-count.count) _ c.prefix.ensures c.feed-used.ensures.within
    c.consume.ensures.left c.feed-used.ensures.fed in
    record {
      in_range = omega (arith, read.1);
      fits = c.consume.ensures.fits;
      listening = reads_on _ _ _ _ l read.0 (c.is_reply.ensures.no c.if-is_reply.false);
      counted = elim c.if-is_empty.branch [
        | then-is_empty+in_ok-receive_piece+in-Bytes w ↦ rw w.link-is
            (omega (arith, w.in_ok-receive_piece.ensures.counts.sound, c.loop-count.invariant.counted))
        | else-is_empty w ↦ rw w.link-is c.loop-count.invariant.counted
      ];
      comes = elim c.if-is_empty.branch [
        | then-is_empty+in_ok-receive_piece+in-Bytes w ↦ rw w.link-is
            (λ start of. w.in_ok-receive_piece.ensures.comes start (c.loop-count.invariant.comes start of))
        | else-is_empty w ↦ rw w.link-is c.loop-count.invariant.comes
      ];
    }

pub returns : goal.returns
returns g c =
    let receives = babbles c.loop-count.invariant.listening (omega arith) in
    search rules
