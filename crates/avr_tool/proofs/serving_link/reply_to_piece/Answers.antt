-- The clauses of `reply_to_piece`, at each exit where no search finds the proof.
use Rattle.std.proofs.Common.{rules}
use Rattle.std.proofs.lemmas.List.{take_rest}
use Rattle.std.proofs.lemmas.Result.{err_from_is_err_and}
use Rattle.stk_frame.proofs.FedReaders.{within_span}
use Rattle.avr_tool.proofs.Replies.{replies_more, replies_part}
use Rattle.avr_tool.proofs.serving_link.reply_to_piece.Goals as goal

pub returns-in_err-send_all-clause-err : goal.returns-in_err-send_all-clause-err
returns-in_err-send_all-clause-err g c =
    let p = err_from_is_err_and c.from_residual.result c.from_residual.ensures.1 in
    let sends = rw c.as_slice.ensures.value at c.in_err-send_all.ensures.sends.err in
    rw p.1 (search (rules, replies_part, take_rest))

pub loop-used-preserved : goal.loop-used-preserved
loop-used-preserved g c =
    let sends = rw c.as_slice.ensures.value at c.in_ok-send_all.ensures.sends.ok in record {
      in_range = search (rules, within_span);
      replies = search (rules, replies_more, take_rest);
      counted = search rules;
      comes = search rules;
    }
