use Rattle.std.proofs.Common.{◌∙◌, ap, sym, arith, ◌∷◌, ◌++◌, [], rules}
use Rattle.std.proofs.lemmas.List.{append-nil}
use Rattle.stk_host.specs.Transcript as transcript
use Rattle.stk_host.specs.declared.log.Mark.TheVariants as mark
use Rattle.stk_host.proofs.Transcripts.Logs.{log_adds, counts_more, items_received, count_received}
use Rattle.stk_host.proofs.log.Log.add_received.Goals as goal

pub invariant_of-self-2 : goal.invariant_of-self-2
invariant_of-self-2 c =
    counts_more c.self.inside.marks.items _ c.self.inside.out.items _ c.self.inside.back.items _ []
    c.received.result.now (mark.Heard c.args.heard) c.self.invariant.0 c.self.invariant.1
    (c.push_reserved.ensures.items ∙ ap (λ ms. ms ++ mark.Heard c.args.heard ∷ []) c.reserve.ensures.items)
    (sym (append-nil c.self.inside.out.items)) c.in_ok-extend_from_slice.ensures.items (omega arith)
    (search (rules, count_received))

pub returns-clause-ok : goal.returns-clause-ok
returns-clause-ok c =
    log_adds c.self.inside.marks.items _ c.self.inside.out.items _ c.self.inside.back.items _ []
    c.received.result.now (mark.Heard c.args.heard) c.self.invariant.0 c.self.invariant.1
    (c.push_reserved.ensures.items ∙ ap (λ ms. ms ++ mark.Heard c.args.heard ∷ []) c.reserve.ensures.items)
    (sym (append-nil c.self.inside.out.items)) c.in_ok-extend_from_slice.ensures.items c.args.self.now.transcript
    (ap (λ s. s.transcript) c.self.view_is)
    ∙ ap (λ items. c.args.self.now.transcript ++ transcript.Got items ∷ [])
    (search (rules, items_received))
