use Rattle.std.proofs.Common.{refl}
use Rattle.std.proofs.lemmas.Result.{MatchResult-weaker}
use Rattle.avr_desk.proofs.Desks.Held.{put_and_left}
use Rattle.avr_desk.proofs.replacement.replace_named.Goals as goal

pub returns-then-is_held-clause-put : goal.returns-then-is_held-clause-put
returns-then-is_held-clause-put g c = MatchResult-weaker c.put_held.result c.put_held.ensures.put
    (λ done makes. makes c.args.name.now (c.if-is_held.ensures.held refl)) (λ error stays. stays)

pub returns-clause-put : goal.returns-clause-put
returns-clause-put g c =
    let locks = rw c.in-Some-2.is at c.in_ok-own.ensures.locks in
    put_and_left (g.R.FileSystem.replaced c.args.name.now c.args.bytes.now) g.R.FileSystem.has_done c.args.name.now
    c.put_held-put.result locks.1
    (MatchResult-weaker c.put_held-put.result c.put_held-put.ensures.put
    (λ done makes. makes c.args.name.now locks.0) (λ error stays. stays)) c.leave_held.ensures.leaves
