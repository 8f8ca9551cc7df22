-- Parts of a session, one after another.
use Rattle.std.proofs.Common.{◌≡◌, ◌++◌, List, [], None, Ok, Err, Result, rules}
use Rattle.avr_io.specs.declared.desk.Desk.{Ghosts as Desks}
use Rattle.stk_host.specs.declared.link.Link.{Ghosts as Links}
use Rattle.avr_session.specs.Actions.{Action}
use Rattle.avr_session.specs.Held.{Does}
use Rattle.avr_session.specs.declared.ending.End.{End}
use Rattle.avr_session.specs.declared.session.Session.{Session}
use Rattle.avr_session.proofs.ActionByAction.Sequences.{does_nothing, does_then, does_last}

-- A session whose host can be used has done no actions.
pub none_done : {D L : Type 0} (link : Links L) (desk : Desks D) (session : Session D L) → session.host.broken ≡ None
    → Does link desk [] session session (Ok tt)
none_done link desk session sound = search (rules, does_nothing)

module _ {D L : Type 0} (link : Links L) (desk : Desks D) (xs ys : List Action) where
  -- If actions were done without a fault, and then others, the actions of both lists were done in order.
  pub both_done : {a b c : Session D L} {result : Result (Unit {0}) End} → Does link desk xs a b (Ok tt)
      → Does link desk ys b c result → Does link desk (xs ++ ys) a c result
  both_done {a = a} {result = result} done rest =
      let performs = does_then a.plan.now xs ys _ done.performs (rw done.plan at rest.performs) in search rules

  -- If actions ended in a fault, the actions of both lists ended in it, because the others are skipped.
  pub first_ends : {a b : Session D L} {end : End} → Does link desk xs a b (Err end)
      → Does link desk (xs ++ ys) a b (Err end)
  first_ends {a = a} {end = end} done = search (rules, does_last)
