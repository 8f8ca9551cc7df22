use Rattle.std.specs.Prelude.{◌≡◌, Result, ⊤, drop}
use Rattle.avr_session.specs.Actions.{tasks_actions}
use Rattle.avr_session.specs.Held.{Does, IsReady}
use Rattle.avr_session.specs.declared.ending.End.{End}
use Rattle.avr_session.specs.declared.session.Session.{Session}
use Rattle.avr_session.proofs.session.Session.perform_all.Given as goal

-- what becomes of the remaining tasks becomes of all of them
abbrev pub invariant-loop-task : goal.invariant-loop-task
invariant-loop-task g l = record {
  completes : (new : Session g.row.D.Denot g.row.L.Denot) (result : Result ⊤ End)
      → Does g.L.Link g.D.Desk (tasks_actions l.self.plan.now.switches (drop l.task-index l.tasks)) l.self new result
      → Does g.L.Link g.D.Desk (tasks_actions l.initial.self.plan.now.switches l.tasks) l.initial.self new result;
  ready : IsReady l.self;
  plan : l.self.plan ≡ l.initial.self.plan;
}
