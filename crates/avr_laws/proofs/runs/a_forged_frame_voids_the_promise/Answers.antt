use Rattle.avr_session.specs.Session.{session}
use Rattle.avr_laws.proofs.AnyLink.{over_bytes}
use Rattle.stk_emu.specs.Programmer.{fresh_programmer}
use Rattle.avr_laws.specs.Worked.{forged_replies, fuse_plan}
use Rattle.stk_host.specs.Tape.{Tape}
use Rattle.stk_host.specs.Dialog.{Played, bytes_sent, played}
use Rattle.avr_io.specs.OutputEvents.{OutputEvent}
use Rattle.std.proofs.Common.{Option, Some, ap, refl, ℕ, ◌≡◌, []}
use Rattle.avr_plan.specs.Plan.{IsFitted}
use Rattle.std.proofs.lemmas.List.Elements.{All-cons, All-nil}
use Rattle.avr_laws.proofs.Lines.MadeFrame.{forged_run_succeeds, promise_void}
use Rattle.avr_laws.proofs.runs.a_forged_frame_voids_the_promise.Goals as goal

pub returns-clause-ends : goal.returns-clause-ends
returns-clause-ends c = forged_run_succeeds

pub returns-clause-void : goal.returns-clause-void
returns-clause-void c = promise_void

pub returns-clause-made : goal.returns-clause-made
returns-clause-made c = λ s got later executions sound part other came none.
    let events = (played (session fuse_plan) 1 forged_replies).events in
    promise_void (fresh_programmer s) _ _ _ events other
    (over_bytes fuse_plan (fresh_programmer s) sound part (All-cons (IsFitted fuse_plan.part) _ [] refl
    (All-nil (IsFitted fuse_plan.part))) got (bytes_sent events) later executions forged_replies came none [] events 0 8
    (ended (played (session fuse_plan) 1 forged_replies) forged_run_succeeds) refl)
  where
    ended : (p : Played OutputEvent ℕ) → p.outcome ≡ Some (0, 8, [])
        → p ≡ record { events = p.events; outcome = Some (0, 8, []) }
    ended p is = ap (λ (o : Option (ℕ × ℕ × Tape)). record { events = p.events; outcome = o }) is
