-- A session over a link on which few frames go wrong goes as its expected run. It is done after at most four times its
-- commands.
use Rattle.std.proofs.Common.{◌≡◌, ℕ, ◌*◌, ◌≤◌, List, ap, ◌∙◌, All}
use Rattle.avr_part.specs.Part.{IsPart}
use Rattle.avr_plan.specs.Plan.{Plan, IsFitted}
use Rattle.stk_host.specs.Dialog.{Done}
use Rattle.stk_host.specs.Bound.{commands_in}
use Rattle.stk_emu.specs.Exchange.{Exchange}
use Rattle.stk_emu.specs.DialogOverExchanges.{state_after, outputs_after}
use Rattle.stk_emu.specs.Device.{device}
use Rattle.stk_emu.specs.Programmer.{Programmer}
use Rattle.stk_emu.specs.Effect.{Memories, memories_of}
use Rattle.stk_emu.specs.Settled.{HasMemories, FitsPart}
use Rattle.avr_session.specs.Session.{session}
use Rattle.avr_session.specs.PlanSteps.{run_steps}
use Rattle.avr_laws.proofs.Bounds.Questions.{session_most}
use Rattle.avr_tool.proofs.Sure.Sessions.{session_ends}
use Rattle.avr_laws.proofs.FewBad.Exchanges.{done_within, few_sure}
use Rattle.avr_tool.specs.ExpectedRun.{expected_run}
use Rattle.avr_laws.specs.FewBadFrames.{AtMostThreeBadOfSeven}
use Rattle.avr_tool.specs.Outcome.{IsExpectedRun}

module _ (plan : Plan) (sound : IsPart plan.part) (fitted : All (IsFitted plan.part) plan.tasks) where
  -- its memories, output and status are those of the expected run
  pub few_session_ends : (m : Memories) (p : Programmer) (exchanges : List Exchange) → FitsPart plan.part m
      → HasMemories plan.part m p → AtMostThreeBadOfSeven exchanges
      → (k : ℕ) (status : ℕ) → (state_after device k (session plan) p exchanges).dialog ≡ Done status
      → IsExpectedRun plan m (memories_of (state_after device k (session plan) p exchanges).programmer.chip)
      (outputs_after device k (session plan) p exchanges) status
  few_session_ends m p exchanges sizes idle few k status ended =
      session_ends plan sound fitted AtMostThreeBadOfSeven few_sure m p exchanges sizes idle few k status ended

  -- it is done after at most four times its commands
  pub session_done : (m : Memories) (k : ℕ) (p : Programmer) (exchanges : List Exchange) → FitsPart plan.part m
      → HasMemories plan.part m p → AtMostThreeBadOfSeven exchanges → 4 * commands_in (run_steps plan) ≤ k
      → (state_after device k (session plan) p exchanges).dialog ≡ Done (expected_run plan m).status
  session_done m k p exchanges sizes idle few le =
      let within : (r : ℕ) × ((state_after device k (session plan) p exchanges).dialog ≡ Done r) =
      done_within (4 * commands_in (run_steps plan)) k (session plan) p exchanges (session_most plan) le in
      within.1 ∙ ap (λ r. Done r) (few_session_ends m p exchanges sizes idle few k within.0 within.1).status_is
