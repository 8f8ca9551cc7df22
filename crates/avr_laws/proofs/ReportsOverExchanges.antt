-- A session that went along exchanges: its reports, and its end.
use Rattle.std.proofs.Common.{◌≡◌, ℕ, List, All, length, sym, subst, rules}
use Rattle.avr_io.specs.OutputEvents.{OutputEvent}
use Rattle.avr_part.specs.Part.{IsPart}
use Rattle.avr_part.specs.Sound.{IsSoundChip}
use Rattle.avr_plan.specs.Plan.{Plan, IsFitted}
use Rattle.avr_session.specs.Session.{session}
use Rattle.stk_frame.specs.Cut.{frames}
use Rattle.stk_host.specs.Dialog.{Done, played, frames_in, bytes_sent}
use Rattle.stk_host.specs.Play.{IsBytePrefixOf}
use Rattle.stk_host.specs.Tape.{Tape}
use Rattle.stk_emu.specs.DialogOverExchanges.{state_after, outputs_after}
use Rattle.stk_emu.specs.Device.{device}
use Rattle.stk_emu.specs.Effect.{Memories, memories_of}
use Rattle.stk_emu.specs.Programmer.{Programmer}
use Rattle.stk_emu.specs.Settled.{HasMemories, FitsPart}
use Rattle.stk_emu.specs.Exchange.{Exchange, Execution}
use Rattle.avr_tool.specs.Outcome.{IsExpectedRun}
use Rattle.avr_tool.proofs.OverExchanges.{asks, ends_over_exchanges, has_expected, is_idle, its_part, its_sizes, over_exchanges}
use Rattle.avr_laws.specs.AnyLink.{EndsAsExpected, EndsAndReportsOverExchanges, ReportsOverExchanges}
use Rattle.avr_tool.specs.Authentic.{RepliesAreAuthentic}
use Rattle.avr_laws.specs.FewBadFrames.{AtMostThreeBadOfSeven}
use Rattle.avr_laws.proofs.FewBad.Sessions.{few_session_ends}
use Rattle.avr_laws.proofs.Reports.OverTape.{ByExchanges, reported_any}
use Rattle.avr_laws.proofs.Reports.Truth.{emulated_reports}
use Rattle.avr_laws.proofs.Reports.UpToFault.{expected_end, expected_on_tape}
use Rattle.avr_laws.proofs.SecondRun.Status.{repair_succeeds}

module _ (plan : Plan) (begun : Programmer) (is_sound : IsSoundChip begun.chip) (part_is : begun.chip.part ≡ plan.part)
    (fitted : All (IsFitted plan.part) plan.tasks) where
  abbrev before : Memories
  before = memories_of begun.chip

  sound : IsPart plan.part
  sound = its_part plan begun is_sound part_is fitted

  sizes : FitsPart plan.part before
  sizes = its_sizes plan begun is_sound part_is fitted

  idle : HasMemories plan.part before begun
  idle = is_idle plan begun is_sound part_is fitted

  module _ (exchanges : List Exchange) (q : Programmer) (bytes : List ℕ)
      (stands : q ≡ (state_after device (length (frames bytes)) (session plan) begun exchanges).programmer) where
    -- what was reported is true
    pub reports_over_exchanges : (tape : Tape) (executions : List Execution)
        → IsBytePrefixOf bytes (bytes_sent (played (session plan) 1 tape).events)
        → RepliesAreAuthentic device (session plan) 1 tape begun executions
        → ByExchanges (length (frames_in (played (session plan) 1 tape).events)) executions exchanges
        → ReportsOverExchanges plan begun q exchanges bytes (played (session plan) 1 tape).events
    reports_over_exchanges tape executions prefix is_authentic same = record {
      leaves = over_exchanges plan begun is_sound part_is fitted exchanges q bytes stands tape prefix;
      reports_are_true = search (rules, reported_any, asks, emulated_reports, sound, sizes, idle);
      output_is_expected = expected_on_tape plan sound fitted before sizes begun tape executions idle is_authentic;
    }

    -- and the session has come to a status there
    module _ (output_events : List OutputEvent) (status : ℕ)
        (comes : (state_after device (length (frames bytes)) (session plan) begun exchanges).dialog ≡ Done status)
        (output_events_are : output_events
        ≡ outputs_after device (length (frames bytes)) (session plan) begun exchanges) where
      -- if few exchanges are bad, it is the expected run
      its_expected : AtMostThreeBadOfSeven exchanges
          → IsExpectedRun plan before (memories_of q.chip) output_events status
      its_expected few = search (rules, has_expected, few_session_ends, sound, sizes, idle)

      -- so its end is as promised
      pub ends_and_reports_over_exchanges : EndsAndReportsOverExchanges plan before (memories_of q.chip) exchanges
          output_events status
      ends_and_reports_over_exchanges = record {
        comes = ends_over_exchanges plan begun is_sound part_is fitted exchanges q bytes stands output_events status
            comes output_events_are;
        emitted = subst (λ x. EndsAsExpected plan before x status) (sym output_events_are)
            (expected_end plan sound fitted before sizes (length (frames bytes)) status begun exchanges idle comes);
        if_few_bad = its_expected;
        again = λ few erases both. repair_succeeds plan before status sizes erases both (its_expected few).status_is;
      }
