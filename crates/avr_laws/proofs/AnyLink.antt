-- A session over any link that forges no frame.
use Rattle.std.proofs.Common.{◌≡◌, ◌≤◌, ℕ, List, [], ◌++◌, All, length, take, sym, ap, ◌∙◌, subst, arith, Some, length-append, rules}
use Rattle.std.proofs.lemmas.List.{append-nil, take-append-le, take_all}
use Rattle.avr_io.specs.OutputEvents.{OutputEvent}
use Rattle.avr_part.specs.Sound.{IsSoundChip}
use Rattle.avr_plan.specs.Plan.{Plan, IsFitted}
use Rattle.avr_session.specs.Run.{RunsSession}
use Rattle.avr_session.specs.Runs.{Devices}
use Rattle.avr_session.specs.Session.{session}
use Rattle.stk_frame.specs.Cut.{frames}
use Rattle.stk_host.specs.Dialog.{Event, Done, played, frames_in, bytes_sent, outputs}
use Rattle.stk_host.specs.Play.{IsBytePrefixOf}
use Rattle.stk_host.specs.Transcript.{Transcript, sent, heard}
use Rattle.stk_host.specs.Tape.{Tape}
use Rattle.stk_emu.specs.DialogOverExchanges.{state_after, outputs_after, SendsValidBodies}
use Rattle.avr_laws.specs.AnyTape.{GoesAlongExchanges, ReceivedSentFrames, after_received_bytes, after_sent_frames, exchanges_on_tape}
use Rattle.avr_tool.specs.Authentic.{RepliesAreAuthentic}
use Rattle.avr_laws.specs.NoForgedFrame.{ForgesNoFrame}
use Rattle.avr_laws.proofs.Lines.NoForgedFrame.{no_forged_frame_authentic}
use Rattle.stk_emu.specs.Exchange.{Exchange, Execution}
use Rattle.stk_emu.specs.Device.{device}
use Rattle.stk_emu.specs.Programmer.{Programmer}
use Rattle.avr_tool.proofs.Lines.InTurn.{sends_whole, frames_prefix, frames_sent}
use Rattle.avr_laws.proofs.Lines.AnyTape.{goes_as, through_after}
use Rattle.avr_laws.specs.AnyLink.{ReportsOverExchanges, WholeSessionOverExchanges}
use Rattle.avr_tool.proofs.OverExchanges.{asks}
use Rattle.avr_tool.proofs.WirePlays.{sent_first}
use Rattle.avr_laws.proofs.ReportsOverExchanges.{ends_and_reports_over_exchanges, reports_over_exchanges}
use Rattle.avr_laws.proofs.Reports.OverTape.{by_tape}

module _ (plan : Plan) (begun : Programmer) (is_sound : IsSoundChip begun.chip) (part_is : begun.chip.part ≡ plan.part)
    (fitted : All (IsFitted plan.part) plan.tasks) where
  -- the session sends valid bodies
  asks_bodies : SendsValidBodies (session plan)
  asks_bodies = asks plan begun is_sound part_is fitted

  module _ (tape : Tape) (executions : List Execution) (is_authentic : RepliesAreAuthentic device (session plan) 1 tape
      begun executions) where
    -- the exchanges of its tape
    abbrev exchanges : List Exchange
    exchanges = exchanges_on_tape (session plan) 1 tape executions

    -- what it does over the tape
    abbrev events_played : List (Event OutputEvent)
    events_played = (played (session plan) 1 tape).events

    -- the session goes along the exchanges of its tape
    goes : GoesAlongExchanges device (session plan) 1 tape begun executions
    goes = goes_as device (session plan) 1 tape begun executions asks_bodies is_authentic

    -- however it ends: after the frames of any prefix of the bytes that it sends
    module _ (bytes : List ℕ) (prefix : IsBytePrefixOf bytes (bytes_sent events_played)) where
      abbrev count : ℕ
      count = length (frames bytes)

      -- the bytes hold the first frames that it sends
      more_frames : (others : List (List ℕ)) × (frames_in events_played ≡ frames bytes ++ others)
      more_frames = frames_prefix events_played bytes prefix.0 (sends_whole (session plan) 1 tape asks_bodies) prefix.1

      -- they are at most all frames
      within : count ≤ length (frames_in events_played)
      within = let all = ap length more_frames.1 in omega (arith, all, length-append (frames bytes) more_frames.0)

      first_frames : take count (frames_in events_played) ≡ frames bytes
      first_frames = search (rules, more_frames, take-append-le, take_all)

      -- these frames leave the programmer as their exchanges do
      stands : after_sent_frames device (frames bytes) executions begun
          ≡ (state_after device count (session plan) begun exchanges).programmer
      stands = sym (goes.programmer count within ∙ ap (λ fs. after_sent_frames device fs executions begun) first_frames)

      -- so what was reported is true
      pub over_any_end : ReportsOverExchanges plan begun (after_sent_frames device (frames bytes) executions begun)
          exchanges bytes events_played
      over_any_end = search (rules, reports_over_exchanges, stands, by_tape)

    -- a whole session
    module _ (bytes : List ℕ) (left : Tape) (events : List (Event OutputEvent)) (status next : ℕ)
        (is : played (session plan) 1 tape ≡ record { events = events; outcome = Some (status, next, left) })
        (sent_is : bytes_sent events ≡ bytes) where
      -- all bytes were sent
      all_sent : IsBytePrefixOf bytes (bytes_sent events_played)
      all_sent = ([], append-nil bytes ∙ (sym sent_is ∙ ap (λ p. bytes_sent p.events) (sym is)))

      -- they hold all frames
      frames_are : frames_in events_played ≡ frames bytes
      frames_are = search (rules, sends_whole, asks_bodies, frames_sent)

      -- after these exchanges the session has ended with this status
      status_there : (state_after device (length (frames bytes)) (session plan) begun exchanges).dialog ≡ Done status
      status_there = search (rules, frames_are, goes)

      -- and with this output
      outputs_there : outputs events ≡ outputs_after device (length (frames bytes)) (session plan) begun exchanges
      outputs_there = search (rules, frames_are, goes)

      -- so its reports and its end are as promised
      pub over_any_line : WholeSessionOverExchanges plan begun (after_sent_frames device (frames bytes) executions
          begun) exchanges bytes events status
      over_any_line = (
        subst (ReportsOverExchanges plan begun (after_sent_frames device (frames bytes) executions begun) exchanges
            bytes)
            (ap (λ p. p.events) is) (over_any_end bytes all_sent),
        ends_and_reports_over_exchanges plan begun is_sound part_is fitted exchanges
            (after_sent_frames device (frames bytes) executions begun)
            bytes (stands bytes all_sent) (outputs events) status status_there outputs_there,
      )

  -- over a link that forges no frame
  pub end_sent : (bytes : List ℕ) (executions : List Execution) (tape : Tape)
      → ForgesNoFrame device (session plan) 1 tape begun executions []
      → IsBytePrefixOf bytes (bytes_sent (played (session plan) 1 tape).events)
      → ReportsOverExchanges plan begun (after_sent_frames device (frames bytes) executions begun)
      (exchanges_on_tape (session plan) 1 tape executions) bytes (played (session plan) 1 tape).events
  end_sent bytes executions tape forges_none prefix = search (rules, over_any_end, no_forged_frame_authentic)

  -- the same, from the bytes that the programmer got
  module _ (got bytes : List ℕ) (later : List (List ℕ)) (executions : List Execution) (tape : Tape)
      (came : ReceivedSentFrames got later (frames bytes) executions)
      (forges_none : ForgesNoFrame device (session plan) 1 tape begun executions []) where
    authentic_bytes : RepliesAreAuthentic device (session plan) 1 tape begun executions
    authentic_bytes = no_forged_frame_authentic device (session plan) 1 tape begun executions [] tt forges_none

    -- the frames leave the programmer as the bytes that it received do
    left_bytes : after_sent_frames device (frames bytes) executions begun ≡ after_received_bytes device got later begun
    left_bytes = sym (through_after device got later (frames bytes) executions begun came)

    -- a whole session
    pub over_bytes : (left : Tape) (events : List (Event OutputEvent)) (status next : ℕ)
        → played (session plan) 1 tape ≡ record { events = events; outcome = Some (status, next, left) }
        → bytes_sent events ≡ bytes → WholeSessionOverExchanges plan begun (after_received_bytes device got later begun)
        (exchanges_on_tape (session plan) 1 tape executions) bytes events status
    over_bytes left events status next is sent_is =
        subst (λ q. WholeSessionOverExchanges plan begun q (exchanges_on_tape (session plan) 1 tape executions) bytes
        events status) left_bytes
        (over_any_line tape executions authentic_bytes bytes left events status next is sent_is)

    -- and one that ended anywhere
    pub end_bytes : IsBytePrefixOf bytes (bytes_sent (played (session plan) 1 tape).events)
        → ReportsOverExchanges plan begun (after_received_bytes device got later begun)
        (exchanges_on_tape (session plan) 1 tape executions) bytes (played (session plan) 1 tape).events
    end_bytes prefix =
        subst (λ q. ReportsOverExchanges plan begun q (exchanges_on_tape (session plan) 1 tape executions) bytes
        (played (session plan) 1 tape).events) left_bytes
        (over_any_end tape executions authentic_bytes bytes prefix)

  -- whatever the outcome of a call over a new link
  module _ (got : List ℕ) (later : List (List ℕ)) (executions : List Execution) (old new : Devices) (status : ℕ)
      (silent : old.link.transcript ≡ []) where
    abbrev transcript : Transcript
    transcript = new.link.transcript

    pub over_any_run : RunsSession plan old new status
        → ReceivedSentFrames got later (frames (sent transcript)) executions
        → ForgesNoFrame device (session plan) 1 (heard transcript) begun executions []
        → ReportsOverExchanges plan begun (after_received_bytes device got later begun)
        (exchanges_on_tape (session plan) 1 (heard transcript) executions) (sent transcript)
        (played (session plan) 1 (heard transcript)).events
    over_any_run runs came forges_none =
        end_bytes got (sent transcript) later executions (heard transcript) came forges_none
        (sent_first plan old new status silent runs).1
