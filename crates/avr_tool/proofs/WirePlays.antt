-- A session that ran over a wire went along the exchanges of its fates.
use Rattle.std.proofs.Common.{◌≡◌, ℕ, [], List, All, length, sym, ap, ◌∙◌, inl, inr, rules}
use Rattle.std.proofs.lemmas.List.{append-nil}
use Rattle.avr_io.specs.OutputEvents.{IsPartOfEvent, after_events}
use Rattle.avr_part.specs.Sound.{IsSoundChip}
use Rattle.avr_plan.specs.Plan.{Plan, IsFitted}
use Rattle.avr_io.specs.Record.{DeskState, ChangesRecord}
use Rattle.stk_frame.specs.Cut.{frames}
use Rattle.stk_host.specs.Dialog.{Done, bytes_sent, played, outputs}
use Rattle.stk_host.specs.Play.{InTurn, IsBytePrefixOf, Plays}
use Rattle.ghosts.specs.Preserves.{Preserves}
use Rattle.stk_host.specs.Transcript.{Transcript, Grows, sent, heard}
use Rattle.avr_session.specs.Run.{RunsSession}
use Rattle.avr_session.specs.Runs.{Devices, start, devices}
use Rattle.avr_session.specs.Session.{session}
use Rattle.avr_session.specs.Stopping.{RanToStatus}
use Rattle.stk_emu.specs.DialogOverExchanges.{state_after, outputs_after, SendsValidBodies}
use Rattle.stk_emu.specs.Device.{device}
use Rattle.stk_emu.specs.Programmer.{Programmer, fresh_programmer}
use Rattle.stk_emu.specs.Exchange.{Exchange}
use Rattle.stk_emu.specs.Wire.{exchanges_of_fates}
use Rattle.stk_emu.specs.Wired.{WiredState, FollowsFates, ComesOf, IsFresh, wired_link}
use Rattle.avr_tool.specs.OverFaultyLink.{memories, events_over, OverExchanges, EndsOverExchanges, SessionOverWire}
use Rattle.avr_tool.proofs.Lines.InTurn.{shown_prefix, stands_along, whole_emitted, whole_done}
use Rattle.avr_tool.proofs.OverExchanges.{asks, over_exchanges, ends_over_exchanges}

-- the transcript of a session is in turn, and the bytes sent are a prefix of what it sends over what was received
abbrev pub IsFirst : Plan → Transcript → Type 0
IsFirst plan transcript = InTurn (session plan) start transcript
    × IsBytePrefixOf (sent transcript) (bytes_sent (played (session plan) 1 (heard transcript)).events)

-- The transcript of a session is in turn, if nothing had passed over its link before.
pub sent_first : (plan : Plan) (old new : Devices) (status : ℕ) → old.link.transcript ≡ []
    → RunsSession plan old new status → IsFirst plan new.link.transcript
sent_first plan old new status silent runs = elim runs [
  | inl whole ↦
      let ran = whole.1 in
      now ran.during ran.grows (
        ran.plays.in_turn,
        (
          [],
          append-nil (sent ran.during) ∙ (sym ran.plays.all_sent
              ∙ ap (λ x. bytes_sent x.events) (sym (ap (played (session plan) 1) (sym (append-nil (heard ran.during)))
              ∙ ran.plays.plays []))),
        ),
      )
  | inr broke ↦
      let b = broke.0 in
      let prefix = shown_prefix IsPartOfEvent b.shown (played (session plan) 1 (heard b.during)).events b.breaks.prefix
      in
      search rules
]
  where
    -- The link's transcript is then that of the session.
    now : (during : Transcript) → Grows old.link.transcript during new.link.transcript → IsFirst plan during
        → IsFirst plan new.link.transcript
    now during grows sent_in_turn = search rules

-- a fresh wire follows its fates
fresh_follows : (w : WiredState) → IsFresh w → FollowsFates (fresh_programmer w.wire.programmer.chip) w.wire.fates w
fresh_follows w fresh = search rules

module _ (plan : Plan) (w v : WiredState) (fresh : IsFresh w) (stays : Preserves ComesOf w v)
    (is_sound : IsSoundChip w.wire.programmer.chip)
    (part_is : w.wire.programmer.chip.part ≡ plan.part) (fitted : All (IsFitted plan.part) plan.tasks)
    (old now : DeskState) (status : ℕ) where
  -- The programmer of the wire, before any command.
  abbrev pub begun : Programmer
  begun = fresh_programmer w.wire.programmer.chip

  -- The exchanges of the wire's fates.
  abbrev pub exchanges : List Exchange
  exchanges = exchanges_of_fates w.wire.fates

  -- Each body that the session sends fits a frame.
  pub asks_bodies : SendsValidBodies (session plan)
  asks_bodies = asks plan begun is_sound part_is fitted

  -- The wire still follows its fates.
  pub follows_fates : FollowsFates begun w.wire.fates v
  follows_fates = stays (record { programmer = begun; fates = w.wire.fates }) (fresh_follows w fresh)

  -- The session ran over the wire.
  abbrev pub Runs : Type 0
  Runs = RunsSession plan (devices (wired_link w) old) (devices (wired_link v) now) status

  -- What it sent and received is in turn.
  pub sent_in_turn : Runs → IsFirst plan v.transcript
  sent_in_turn runs = sent_first plan (devices (wired_link w) old) (devices (wired_link v) now) status fresh.silent runs

  -- The programmer is where the exchanges lead it.
  pub programmer_is_there : Runs → v.wire.programmer
      ≡ (state_after device (length (frames (sent v.transcript))) (session plan) begun exchanges).programmer
  programmer_is_there runs = search (rules, stands_along, asks_bodies, follows_fates, sent_in_turn)

  -- So the session went along the exchanges.
  went_along : Runs → OverExchanges plan begun v.wire.programmer exchanges (sent v.transcript)
  went_along runs = over_exchanges plan begun is_sound part_is fitted exchanges v.wire.programmer (sent v.transcript)
      (programmer_is_there runs) (heard v.transcript) (sent_in_turn runs).1

  -- if it ran whole, it has come to its status there, and all its output was done
  pub record ComesWhole : Type 0 where
    pub done : (state_after device (length (frames (sent v.transcript))) (session plan) begun exchanges).dialog
        ≡ Done status
    pub emitted : outputs (events_over plan v)
        ≡ outputs_after device (length (frames (sent v.transcript))) (session plan) begun exchanges
    pub kept : ChangesRecord (after_events (outputs (events_over plan v))) old now

  -- A session that ran whole has come to its status along the exchanges.
  pub whole_comes : RanToStatus (session plan) (devices (wired_link w) old) (devices (wired_link v) now) status
      → ComesWhole
  whole_comes whole =
      let plays : Plays (session plan) start v.transcript whole.1.events status whole.0 = search rules in
      let same : whole.1.events ≡ events_over plan v = search (rules, append-nil, plays.plays []) in
      let prefix = (sent_in_turn (inl whole)).1 in record {
        done = search (rules, whole_done, asks_bodies, follows_fates);
        emitted = ap outputs (sym same) ∙ whole_emitted (session plan) 1 begun w.wire.fates v asks_bodies fresh.lawful
            follows_fates plays.in_turn whole.1.events status whole.0 plays prefix;
        kept = whole.1.kept ∙ ap (λ events. after_events (outputs events) old.kept) same;
      }

  -- What `EndsOverExchanges` states holds of it.
  ends_whole : (whole : RanToStatus (session plan) (devices (wired_link w) old) (devices (wired_link v) now) status)
      → EndsOverExchanges plan (memories w) (memories v) exchanges (outputs (events_over plan v)) status
      × ChangesRecord (after_events (outputs (events_over plan v))) old now
  ends_whole whole =
      let c = whole_comes whole in (
        ends_over_exchanges plan begun is_sound part_is fitted exchanges v.wire.programmer (sent v.transcript)
            (programmer_is_there (inl whole)) (outputs (events_over plan v)) status c.done c.emitted,
        c.kept,
      )

  -- What `SessionOverWire` states holds of a session over a fresh wire, whatever the fates of its frames.
  pub over_any_line : Runs → SessionOverWire plan w v old now status
  over_any_line (inl whole) = record { along_exchanges = went_along (inl whole); end = inl (ends_whole whole) }
  over_any_line (inr broke) = record { along_exchanges = went_along (inr broke); end = inr broke }
