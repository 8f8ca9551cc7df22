-- Known mistakes that the contracts of stk_host and avr_session refuse. Each row has a value or an outcome that the
-- mistake would change, and names the clause that fixes it.
use Rattle.std.proofs.Common.{◌≡◌, ◌∙◌, ap, arith, ℕ, List, [], ◌∷◌, ◌++◌, true, false, Option, None, Some, Result, Ok, Err, refl, rules}
use Rattle.std.specs.Prelude.{⊤, IfOk, OnOk, replicate}
use Rattle.avr_part.specs.BuiltIn.{m328p}
use Rattle.avr_part.specs.declared.part.Mem.TheVariants.{Flash, Eeprom, Lock}
use Rattle.avr_io.specs.OutputEvents.{OutputEvent, PrintsLine}
use Rattle.stk_frame.specs.Commands.{body}
use Rattle.stk_frame.specs.Frame.{frame}
use Rattle.stk_frame.specs.HostCommands.{erase, program_eeprom_block, read_lock}
use Rattle.stk_frame.specs.declared.command.Command.TheVariants.{LoadAddress}
use Rattle.stk_host.specs.Calls.{EndsCall}
use Rattle.stk_host.specs.Dialog.{Dialog, Played, frames_in, played}
use Rattle.stk_host.specs.Links.{TakesKnownBytes}
use Rattle.stk_host.specs.Operations.{closing, comparison, erasing, handshake, opening, operation, writing}
use Rattle.stk_host.specs.Places.{load_eeprom, load_flash}
use Rattle.stk_host.specs.Play.{InTurn, Progress, progress_at}
use Rattle.stk_host.specs.Reach.{SendsAll}
use Rattle.stk_host.specs.Steps.{attempt, attempts_or_fault, exchange, play, step}
use Rattle.stk_host.specs.Tape.{Silent, answer, on_tape}
use Rattle.stk_host.specs.Transcript.{Got, LinkState, Sent, Taken, heard}
use Rattle.stk_host.specs.WriteSteps.{write_steps}
use Rattle.stk_host.specs.declared.fault.HostFault.{HostFault}
use Rattle.stk_host.specs.declared.fault.HostFault.TheVariants.{NoAnswer, Differs, LinkEnded, Memory, RecvFailed, SendFailed}
use Rattle.stk_host.specs.declared.link.Heard.{Heard}
use Rattle.stk_host.specs.declared.link.Heard.TheVariants as in_code
use Rattle.stk_host.specs.declared.link.Item.TheVariants.{Silence}
use Rattle.stk_host.specs.declared.link.LinkFault.{LinkFault}
use Rattle.stk_host.specs.declared.link.LinkFault.TheVariants.{Failed}
use Rattle.avr_session.specs.Actions.{Action, WriteImage, CompareImage, write_actions}
use Rattle.avr_session.specs.Lines.{fault_line}
use Rattle.avr_session.specs.Runs.{Cause, SendingFailed, ReceivingFailed, FileFailed, PrintingFailed, AllocationFailed, Devices, RanWhole, StopsAfterOutput, before_fault, cause_line}
use Rattle.avr_session.specs.Session.{actions_dialog, bytes_to_save, closing_output, session}
use Rattle.avr_session.specs.Standing.{Faulty}
use Rattle.avr_laws.specs.Worked.{worked_settings}

-- ---- replies and attempts

-- a frame of another number is no reply (`yes` of stk_host's `is_reply`)
pub other_number_is_no_reply : answer 2 (on_tape (frame 1 (0x01 ∷ 0x00 ∷ [])) ++ Silence ∷ []) ≡ Some (Silent, [])
unfolding answer
other_number_is_no_reply = refl

-- after a timeout all commands of the step are sent again, with new numbers (`calls` of stk_host's `erase`)
pub both_are_repeated : frames_in (played (step (LoadAddress 0 ∷ read_lock ∷ [])) 1
    (on_tape (frame 1 (0x06 ∷ 0x00 ∷ [])) ++ Silence ∷ on_tape (frame 3 (0x06 ∷ 0x00 ∷ [])))).events
    ≡ frame 1 (body (LoadAddress 0)) ∷ frame 2 (body read_lock) ∷ frame 3 (body (LoadAddress 0)) ∷ frame 4 (body read_lock)
    ∷ []
unfolding answer exchange attempt attempts_or_fault
both_are_repeated = refl

-- ---- operations

-- gaps of EEPROM aren't written, and an address of flash counts words (`calls` of stk_host's `write`)
pub gap_is_not_written : write_steps m328p Eeprom (Some 0x11 ∷ None ∷ Some 0x33 ∷ [])
    ≡ (load_eeprom 0 ∷ program_eeprom_block (0x11 ∷ []) ∷ []) ∷ (load_eeprom 2 ∷ program_eeprom_block (0x33 ∷ []) ∷ []) ∷ []
gap_is_not_written = refl

pub words_are_counted : load_flash m328p 128 ≡ LoadAddress 64
words_are_counted = refl

-- a part of any size is erased (`calls` of stk_host's `erase`)
pub erase_is_sent : frames_in (played erasing 1 []).events ≡ frame 1 (body erase) ∷ []
unfolding operation play answer exchange attempt attempts_or_fault
erase_is_sent = refl

-- the second block is compared, and with the chip's bytes (`calls` of stk_host's `verify`)
pub second_block_is_compared : comparison Eeprom (replicate 256 None ++ Some 1 ∷ []) (replicate 257 2)
    ≡ Err (Differs Eeprom 256 1 2)
second_block_is_compared = refl

pub chip_is_compared : comparison Flash (Some 1 ∷ []) (2 ∷ []) ≡ Err (Differs Flash 0 1 2)
chip_is_compared = refl

-- ---- the link

-- before the sixth frame, with nothing unread
abbrev sixth : Progress
sixth = progress_at 6 []

-- the frame of LEAVE
abbrev leaving : List ℕ
leaving = 0x1B ∷ 0x06 ∷ 0x00 ∷ 0x03 ∷ 0x0E ∷ 0x11 ∷ 0x01 ∷ 0x01 ∷ 0x01 ∷ []

-- a link that hasn't failed, and with which nothing was done
abbrev fresh : LinkState
fresh = record { transcript = []; failures = 0 }

-- no call reports an end that wasn't received (`calls` of stk_host's `close`)
pub no_end_unheard : (after : Progress) → EndsCall false closing sixth fresh fresh (Err LinkEnded) after → ⊥
unfolding answer exchange attempt attempts_or_fault closing
no_end_unheard after ran = cc (
    ap (λ during. (played closing 6 (heard during ++ [])).outcome) ran.grows
    ∙ ap (λ (run : Played ⊥ (Result ⊤ HostFault)). run.outcome) (ran.plays.plays [])
    )

-- nor a failure without one,
pub no_failure_of_a_sound_link : (after : Progress) → EndsCall false closing sixth fresh fresh (Err RecvFailed) after → ⊥
unfolding answer exchange attempt attempts_or_fault closing
no_failure_of_a_sound_link after ends = search rules

pub no_unsent_over_a_sound_link : SendsAll leaving fresh fresh (Err Failed) → ⊥
no_unsent_over_a_sound_link sends = let count : 0 ≡ 1 = sends.counts.failed in omega (arith, count)

-- nor a failed allocation, if it allocates nothing (`calls` of stk_host's `write`)
pub no_memory_for_a_write : (after : Progress) → EndsCall false (writing m328p Lock (Some 0 ∷ [])) sixth fresh fresh
    (Err Memory) after → ⊥
no_memory_for_a_write after ends = search rules

-- nothing is received after a reply (`calls` of stk_host's `close`). Before a frame is sent whole: `not_early` of
-- stk_host's Rows/Ends
pub not_after_the_reply : InTurn closing sixth
    (Sent leaving ∷ Got (on_tape (frame 6 (0x11 ∷ 0x00 ∷ []))) ∷ Got (Silence ∷ []) ∷ []) → ⊥
unfolding answer exchange attempt attempts_or_fault closing
not_after_the_reply in_turn = cc in_turn.1.0.waits

-- a reader that never times out gives no timeout (`silent` of stk_host's `receive_bytes`)
abbrev unheard : Result Heard LinkFault
unheard = Ok in_code.Silence

pub no_other_timeout : IfOk unheard (λ heard. heard ≡ in_code.Silence → ⊥) → ⊥
no_other_timeout silent = silent refl

-- while the writer still holds a byte, nothing counts as sent (`out` of stk_host's `put_bytes`)
abbrev sent_one : Result ℕ LinkFault
sent_one = Ok 1

abbrev byte : List ℕ
byte = 1 ∷ []

pub held_is_not_sent : OnOk sent_one (byte ≡ []) → ⊥
held_is_not_sent out = cc out

-- what the writer took is in the transcript (`taken` of stk_host's `put_bytes`)
pub taken_is_recorded : TakesKnownBytes byte [] (Taken [] ∷ []) (Some []) (Some byte) → ⊥
taken_is_recorded taken = search rules

-- ---- sessions

-- a run that goes on after a failed desk isn't whole (`comes_to` of avr_session's `drive_outcome`)
pub failed_desk_stops : {R : Type 0} (dialog : Dialog OutputEvent R) (before after : Progress) (old new : Devices)
    (result : R) → old.desk.failures ≡ 0 → new.desk.failures ≡ 1 → RanWhole dialog before old new result after → ⊥
failed_desk_stops dialog before after old new result none one ran = search rules

-- after a fault LEAVE is sent, and a difference is a fault (`comes_to` of avr_session's `drive_outcome`)
pub fault_is_left : frames_in (played (session (record { part = m328p; tasks = []; switches = worked_settings.switches })) 1
    (replicate 8 Silence)).events
    ≡ frame 1 (0x01 ∷ []) ∷ frame 2 (0x01 ∷ []) ∷ frame 3 (0x01 ∷ []) ∷ frame 4 (0x01 ∷ [])
    ∷ frame 5 (0x11 ∷ 0x01 ∷ 0x01 ∷ []) ∷ frame 6 (0x11 ∷ 0x01 ∷ 0x01 ∷ []) ∷ frame 7 (0x11 ∷ 0x01 ∷ 0x01 ∷ [])
    ∷ frame 8 (0x11 ∷ 0x01 ∷ 0x01 ∷ []) ∷ []
unfolding session opening handshake closing answer exchange attempt attempts_or_fault
fault_is_left = refl

abbrev lock : List (Option ℕ)
lock = Some 0xFC ∷ []

pub difference_is_a_fault : (played (actions_dialog m328p worked_settings.switches (CompareImage Lock lock ∷ [])) 1
    (on_tape (frame 1 (0x1A ∷ 0x00 ∷ 0xFF ∷ 0x00 ∷ [])))).outcome ≡ Some (Faulty, 2, [])
unfolding answer exchange attempt attempts_or_fault operation play
difference_is_a_fault = refl

-- `done` is printed only if LEAVE succeeded (avr_session's `report_step`)
pub failed_end_is_not_done : closing_output 0 m328p (Err NoAnswer) ≡ PrintsLine (fault_line m328p NoAnswer) ∷ []
failed_end_is_not_done = refl

-- EEPROM is saved with its last FF (avr_session's `bytes_to_save`)
pub eeprom_is_saved_whole : bytes_to_save Eeprom false (0x41 ∷ 0xFF ∷ []) ≡ 0x41 ∷ 0xFF ∷ []
eeprom_is_saved_whole = refl

-- a lock is sent, and read back with `-a`, too (avr_session's `write_and_verify`)
pub lock_is_read_back : write_actions (record worked_settings.switches { all = true }) Lock lock
    ≡ WriteImage Lock lock ∷ CompareImage Lock lock ∷ []
lock_is_read_back = refl

pub lock_is_sent : frames_in (played (actions_dialog m328p worked_settings.switches (WriteImage Lock lock ∷ [])) 1
    []).events ≡ frame 1 (0x19 ∷ 0xAC ∷ 0xE0 ∷ 0x00 ∷ 0xFC ∷ []) ∷ []
unfolding answer exchange attempt attempts_or_fault operation play
lock_is_sent = refl

-- a run stops only if a device failed or the cause is printed (avr_session's `read`)
pub stop_is_reported : (cause : Cause) (then : Devices) → then.link.failures ≡ 0 → then.desk.failures ≡ 0
    → StopsAfterOutput (before_fault true) then then [] cause [] → ⊥
unfolding cause_line
stop_is_reported SendingFailed then link desk stops = search rules
stop_is_reported ReceivingFailed then link desk stops = search rules
stop_is_reported (FileFailed file trouble) then link desk stops = search rules
stop_is_reported PrintingFailed then link desk stops = search rules
stop_is_reported AllocationFailed then link desk stops = search rules
