-- The chip that a run over the emulator leaves in its file.
use Rattle.std.proofs.Common.{◌≡◌, ◌∙◌, sym, refl, inl, inr, arith, ℕ, ◌+◌, false, List, [], ◌∷◌, ◌++◌, Some, rules}
use Rattle.avr_plan.specs.declared.settings.Settings.{Settings}
use Rattle.std.proofs.lemmas.List.Sums.{fold-append}
use Rattle.avr_desk.proofs.FileUses.Uses.{files_replaced}
use Rattle.avr_desk.specs.Memory.{MemDeskState, Stock, memory_state}
use Rattle.avr_io.specs.Named.{is_dash}
use Rattle.avr_io.specs.Record.{Bytes, DeskState}
use Rattle.avr_tool.specs.Emulated.{IsSavedIfSent, RunsOverEmulator, new_wire}
use Rattle.avr_part.specs.ChipFile.{chip_file}
use Rattle.avr_part.specs.State.{ChipState as Chip}
use Rattle.avr_plan.specs.Plan.{Plan}
use Rattle.avr_session.specs.Run.{RunsSession}
use Rattle.avr_session.specs.Runs.{devices}
use Rattle.avr_session.specs.Session.{session}
use Rattle.stk_emu.specs.Wired.{WiredState, wired_link}
use Rattle.stk_host.specs.Dialog.{bytes_sent, played}
use Rattle.stk_host.specs.Operations.{handshake, opening}
use Rattle.stk_host.specs.Steps.{attempt, exchange, attempts_or_fault}
use Rattle.stk_host.specs.Transcript.{heard, sent}
use Rattle.stk_host.specs.Tape.{Tape}
use Rattle.avr_laws.specs.ChipFound.{contents_held}

-- ---- the bytes in the file after a run

-- a name other than that of standard input
module _ (file : Bytes) (stock : Stock) (no_dash : is_dash file ≡ false) where
  -- with status 0 the chip's, because a session of status 0 has sent something
  zero_held : (out : List ℕ) (old new : DeskState) (bytes : Bytes) (ran : ℕ) → (out ≡ [] → ran ≡ 0 → ⊥)
      → IsSavedIfSent out old new file bytes ran 0 → contents_held stock new.kept file ≡ Some bytes
  zero_held out old new bytes ran some saved = search (rules, files_replaced, fold-append)

-- a session that ran begins with a frame
first_frame : (plan : Plan) (tape : Tape)
    → (rest : List ℕ) × (bytes_sent (played (session plan) 1 tape).events ≡ 27 ∷ rest)
unfolding session opening handshake attempts_or_fault attempt exchange
first_frame plan tape = (_, refl)

-- a session that sent nothing doesn't end with status 0
pub no_silence : (plan : Plan) (chip : Chip) (after : WiredState) (d e : DeskState) (ran : ℕ)
    → RunsSession plan (devices (wired_link (new_wire chip [])) d) (devices (wired_link after) e) ran
    → sent after.transcript ≡ [] → ran ≡ 0 → ⊥
no_silence plan chip after d e ran (inl (place, whole)) none zero =
    search (rules, first_frame plan (heard whole.during ++ []))
no_silence plan chip after d e ran (inr (broke, one)) none zero = let e : 1 ≡ 0 = sym one ∙ zero in omega (arith, e)

-- so the chip is in its file after a run of status 0
pub chip_left : (settings : Settings) (file : Bytes) (stock : Stock) (old new : MemDeskState) (status : ℕ)
    → is_dash file ≡ false → status ≡ 0
    → (r : RunsOverEmulator settings file (memory_state old) (memory_state new) status)
    → contents_held stock new.kept file ≡ Some (chip_file r.after.wire.programmer.chip)
chip_left settings file stock old new status no_dash zero r =
    zero_held file stock no_dash (sent r.after.transcript) r.played_desk (memory_state new)
    (chip_file r.after.wire.programmer.chip) r.session_status
    (no_silence r.plan r.chip r.after r.loaded_desk r.played_desk r.session_status r.runs)
    (search rules)
