-- What a run made whatever its status: a worked run, one that wrote another byte than its plan has, and one over the
-- emulator that sent a byte over standard output.
use Rattle.std.proofs.Common.{◌≡◌, ap, arith, refl, rules, ℕ, zero, suc, All, List, [], ◌∷◌, take, append-nil, Some}
use Rattle.std.proofs.lemmas.List.Elements.{All-cons, All-nil}
use Rattle.std.specs.Prelude.{slice_index}
use Rattle.avr_io.specs.Record.{Bytes, Record}
use Rattle.avr_part.specs.BuiltIn.{m328p}
use Rattle.avr_part.specs.Part.{IsPart}
use Rattle.avr_part.specs.State.{fresh_state}
use Rattle.avr_part.specs.declared.part.Mem.TheVariants.{Lfuse}
use Rattle.avr_plan.specs.Plan.{Plan, IsFitted}
use Rattle.avr_plan.specs.declared.planned.Task.TheVariants.{Write}
use Rattle.avr_plan.specs.declared.settings.Port.TheVariants.{Emulated}
use Rattle.avr_plan.specs.declared.settings.Settings.{Settings}
use Rattle.avr_session.specs.Session.{session}
use Rattle.stk_emu.specs.Device.{device}
use Rattle.stk_emu.specs.Effect.{Memories, effects, memories_of}
use Rattle.stk_emu.specs.Exchange.{Execution, Executed}
use Rattle.stk_frame.specs.Cut.{frames}
use Rattle.stk_host.specs.Dialog.{bytes_sent, played}
use Rattle.stk_host.specs.Operations.{handshake, opening, closing, operation}
use Rattle.stk_host.specs.Play.{IsBytePrefixOf}
use Rattle.stk_host.specs.Steps.{exchange, attempt, attempts_or_fault, play}
use Rattle.stk_host.specs.Tape.{answer}
use Rattle.stk_host.specs.Transcript.{Transcript, Sent, heard, sent}
use Rattle.avr_tool.specs.Outcome.{write_operations}
use Rattle.avr_laws.proofs.Lines.NoneForgedTest.{by_test}
use Rattle.avr_laws.proofs.Outcomes.Begun.{emulated_begun}
use Rattle.avr_laws.proofs.Table.AnyStatus.{begun_by_any, spared_by_any}
use Rattle.avr_laws.proofs.Rows.Kept.{programmer}
use Rattle.avr_laws.proofs.Rows.OtherSignature.{m328}
use Rattle.avr_laws.proofs.Rows.PerfectLine.{perfect_transcript}
use Rattle.avr_laws.proofs.Rows.Promise.{chip_fits_part, chip_is_sound, is_in, is_part, rows_kept}
use Rattle.avr_laws.specs.BegunByPort.{IsBegun, IsBegunByAny, IsSparedByAny, BeginsPlanAt}
use Rattle.avr_laws.specs.EmulatedStates.{HasEmptyBuffers, HasPart, chip_memories}
use Rattle.avr_laws.specs.Kept.{NoneForged}
use Rattle.avr_laws.specs.KeptByPort.{ConnectionState}
use Rattle.avr_laws.specs.Worked.{worked_settings}

-- `-U lfuse:w:BYTE:m`, over a link that loses nothing
abbrev writing : ℕ → Plan
writing byte =
    record { part = m328p; tasks = Write Lfuse (Some byte ∷ []) ∷ []; switches = worked_settings.switches }

abbrev passed : ℕ → Transcript
passed byte = perfect_transcript (session (writing byte)) 1 programmer

-- its tasks fit the part
tasks_fit : All (IsFitted m328p) (writing 0xE2).tasks
tasks_fit = All-cons (IsFitted m328p) (Write Lfuse (Some 0xE2 ∷ [])) [] (refl, refl) (All-nil (IsFitted m328p))

-- all that it sent is a prefix of what its session sends
whole_run : IsBytePrefixOf (sent (passed 0xE2))
    (bytes_sent (played (session (writing 0xE2)) 1 (heard (passed 0xE2))).events)
unfolding session opening handshake operation closing play attempts_or_fault attempt exchange answer
whole_run = ([], append-nil (sent (passed 0xE2)))

-- so it began its plan
pub fuse_begun : IsBegun (writing 0xE2) (passed 0xE2)
fuse_begun = emulated_begun (writing 0xE2) tasks_fit (passed 0xE2) whole_run

-- and at any programmer of the emulated one's kind
abbrev BegunByAny : Plan → Transcript → Type 0
BegunByAny = IsBegunByAny m328p device chip_memories (HasPart m328p) (HasEmptyBuffers m328p) (λ mem byte. byte)

pub fuse_begun_by_any : BegunByAny (writing 0xE2) (passed 0xE2)
fuse_begun_by_any = search (rules, begun_by_any, tasks_fit, whole_run)

-- ---- a run that wrote 62

-- what became of its eight frames
abbrev executions : List Execution
executions = Executed ∷ Executed ∷ Executed ∷ Executed ∷ Executed ∷ Executed ∷ Executed ∷ Executed ∷ []

-- none of its replies is forged
none_forged_by_run : NoneForged device (frames (sent (passed 0x62))) (heard (passed 0x62)) programmer executions []
unfolding session opening handshake operation closing play attempts_or_fault attempt exchange answer
none_forged_by_run = by_test device (frames (sent (passed 0x62))) (heard (passed 0x62)) programmer executions [] refl

-- no first write operations of the plan give a fuse of 62
after_first : (count : ℕ) → 0x62 ≡ (effects m328p (take count (write_operations (writing 0xE2)))
    (memories_of (fresh_state m328p))).lfuse → ⊥
after_first zero is = omega (arith, is)
after_first (suc zero) is = omega (arith, is)
after_first (suc (suc count)) is = omega (arith, is)

-- so this run didn't begin the plan
pub another_byte_begun : IsBegun (writing 0xE2) (passed 0x62) → ⊥
unfolding session opening handshake operation closing play attempts_or_fault attempt exchange answer
another_byte_begun begun =
    let made = begun programmer executions chip_is_sound refl none_forged_by_run in
    after_first made.count (ap (λ (m : Memories). m.lfuse) made.memories)

-- nor at any programmer
pub another_byte_by_any : BegunByAny (writing 0xE2) (passed 0x62) → ⊥
unfolding session opening handshake operation closing play attempts_or_fault attempt exchange answer
another_byte_by_any begun =
    let made = begun is_part refl (λ unforced. refl) rows_kept programmer executions is_in chip_fits_part
    ((λ written. refl), tt) none_forged_by_run in
    after_first made.count (ap (λ (m : Memories). m.lfuse) made.memories)

-- ---- a chip of another signature, without -F

abbrev Spares : Plan → Transcript → Type 0
Spares = IsSparedByAny m328p device chip_memories (HasPart m328p) (HasEmptyBuffers m328p) (λ mem byte. byte)

-- the same update, for the part `m328`
abbrev of_m328 : ℕ → Plan
of_m328 byte = record (writing byte) { part = m328 }

-- what passes if the chip is refused
abbrev refused : Transcript
refused = perfect_transcript (session (of_m328 0xE2)) 1 programmer

-- its tasks fit the part
fits_m328 : All (IsFitted m328) (of_m328 0xE2).tasks
fits_m328 = All-cons (IsFitted m328) (Write Lfuse (Some 0xE2 ∷ [])) [] (refl, refl) (All-nil (IsFitted m328))

-- all that it sent is a prefix of what its session sends
refused_whole : IsBytePrefixOf (sent refused) (bytes_sent (played (session (of_m328 0xE2)) 1 (heard refused)).events)
unfolding session opening handshake operation closing play attempts_or_fault attempt exchange answer
refused_whole = ([], append-nil (sent refused))

-- so the chip is as it was
pub chip_spared : Spares (of_m328 0xE2) refused
chip_spared = search (rules, spared_by_any, fits_m328, refused_whole)

m328_is_part : IsPart m328
m328_is_part = search rules

other_signature : m328p.signature ≡ m328.signature → ⊥
other_signature same = let last : 0x0F ≡ 0x14 = ap (λ (bytes : Bytes). slice_index bytes 2) same in omega (arith, last)

-- a run that wrote the fuse all the same
pub fuse_not_spared : Spares (of_m328 0xE2) (passed 0x62) → ⊥
unfolding session opening handshake operation closing play attempts_or_fault attempt exchange answer
fuse_not_spared spares =
    let same = spares m328_is_part is_part refl other_signature rows_kept programmer executions is_in chip_fits_part
    none_forged_by_run in
    search rules

-- ---- over the emulator nothing may pass over standard streams

pub passed_elsewhere : (At : ConnectionState) (Unused : Type 0) (file : Bytes) (s : Settings) (old new : Record)
    → BeginsPlanAt IsBegun At Unused (Emulated file) s (Sent (0x1B ∷ []) ∷ []) old new → ⊥
passed_elsewhere At Unused file s old new (none, unused) = cc
