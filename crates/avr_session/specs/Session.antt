-- The session of a run as one dialog: the frames on the link, and the output events at the desk.
use Rattle.std.specs.Prelude.{ℕ, Bool, false, List, [], ◌∷◌, ◌++◌, length, Option, Result, Ok, Err, ⊤, codes, decimal, if◌then◌else◌}
use Rattle.std.specs.Str.{bytes_eq}
use Rattle.avr_io.specs.Record.{Bytes}
use Rattle.avr_plan.specs.declared.settings.Switches.{Switches}
use Rattle.avr_plan.specs.declared.update.Format.{Format}
use Rattle.avr_image.specs.Image.{byte_count}
use Rattle.avr_io.specs.Lines.{spaced_digits}
use Rattle.avr_io.specs.Named.{is_dash}
use Rattle.avr_io.specs.OutputEvents.{OutputEvent, PrintsLine, CreatesFile, WritesFile, WritesOutput}
use Rattle.avr_part.specs.Mem.{name_of}
use Rattle.avr_part.specs.Part.{Part}
use Rattle.avr_part.specs.declared.part.Mem.{Mem}
use Rattle.avr_part.specs.declared.part.Mem.TheVariants.{Flash}
use Rattle.avr_plan.specs.Plan.{Plan}
use Rattle.stk_host.specs.declared.fault.HostFault.{HostFault}
use Rattle.stk_host.specs.declared.fault.HostFault.TheVariants.{LinkEnded, WrongSignature}
use Rattle.stk_host.specs.Dialog.{Dialog, Done, Emit, ◌>>=◌, lifted}
use Rattle.stk_host.specs.Operations.{opening, erasing, writing, reading, verifying, closing}
use Rattle.avr_session.specs.declared.reports.Done as reports
use Rattle.avr_session.specs.declared.reports.Done.TheVariants.{Written, NotWritten, Verified, Read}
use Rattle.avr_session.specs.Standing.{Standing, NoFault, Faulty, Over}
use Rattle.avr_session.specs.Actions.{SkippedByDryRun, SkippedErase, SkippedWrite, Action, OpenSession, EraseChip, WriteImage, CompareImage, SaveMemory, SkipAction, actions}
use Rattle.avr_session.specs.FileText.{file_text, trimmed}
use Rattle.avr_session.specs.Lines.{informs, warns, other_signature, fault_line}

-- ---- dialogs

-- The output events in order, and then the dialog.
abbrev pub emits : {R : Type 0} → List OutputEvent → Dialog OutputEvent R → Dialog OutputEvent R
emits [] dialog = dialog
emits (event ∷ events) dialog = Emit event (emits events dialog)

-- How a session goes on after an operation of the host.
abbrev pub standing : {A : Type 0} → Result A HostFault → Standing
standing (Ok a) = NoFault
standing (Err LinkEnded) = Over
standing (Err fault) = Faulty

-- An operation of the host, and the output for its outcome.
abbrev pub reported : {A : Type 0} → Dialog ⊥ (Result A HostFault) → (Result A HostFault → List OutputEvent)
    → Dialog OutputEvent Standing
reported operation outcome_output = lifted operation >>=
    λ outcome. emits (outcome_output outcome) (Done (standing outcome))

-- The next action of a session, which a fault skips.
abbrev pub unless_fault : Dialog OutputEvent Standing → Standing → Dialog OutputEvent Standing
unless_fault next NoFault = next
unless_fault next fault = Done fault

-- ---- the output for outcomes

-- The line of a fault, or the output for a result.
abbrev pub fault_line_or : {A : Type 0} → Part → (A → List OutputEvent) → Result A HostFault → List OutputEvent
fault_line_or part good (Ok a) = good a
fault_line_or part good (Err fault) = PrintsLine (fault_line part fault) ∷ []

-- The line of the signature that was found.
abbrev pub signature_output : ℕ → Bytes → List OutputEvent
signature_output quiet found = informs quiet (codes "device signature = " ∷ spaced_digits found ∷ [])

-- A signature that isn't the part's is reported even if it is accepted.
abbrev pub warns_of_signature : ℕ → Part → Bytes → List OutputEvent
warns_of_signature quiet part found =
    if bytes_eq found part.signature then [] else warns quiet (other_signature part found)

-- The output after the session was opened: the signature, and what is wrong with it.
abbrev pub opening_output : ℕ → Part → Result Bytes HostFault → List OutputEvent
opening_output quiet part (Ok found) = signature_output quiet found ++ warns_of_signature quiet part found
opening_output quiet part (Err (WrongSignature found)) =
    signature_output quiet found ++ PrintsLine (fault_line part (WrongSignature found)) ∷ []
opening_output quiet part (Err fault) = PrintsLine (fault_line part fault) ∷ []

-- What was done with the bytes of a memory.
abbrev pub done_text : reports.Done → Bytes
done_text Written = codes " bytes written"
done_text NotWritten = codes " bytes not written"
done_text Verified = codes " bytes verified"
done_text Read = codes " bytes read"

-- The line for this number of bytes of a memory.
abbrev pub bytes_output : ℕ → Mem → ℕ → Bytes → List OutputEvent
bytes_output quiet mem count done = informs quiet (name_of mem ∷ codes ": " ∷ decimal count ∷ done ∷ [])

-- The name `-` is standard output.
abbrev pub saving_output : Bytes → Bytes → List OutputEvent
saving_output file text =
    if is_dash file then WritesOutput text ∷ [] else CreatesFile file ∷ WritesFile text ∷ []

-- Trailing FF of flash are dropped, unless `all` is set.
abbrev pub bytes_to_save : Mem → Bool → Bytes → Bytes
bytes_to_save Flash false bytes = trimmed bytes
bytes_to_save mem all bytes = bytes

-- The output after an erase; below, after each other operation.
abbrev pub erased_output : ℕ → Part → Result ⊤ HostFault → List OutputEvent
erased_output quiet part = fault_line_or part (λ _. informs quiet (codes "chip erased" ∷ []))

abbrev pub written_output : ℕ → Part → Mem → List (Option ℕ) → Result ⊤ HostFault → List OutputEvent
written_output quiet part mem image =
    fault_line_or part (λ _. bytes_output quiet mem (byte_count image) (done_text Written))

abbrev pub verified_output : ℕ → Part → Mem → List (Option ℕ) → Result ⊤ HostFault → List OutputEvent
verified_output quiet part mem image =
    fault_line_or part (λ _. bytes_output quiet mem (byte_count image) (done_text Verified))

abbrev pub closing_output : ℕ → Part → Result ⊤ HostFault → List OutputEvent
closing_output quiet part = fault_line_or part (λ _. informs quiet (codes "done" ∷ []))

abbrev pub read_output : Switches → Mem → Format → Bytes → Bytes → List OutputEvent
read_output s mem format file bytes = let kept = bytes_to_save mem s.all bytes in
    saving_output file (file_text format kept) ++ bytes_output s.quiet mem (length kept) (done_text Read)

-- The output in place of an erase, and of a write.
abbrev pub skipped_output : ℕ → SkippedByDryRun → List OutputEvent
skipped_output quiet SkippedErase = warns quiet (codes "chip not erased because of -n" ∷ [])
skipped_output quiet (SkippedWrite mem image) = bytes_output quiet mem (byte_count image) (done_text NotWritten)

-- ---- the actions of a session

-- What a session does at one action, and its output.
abbrev pub action_dialog : Part → Switches → Action → Dialog OutputEvent Standing
action_dialog part s OpenSession = reported (opening part.signature s.force) (opening_output s.quiet part)
action_dialog part s EraseChip = reported erasing (erased_output s.quiet part)
action_dialog part s (WriteImage mem image) = reported (writing part mem image) (written_output s.quiet part mem image)
action_dialog part s (CompareImage mem image) =
    reported (verifying part mem image) (verified_output s.quiet part mem image)
action_dialog part s (SaveMemory mem format file) =
    reported (reading part mem) (fault_line_or part (read_output s mem format file))
action_dialog part s (SkipAction what) = emits (skipped_output s.quiet what) (Done NoFault)

-- Actions in order, up to the first fault.
abbrev pub actions_dialog : Part → Switches → List Action → Dialog OutputEvent Standing
actions_dialog part s [] = Done NoFault
actions_dialog part s (action ∷ actions) = action_dialog part s action >>= unless_fault (actions_dialog part s actions)

-- The end of a session: programming mode is left, also after a fault, unless the link has ended. A second fault is
-- not reported.
abbrev pub ending : Part → Switches → Standing → Dialog OutputEvent Standing
ending part s NoFault = reported closing (closing_output s.quiet part)
ending part s Faulty = reported closing (λ _. []) >>= λ closed. Done Over
ending part s Over = Done Over

-- The actions of a plan and the end of its session.
abbrev pub session_dialog : Plan → Dialog OutputEvent Standing
session_dialog plan = actions_dialog plan.part plan.switches (actions plan) >>= ending plan.part plan.switches

-- The status of a run: 0 if there was no fault, otherwise 1.
abbrev pub status_of : Standing → ℕ
status_of NoFault = 0
status_of _ = 1

-- The whole session, which returns the status. Contracts of `drive` and of runs state that it was run.
unfoldable pub session : Plan → Dialog OutputEvent ℕ
session plan = session_dialog plan >>= λ standing. Done (status_of standing)
