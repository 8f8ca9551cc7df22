-- Where a run stops: what is before it and what follows it changes nothing.
use Rattle.std.proofs.Common.{ℕ, ◌≡◌, ◌∙◌, List, [], ◌∷◌, ◌++◌, map, refl, sym, ap, subst, append_assoc, take, inl, inr, codes, rules}
use Rattle.std.proofs.lemmas.List.{take-append-drop}
use Rattle.avr_io.specs.Record.{DeskState, ChangesRecord, Bytes}
use Rattle.avr_io.specs.Stream.{SendsPart}
use Rattle.avr_io.specs.declared.stream.Stream.TheVariants.{File, Output, Messages}
use Rattle.stk_host.specs.Dialog.{Event, Emitted, outputs}
use Rattle.stk_host.specs.Transcript.{Transcript, NoneTaken}
use Rattle.stk_host.proofs.Transcripts.Laws.{none_append, none_behind}
use Rattle.avr_io.specs.OutputEvents.{OutputEvent, PrintsLine, CreatesFile, WritesFile, WritesOutput, after_events}
use Rattle.avr_io.proofs.Stages.Outputs.{kept_append}
use Rattle.avr_session.specs.Runs.{Cause, SendingFailed, ReceivingFailed, FileFailed, PrintingFailed, NotWritten, StopsInOutput, StopsAt}
use Rattle.avr_session.specs.Reporting.{IsOfDesk, OutputsPrefix}

-- ---- events

-- A cause that stops events stops them after more events, too, if no send took bytes before.
pub place_behind : (cause : Cause) (first during : Transcript) (before whole begun later : List (Event OutputEvent))
    → NoneTaken first → StopsAt cause during whole begun later
    → StopsAt cause (first ++ during) (before ++ whole) begun later
place_behind SendingFailed first during before whole begun later none x = search (rules, none_behind)
place_behind ReceivingFailed first during before whole begun later none x = search (rules, none_append)
place_behind (FileFailed file NotWritten) first during before whole begun later none (inl x) =
    let again = ap (λ es. before ++ es) x.0.1 ∙ sym (append_assoc before x.0.0 (Emitted (CreatesFile file) ∷ [])) in
    inl ((before ++ x.0.0, again), x.1)
place_behind (FileFailed file NotWritten) first during before whole begun later none (inr x) = inr x
place_behind cause first during before whole begun later none x = x

-- ---- output events

-- The output events of emitted events are these.
pub outputs_emitted : (xs : List OutputEvent) → outputs (map Emitted xs) ≡ xs
outputs_emitted [] = refl
outputs_emitted (x ∷ xs) = ap (λ ss. x ∷ ss) (outputs_emitted xs)

-- Emitted events of two lists are those of both.
pub map_append : (x y : List OutputEvent) → map {B = Event OutputEvent} Emitted (x ++ y) ≡ map Emitted x
    ++ map Emitted y
map_append [] y = refl
map_append (s ∷ x) y = ap (λ es. Emitted s ∷ es) (map_append x y)

-- Output events are those of the list that emits them.
pub outputs_by : (xs : List OutputEvent) (events : List (Event OutputEvent)) → map Emitted xs ≡ events → xs
    ≡ outputs events
outputs_by xs events is = sym (outputs_emitted xs) ∙ ap outputs is

-- If output was done, and then a prefix of more, a prefix of both was done.
pub prefix_behind : {cause : Cause} {d e f : DeskState} (done more : List OutputEvent)
    → ChangesRecord (after_events done) d e → OutputsPrefix cause e f more → OutputsPrefix cause d f (done ++ more)
prefix_behind {cause = cause} {d = d} {e = e} {f = f} done more kept x = record {
  whole = done ++ x.whole;
  begun = x.begun;
  later = x.later;
  outputs_are = ap (λ (ss : List OutputEvent). done ++ ss) x.outputs_are ∙ sym (append_assoc done x.whole x.later);
  place = subst (λ es. StopsAt cause [] es (map Emitted x.begun) (map Emitted x.later)) (sym (map_append done x.whole))
      (place_behind cause [] [] (map Emitted done) (map Emitted x.whole) (map Emitted x.begun) (map Emitted x.later) tt
      x.place);
  by_desk = x.by_desk;
  kept = search (rules, append_assoc, kept_append);
}

-- A prefix of output is a prefix of it with more behind.
pub prefix_of : {cause : Cause} {d e : DeskState} (some more : List OutputEvent) → OutputsPrefix cause d e some
    → OutputsPrefix cause d e (some ++ more)
prefix_of {cause = cause} some more x = search (rules, append_assoc, map_append)

-- An event of which the first n bytes were done is stopped within. The three lemmas below are of a line, of a file
-- and of standard output.
part_due : (event : Bytes → OutputEvent) (n : ℕ) (bytes : Bytes)
    → StopsInOutput event (Emitted (event (take n bytes)) ∷ []) (Emitted (event bytes) ∷ [])
part_due event n bytes = search (rules, take-append-drop n bytes)

-- Events that were done, with one that was begun, are a prefix of the output.
pub prefix_from : {cause : Cause} {old new : DeskState} (whole begun later : List OutputEvent)
    → StopsAt cause [] (map Emitted whole) (map Emitted begun) (map Emitted later) → IsOfDesk cause
    → ChangesRecord (after_events (whole ++ begun)) old new → OutputsPrefix cause old new (whole ++ later)
prefix_from whole begun later place by_desk kept = search rules

-- If a prefix of a line was printed, a failed write to the messages stopped the line.
pub line_part : (old new : DeskState) (bytes : Bytes) → SendsPart Messages old new bytes
    → OutputsPrefix PrintingFailed old new (PrintsLine bytes ∷ [])
line_part old new bytes part =
    prefix_from [] (PrintsLine (take part.0 bytes) ∷ []) _ (part_due PrintsLine part.0 bytes) tt part.2

-- If a file was created and a prefix of its bytes written, a failed write to the file stopped both events.
pub file_part : (old mid new : DeskState) (file bytes : Bytes) → ChangesRecord (after_events (CreatesFile file ∷ []))
    old mid → SendsPart File mid new bytes
    → OutputsPrefix (FileFailed file NotWritten) old new (CreatesFile file ∷ WritesFile bytes ∷ [])
file_part old mid new file bytes created part =
    let begun : List OutputEvent = WritesFile (take part.0 bytes) ∷ [] in
    prefix_from (CreatesFile file ∷ []) begun _ (inl (([], refl), part_due WritesFile part.0 bytes)) tt
    (kept_append (CreatesFile file ∷ []) begun old.kept mid.kept new.kept created part.2)

-- If a prefix of the bytes for standard output was written, a failed write stopped them.
pub output_part : (old new : DeskState) (file bytes : Bytes) → file ≡ codes "-" → SendsPart Output old new bytes
    → OutputsPrefix (FileFailed file NotWritten) old new (WritesOutput bytes ∷ [])
output_part old new file bytes named part = prefix_from [] (WritesOutput (take part.0 bytes) ∷ []) _
    (inr (named, part_due WritesOutput part.0 bytes)) tt part.2
