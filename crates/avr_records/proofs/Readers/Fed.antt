-- How the state of a reader follows the text that it was fed, piece by piece.
use Rattle.std.proofs.lemmas.Grind.{common_steps}
use Rattle.std.proofs.Common.{◌≡◌, ◌∙◌, sym, ap, refl, arith, ℕ, suc, ◌+◌, List, [], ◌∷◌, ◌++◌, length, map, take, true, false, nat_lt, Some, None, Ok, Err, inl, inr, rules}
use Rattle.std.proofs.lemmas.Bool.{cases_Bool}
use Rattle.std.proofs.lemmas.Bool.Decides.{nat_tests}
use Rattle.std.proofs.Math.Seq.{take-append-add}
use Rattle.std.proofs.lemmas.List.{append-nil, append_assoc, length-replicate, length-take-le, map-append, take_all, length-append, length-take, nil_from_length}
use Rattle.avr_image.specs.Image.{empty}
use Rattle.avr_records.proofs.Readers.Held.{holds_past_end, holds_good_line, holds_bad_line, image_of_lines_holds}
use Rattle.avr_records.proofs.Readers.LaterLines.{parts_some, pasted_last, slice_split_append}
use Rattle.avr_records.specs.Closed.{all_but_last, first_fault_among, ended_lines_fault}
use Rattle.avr_records.specs.Lines.{lines, is_line_end}
use Rattle.avr_records.specs.Progress.{image_size}
use Rattle.avr_records.specs.Reader.{kept_of_line, ReadsLines}
use Rattle.avr_records.specs.Reading.{line_result, image_of_lines, image_in_text, ok_unless}
use Rattle.avr_records.specs.Meaning.{Nothing}
use Rattle.avr_records.specs.Record.{longest}
use Rattle.avr_records.specs.Steps.{next_progress, ending_of, no_lines}
use Rattle.avr_records.specs.declared.kind.Kind.{Kind}
use Rattle.avr_records.specs.declared.fault.LineFault.TheVariants.{TooLong}
use Rattle.avr_records.specs.declared.fault.RecordFault.{RecordFault}
use Rattle.avr_records.specs.declared.progress.Progress.{Progress}

-- ---- lines

-- a further text continues the last line of a text
pub text_goes_on : (text more : List ℕ) (prefix : List (List ℕ)) (last first : List ℕ) (rest : List (List ℕ))
    → lines text ≡ prefix ++ last ∷ []
    → lines more ≡ first ∷ rest → lines (text ++ more) ≡ prefix ++ (last ++ first) ∷ rest
text_goes_on text more prefix last first rest cut next = grind (arith, nat_tests, slice_split_append, pasted_last)

-- a line before LF is the first of the lines
pub line_first : (line more : List ℕ) → lines line ≡ line ∷ [] → lines (line ++ 10 ∷ more) ≡ line ∷ lines more
line_first line more one = search (rules, text_goes_on line (10 ∷ more) [] line [] (lines more) one refl)

-- all lines but the last are those of the first list, then all but the last of the second
pub closed_prefix : (prefix : List (List ℕ)) (first : List ℕ) (more : List (List ℕ))
    → all_but_last (prefix ++ first ∷ more) ≡ prefix ++ all_but_last (first ∷ more)
closed_prefix (line ∷ next ∷ prefix) first more = grind (arith, nat_tests, closed_prefix (next ∷ prefix) first more)
closed_prefix x first more = refl

-- lines are all but the last, then the last
pub but_last : (first : List ℕ) (more : List (List ℕ))
    → (last : List ℕ) × (first ∷ more ≡ all_but_last (first ∷ more) ++ last ∷ [])
but_last first [] = (first, refl)
but_last first (next ∷ more) = let rest = but_last next more in (rest.0, ap (λ (ls : List (List ℕ)). first ∷ ls) rest.1)

-- ---- what is kept of a line

-- bytes that fit into the room left continue what is kept of a line
pub kept_continued : (part more : List ℕ) (room : ℕ) → room + length part ≡ longest + 1
    → part ++ take room more ≡ kept_of_line (part ++ more)
kept_continued part more room is = search (rules, take-append-add part more room)

-- what is kept can be cut again before it is continued
cut_again : (n : ℕ) (xs ys : List ℕ) → take n (take n xs ++ ys) ≡ take n (xs ++ ys)
cut_again (suc n) (x ∷ xs) ys = ap (λ (zs : List ℕ). x ∷ zs) (cut_again n xs ys)
cut_again x y ys = refl

-- a line of more than the longest length is too long
emits_too_long : (kind : Kind) (line : List ℕ) → nat_lt longest (length line) ≡ true
    → line_result kind line ≡ Err TooLong
emits_too_long x line is = grind (arith, nat_tests)

-- the kept bytes of a line mean what the line means
pub result_kept : (kind : Kind) (line : List ℕ) → line_result kind (kept_of_line line) ≡ line_result kind line
result_kept kind line =
    elim (cases_Bool (nat_lt longest (length line))) [
      | inl t ↦
          let len = length-take-le (longest + 1) line (grind (arith, nat_tests)) in
          emits_too_long kind (kept_of_line line) (grind (arith, nat_tests)) ∙ sym (emits_too_long kind line t)
      | inr f ↦ ap (line_result kind) (take_all (longest + 1) line (grind (arith, nat_tests, f)))
    ]

-- the kept bytes, continued, mean what the line continued means
kept_and_rest : (kind : Kind) (part last rest : List ℕ) → part ≡ kept_of_line last
    → line_result kind (part ++ rest) ≡ line_result kind (last ++ rest)
kept_and_rest kind part last rest is =
    search (rules, result_kept kind (part ++ rest), cut_again (longest + 1) last rest, result_kept kind (last ++ rest))

-- ---- a reader

-- the piece continues the last line without an end
keeps : (kind : Kind) (p : Progress) (part text more : List ℕ) → lines more ≡ more ∷ [] → p.extent.ended ≡ false
    → ReadsLines kind p part text → ReadsLines kind p (kept_of_line (part ++ more)) (text ++ more)
keeps kind p part text more one on r = record {
  prefix = r.prefix;
  last = r.last ++ more;
  cut = text_goes_on text more r.prefix r.last more [] r.cut one;
  holds = r.holds;
  keeps = λ _. ap (λ (zs : List ℕ). kept_of_line (zs ++ more)) (r.keeps on) ∙ cut_again (longest + 1) r.last more;
}

-- nothing counts after an end record
reads_past_end : (kind : Kind) (p : Progress) (part new text more : List ℕ) → p.extent.ended ≡ true
    → ReadsLines kind p part text → ReadsLines kind p new (text ++ more)
reads_past_end kind p part new text more done r =
    let some = parts_some is_line_end more in
    let cut = but_last (r.last ++ some.0) some.1 in
    let closed : List (List ℕ) = all_but_last ((r.last ++ some.0) ∷ some.1) in
    record {
      prefix = r.prefix ++ closed;
      last = cut.0;
      cut = search (rules, text_goes_on, append_assoc);
      holds = search (rules, map-append, holds_past_end);
      keeps = λ on. cc (done, on);
    }

-- the lines of the text once its last line has ended
ends : (text rest more : List ℕ) (prefix : List (List ℕ)) (last : List ℕ) → lines rest ≡ rest ∷ []
    → lines text ≡ prefix ++ last ∷ [] → lines (text ++ (rest ++ 10 ∷ more)) ≡ prefix ++ (last ++ rest) ∷ lines more
ends text rest more prefix last one cut = grind (arith, nat_tests, text_goes_on, line_first)

-- the results of some lines and one more
pub results_prefix : (kind : Kind) (prefix : List (List ℕ)) (line : List ℕ)
    → map (line_result kind) (prefix ++ line ∷ []) ≡ map (line_result kind) prefix ++ line_result kind line ∷ []
results_prefix kind prefix line = map-append (line_result kind) prefix (line ∷ [])

-- the last line changes the state as its kept bytes do, with the bytes that end it
line_step : (kind : Kind) (p : Progress) (part text rest : List ℕ) (r : ReadsLines kind p part text)
    → next_progress p (line_result kind (r.last ++ rest)) ≡ next_progress p (line_result kind (part ++ rest))
line_step kind p part text rest r = elim (cases_Bool p.extent.ended) [
  | inl done ↦ rw done refl
  | inr on ↦ ap (next_progress p) (sym (kept_and_rest kind part r.last rest (r.keeps on)))
]

-- a good line has ended
reads_good_line : (kind : Kind) (p new : Progress) (part next text rest : List ℕ) → lines rest ≡ rest ∷ []
    → next_progress p (line_result kind (part ++ rest)) ≡ Ok new → next ≡ [] → ReadsLines kind p part text
    → ReadsLines kind new next (text ++ (rest ++ 10 ∷ []))
reads_good_line kind p new part next text rest one is clear r = record {
  prefix = r.prefix ++ (r.last ++ rest) ∷ [];
  last = [];
  cut = ends text rest [] r.prefix r.last one r.cut ∙ sym (append_assoc r.prefix ((r.last ++ rest) ∷ []) ([] ∷ []));
  holds = search (rules, results_prefix, holds_good_line, line_step);
  keeps = λ _. clear;
}

-- a line with a fault has ended: it is the fault of the ended lines, whatever follows
reports_bad_line : (kind : Kind) (p : Progress) (part text rest more : List ℕ) (fault : RecordFault)
    → lines rest ≡ rest ∷ [] → next_progress p (line_result kind (part ++ rest)) ≡ Err fault
    → ReadsLines kind p part text → ended_lines_fault kind (text ++ (rest ++ 10 ∷ more)) (image_size p) ≡ Some fault
reports_bad_line kind p part text rest more fault one is r =
    let next = parts_some is_line_end more in
    let behind : List (List ℕ) = all_but_last (next.0 ∷ next.1) in
    let cut = ends text rest more r.prefix r.last one r.cut
    ∙ ap (λ (zs : List (List ℕ)). r.prefix ++ (r.last ++ rest) ∷ zs) next.2 in
    let closed = ap all_but_last cut ∙ closed_prefix r.prefix (r.last ++ rest) (next.0 ∷ next.1) in
    ap (first_fault_among (image_size p)) (ap (map (line_result kind)) closed
    ∙ map-append (line_result kind) r.prefix ((r.last ++ rest) ∷ behind))
    ∙ holds_bad_line p _ (map (line_result kind) behind) (line_result kind (r.last ++ rest)) fault r.holds
    (line_step kind p part text rest r ∙ is)

-- no line that has ended has a fault
pub reads_sound : (kind : Kind) (p : Progress) (part text : List ℕ) → ReadsLines kind p part text
    → ended_lines_fault kind text (image_size p) ≡ None
reads_sound kind p part text r = grind (arith, nat_tests, closed_prefix, append-nil)

-- so feeding returns no fault
pub no_fault_so_far : (kind : Kind) (p : Progress) (size : ℕ) (part text : List ℕ) → image_size p ≡ size
    → ReadsLines kind p part text → Ok tt ≡ ok_unless (ended_lines_fault kind text size) (tt {0})
no_fault_so_far kind p size part text same r = search (rules, reads_sound kind p part text r)

-- ---- the whole text

-- the results of a text are those of its ended lines, then that of its last line
all_results : (kind : Kind) (text : List ℕ) (prefix : List (List ℕ)) (last : List ℕ) → lines text ≡ prefix ++ last
    ∷ [] → map (line_result kind) (lines text) ≡ map (line_result kind) prefix ++ line_result kind last ∷ []
all_results kind text prefix last cut = ap (map (line_result kind)) cut ∙ results_prefix kind prefix last

-- a text reads as the state after its last line
whole_next : (kind : Kind) (p new : Progress) (part text : List ℕ) (r : ReadsLines kind p part text)
    → image_size new ≡ image_size p → next_progress p (line_result kind r.last) ≡ Ok new
    → image_in_text kind text (image_size p) ≡ Ok (new.image, ending_of new.extent)
whole_next kind p new part text r same is = grind (arith, common_steps, image_of_lines_holds, holds_good_line)

-- a text with a good last line reads as the state after that line
pub whole_good : (kind : Kind) (p new : Progress) (part text : List ℕ) → image_size new ≡ image_size p
    → next_progress p (line_result kind (part ++ [])) ≡ Ok new → ReadsLines kind p part text
    → image_in_text kind text (image_size p) ≡ Ok (new.image, ending_of new.extent)
whole_good kind p new part text same is r =
    whole_next kind p new part text r same (rw (append-nil r.last) at (line_step kind p part text [] r) ∙ is)

-- a text whose last line has a fault has that fault
pub whole_bad : (kind : Kind) (p : Progress) (part text : List ℕ) (fault : RecordFault)
    → next_progress p (line_result kind (part ++ [])) ≡ Err fault → ReadsLines kind p part text
    → image_in_text kind text (image_size p) ≡ Err fault
whole_bad kind p part text fault is r =
    ap (image_of_lines (image_size p)) (all_results kind text r.prefix r.last r.cut)
    ∙ rw (holds_bad_line p _ [] (line_result kind r.last) fault r.holds
    (rw (append-nil r.last) at (line_step kind p part text [] r) ∙ is)) refl

-- if nothing is kept of a line, it is empty
kept_nothing : (line : List ℕ) → [] ≡ kept_of_line line → line ≡ []
kept_nothing line is = search rules

-- an empty line means nothing
pub result_nothing : (kind : Kind) → line_result kind [] ≡ Ok Nothing
result_nothing x = grind (arith, nat_tests)

-- a text with an empty last line reads as the state before it
pub whole_empty : (kind : Kind) (p : Progress) (part text : List ℕ) → part ≡ [] → ReadsLines kind p part text
    → image_in_text kind text (image_size p) ≡ Ok (p.image, ending_of p.extent)
whole_empty kind p part text empty r = elim (cases_Bool p.extent.ended) [
  | inl done ↦ whole_next kind p p part text r refl (rw done refl)
  | inr on ↦
      let emits : line_result kind r.last ≡ Ok Nothing =
      rw (kept_nothing r.last (sym empty ∙ r.keeps on)) (result_nothing kind) in
      whole_next kind p (record p { extent = record p.extent { lines = p.extent.lines + 1 } }) part text r refl
      (rw (emits, on) refl)
]

-- ---- the pieces

-- a line and its LF belong to the bytes used
rearranged : (used line rest : List ℕ) → used ++ (line ++ 10 ∷ rest) ≡ (used ++ (line ++ 10 ∷ [])) ++ rest
rearranged used line rest = grind (arith, nat_tests, append_assoc)

-- the state of a reader of lines: what it knows of the ended lines, and what it keeps of the last one
pub record LineState : Type 0 where
  pub progress : Progress
  pub part : List ℕ

-- the state with this progress and this part
abbrev pub line_state : Progress → List ℕ → LineState
line_state progress part = record { progress = progress; part = part }

-- `left` is what is left of a piece. The part before it leads from state `old` to state `now`.
pub record Carries (kind : Kind) (old now : LineState) (piece left : List ℕ) : Type 0 where
  pub used : List ℕ
  pub cut : piece ≡ used ++ left
  pub reads : (text : List ℕ) → ReadsLines kind old.progress old.part text
      → ReadsLines kind now.progress now.part (text ++ used)

-- one more line of the piece was good
pub carries_next : (kind : Kind) (old now new : LineState) (piece left line more : List ℕ)
    → Carries kind old now piece left → lines line ≡ line ∷ [] → left ≡ line ++ 10 ∷ more
    → next_progress now.progress (line_result kind (now.part ++ line)) ≡ Ok new.progress → new.part ≡ []
    → Carries kind old new piece more
carries_next kind old now new piece left line more carries one end is clear =
    grind (arith, nat_tests, rearranged, append_assoc, reads_good_line)

-- a line of the piece with a fault gives the fault of the ended lines
pub carries_fault : (kind : Kind) (old now : LineState) (piece left line more : List ℕ) (fault : RecordFault)
    → Carries kind old now piece left → lines line ≡ line ∷ [] → left ≡ line ++ 10 ∷ more
    → next_progress now.progress (line_result kind (now.part ++ line)) ≡ Err fault
    → image_size now.progress ≡ image_size old.progress → (text : List ℕ) → ReadsLines kind old.progress old.part text
    → ended_lines_fault kind (text ++ piece) (image_size old.progress) ≡ Some fault
carries_fault kind old now piece left line more fault carries one end is same text r =
    let parts : text ++ piece ≡ (text ++ carries.used) ++ (line ++ 10 ∷ more) =
    search (rules, append_assoc) in search (rules, reports_bad_line)

-- the rest of the piece continues the last line
pub carries_last : (kind : Kind) (old now new : LineState) (piece left : List ℕ) → Carries kind old now piece left
    → (now.progress.extent.ended ≡ false → lines left ≡ left ∷ []) → new.progress ≡ now.progress
    → (now.progress.extent.ended ≡ false → new.part ≡ kept_of_line (now.part ++ left)) → (text : List ℕ)
    → ReadsLines kind old.progress old.part text → ReadsLines kind new.progress new.part (text ++ piece)
carries_last kind old now new piece left carries one is goes text r =
    grind (arith, nat_tests, append_assoc, reads_past_end, keeps)

-- at the beginning of a piece the state is as before
pub carries_start : (kind : Kind) (state : LineState) (piece : List ℕ) → Carries kind state state piece piece
carries_start kind state piece = grind (arith, nat_tests, append-nil)

-- ---- the beginning

-- a new reader has read the empty text
pub begins : (kind : Kind) (size : ℕ) (p : Progress) (part : List ℕ) → p.extent ≡ no_lines → p.image ≡ empty size
    → part ≡ [] → (image_size p ≡ size) × ReadsLines kind p part []
begins kind size p part none is part_is =
    let needed_is_sound : image_size p ≡ size = ap length is ∙ length-replicate size None in
    rw none (needed_is_sound, record { prefix = []; last = []; cut = refl; holds = search rules; keeps = λ _. part_is })

-- the lemmas for a reader of lines
pub ruleset piece_read = (nat_tests, length-append, length-take, kept_continued, carries_start, carries_next)

-- the lemmas for `LineReader`
pub ruleset lines_read = (piece_read, nil_from_length, result_kept, whole_empty, whole_good)
