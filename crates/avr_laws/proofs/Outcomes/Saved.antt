-- With status 0 each file that a memory was read into has the text of what the chip held then.
use Rattle.std.proofs.Common.{◌≡◌, ◌∙◌, sym, ap, subst, ℕ, zero, suc, Bool, true, false, List, [], ◌∷◌, ◌++◌, append_assoc, append-nil, refl, Result, if◌then◌else◌, rules, arith}
use Rattle.std.specs.Prelude.{codes, not}
use Rattle.std.proofs.lemmas.Bool.{cases_Bool}
use Rattle.std.proofs.lemmas.List.Elements.{filter-append}
use Rattle.avr_plan.specs.declared.settings.Switches.{Switches}
use Rattle.avr_desk.proofs.FileUses.Uses.{files_absent, files_opened, files_used}
use Rattle.avr_io.proofs.Stages.Outputs.{after_append}
use Rattle.avr_io.specs.Named.{is_dash}
use Rattle.avr_io.specs.Record.{Bytes, DeskState, ChangesRecord, Record, all_files, all_uses, files_among}
use Rattle.avr_io.specs.OutputEvents.{OutputEvent, Opens, PrintsLine, CreatesFile, WritesFile, WritesOutput, after, after_events}
use Rattle.avr_io.specs.declared.record.Open.TheVariants.{ToRead}
use Rattle.avr_io.specs.declared.record.Opening.{Opening}
use Rattle.avr_io.specs.declared.record.Opening.TheVariants.{Absent, Found}
use Rattle.avr_io.specs.declared.record.Writing.{Writing}
use Rattle.avr_part.specs.Part.{Part}
use Rattle.avr_plan.specs.Plan.{Plan}
use Rattle.avr_session.specs.Actions.{SkippedErase, Action, OpenSession, CompareImage, SaveMemory, SkipAction, actions}
use Rattle.avr_session.specs.Lines.{informs, warns}
use Rattle.avr_session.specs.Session.{fault_line_or, saving_output}
use Rattle.stk_host.specs.declared.fault.HostFault.{HostFault}
use Rattle.stk_emu.specs.Effect.{Memories, effects}
use Rattle.stk_host.specs.Dialog.{Event, Frame, Emitted, outputs}
use Rattle.avr_tool.specs.ExpectedRun.{Expected, action_expected, actions_expected, ending_output, expected_run, next_unless_fault}
use Rattle.avr_tool.specs.Items.{action_items}
use Rattle.avr_laws.specs.Kept.{FilesAreSaved, named_files, dash_output, saved_files}
use Rattle.avr_laws.proofs.Outcomes.ByTasks.{action_files, actions_files, files_by_tasks}
use Rattle.avr_laws.specs.OnlyReading.{OnlyReadsAndPrints}
use Rattle.avr_laws.proofs.Outcomes.Alike.{without_lines}

-- ---- what is done at a desk writes these files

pub record WritesFiles (output_events : List OutputEvent) (files : List Writing) : Type 0 where
  pub created : (r : Record) → all_files (after_events output_events r) ≡ all_files r ++ named_files files
  pub output : (r : Record) → (after_events output_events r).output ≡ r.output ++ dash_output files

-- the files that have names, of two lists
named_joined : (fs gs : List Writing) → named_files (fs ++ gs) ≡ named_files fs ++ named_files gs
named_joined fs gs = filter-append (λ (file : Writing). not (is_dash file.name)) fs gs

-- the files on standard output, of two lists
put_joined : (fs gs : List Writing) → dash_output (fs ++ gs) ≡ dash_output fs ++ dash_output gs
put_joined [] gs = refl
put_joined (f ∷ fs) gs = search (rules, cases_Bool, append_assoc, put_joined fs gs)

-- no output writes no file
none_written : WritesFiles [] []
none_written = record { created = λ r. sym (append-nil (all_files r)); output = λ r. sym (append-nil r.output) }

-- what is put out after something else
pub both_write : (a b : List OutputEvent) (fs gs : List Writing) → WritesFiles a fs → WritesFiles b gs
    → WritesFiles (a ++ b) (fs ++ gs)
both_write a b fs gs first second = record {
  created = λ r. ap all_files (after_append a b r) ∙ (second.created (after_events a r)
      ∙ (ap (λ (files : List Writing). files ++ named_files gs) (first.created r)
      ∙ (append_assoc (all_files r) (named_files fs) (named_files gs)
      ∙ ap (λ (files : List Writing). all_files r ++ files) (sym (named_joined fs gs)))));
  output = λ r. ap (λ (r : Record). r.output) (after_append a b r) ∙ (second.output (after_events a r)
      ∙ (ap (λ (bytes : Bytes). bytes ++ dash_output gs) (first.output r)
      ∙ (append_assoc r.output (dash_output fs) (dash_output gs)
      ∙ ap (λ (bytes : Bytes). r.output ++ bytes) (sym (put_joined fs gs)))));
}

-- a printed line writes no file
line_writes : (bytes : Bytes) → WritesFiles (PrintsLine bytes ∷ []) []
line_writes bytes = record { created = λ r. sym (append-nil (all_files r)); output = λ r. sym (append-nil r.output) }

-- a line that a test leaves out
if_line : (b : Bool) (bytes : Bytes) → WritesFiles (if b then [] else PrintsLine bytes ∷ []) []
if_line b bytes = search (rules, none_written, line_writes)

-- nor does an opening
opening_writes : (opening : Opening) → WritesFiles (Opens opening ∷ []) []
opening_writes (Absent name) = record {
  created = λ r. files_absent name r ∙ sym (append-nil (all_files r));
  output = λ r. sym (append-nil r.output);
}
opening_writes (Found reading) = record {
  created = λ r. files_opened (ToRead reading) r;
  output = λ r. sym (append-nil r.output);
}

-- a save writes its file, or standard output
saved_as : (b : Bool) (file text : Bytes) → is_dash file ≡ b
    → WritesFiles (if b then WritesOutput text ∷ [] else CreatesFile file ∷ WritesFile text ∷ []) (record {
      name = file;
      bytes = text;
    } ∷ [])
saved_as true file text is = record {
  created = λ r. search (rules, is, append-nil);
  output = λ r. search (rules, is, append-nil);
}
saved_as false file text is =
    record { created = λ r. search (rules, is, files_used); output = λ r. search (rules, is, append-nil) }

-- ---- printed lines write none

abbrev unprinted : Record → Record
unprinted r = record r { messages = [] }

-- one output event does the same without earlier messages
one_unprinted : (event : OutputEvent) (r : Record) → unprinted (after event (unprinted r)) ≡ unprinted (after event r)
one_unprinted event r = search rules

-- so do all
all_unprinted : (output_events : List OutputEvent) (r : Record)
    → unprinted (after_events output_events (unprinted r)) ≡ unprinted (after_events output_events r)
all_unprinted [] r = refl
all_unprinted (event ∷ output_events) r = search (
  rules,
  one_unprinted,
  all_unprinted output_events (after event
      (unprinted r)),
  all_unprinted output_events (after event r),
)

-- without printed lines the record is the same but for messages
lines_dropped : (events : List (Event OutputEvent)) (r : Record)
    → unprinted (after_events (outputs (without_lines events)) r) ≡ unprinted (after_events (outputs events) r)
lines_dropped [] r = refl
lines_dropped (Frame bytes ∷ events) r = lines_dropped events r
lines_dropped (Emitted (PrintsLine bytes) ∷ events) r =
    lines_dropped events r
    ∙ (sym (all_unprinted (outputs events) r) ∙ all_unprinted (outputs events) (after (PrintsLine bytes) r))
lines_dropped (Emitted event ∷ events) r = lines_dropped events (after event r)

-- so events that differ in printed lines alone write the same files
pub writes_alike : (a b : List (Event OutputEvent)) (files : List Writing) → without_lines a ≡ without_lines b
    → WritesFiles (outputs a) files → WritesFiles (outputs b) files
writes_alike a b files same writes = record {
  created = λ r. ap all_files (left r) ∙ writes.created r;
  output = λ r. ap (λ (k : Record). k.output) (left r) ∙ writes.output r;
}
  where
    left : (r : Record) → unprinted (after_events (outputs b) r) ≡ unprinted (after_events (outputs a) r)
    left r =
        sym (lines_dropped b r)
        ∙ (ap (λ events. unprinted (after_events (outputs events) r)) (sym same) ∙ lines_dropped a r)

-- ---- planning writes none

-- reading and reporting write no file
pub reading_writes : (output_events : List OutputEvent) → OnlyReadsAndPrints output_events
    → WritesFiles output_events []
reading_writes [] reads = none_written
reading_writes (Opens opening ∷ output_events) reads =
    both_write (Opens opening ∷ []) output_events [] [] (opening_writes opening) (reading_writes output_events reads)
reading_writes (PrintsLine bytes ∷ output_events) reads =
    grind (arith, both_write, line_writes, reading_writes output_events reads)
reading_writes (event ∷ output_events) reads = absurd reads

-- ---- the actions of the expected run

-- an informing line
informing_writes : (quiet : ℕ) (pieces : List Bytes) → WritesFiles (informs quiet pieces) []
informing_writes quiet pieces = if_line _ _

-- a warning
warning_writes : (quiet : ℕ) (pieces : List Bytes) → WritesFiles (warns quiet pieces) []
warning_writes quiet pieces = if_line _ _

-- a save and its line
saved_then : (file text : Bytes) (quiet : ℕ) (pieces : List Bytes)
    → WritesFiles (saving_output file text ++ informs quiet pieces) (record { name = file; bytes = text } ∷ [])
saved_then file text quiet pieces =
    both_write (saving_output file text) (informs quiet pieces) (record { name = file; bytes = text } ∷ []) []
    (saved_as (is_dash file) file text refl) (informing_writes quiet pieces)

-- of an outcome without files
fault_or_writes : {A : Type 0} (part : Part) (good : A → List OutputEvent) (outcome : Result A HostFault)
    → ((a : A) → WritesFiles (good a) []) → WritesFiles (fault_line_or part good outcome) []
fault_or_writes part good outcome each = search (rules, line_writes)

-- a warning that is left out if signatures agree
unless_same : (b : Bool) (output_events : List OutputEvent) → WritesFiles output_events []
    → WritesFiles (if b then [] else output_events) []
unless_same b output_events writes = search (rules, none_written)

module _ (part : Part) (s : Switches) where
  -- an action writes its file
  action_writes : (action : Action) (m : Memories) → WritesFiles (action_expected part s action m).output_events
      (action_files part s action m)
  action_writes OpenSession m = search (rules, both_write, informing_writes, warning_writes, unless_same)
  action_writes (CompareImage mem image) m = search (rules, fault_or_writes, informing_writes)
  action_writes (SaveMemory mem format file) m = search (rules, saved_then)
  action_writes (SkipAction SkippedErase) m = search (rules, warning_writes)
  action_writes z0 m = search (rules, informing_writes)

  -- the memories after an action
  action_leaves : (action : Action) (m : Memories)
      → (action_expected part s action m).memories ≡ effects part (action_items action) m
  action_leaves action m = search rules

  -- one action, and then the others
  actions_in_turn : (first : Expected) (status : ℕ) (next : Memories → Expected) (fs gs : List Writing)
      → first.status ≡ status → WritesFiles first.output_events fs
      → ((next first.memories).status ≡ 0 → WritesFiles (next first.memories).output_events gs)
      → (next_unless_fault first status next).status ≡ 0
      → WritesFiles (next_unless_fault first status next).output_events (fs ++ gs)
  actions_in_turn first zero next fs gs is one more fine = search (rules, both_write)
  actions_in_turn first (suc fault) next fs gs is one more fine = absurd (omega (arith, is, fine))

  -- so do all actions, if there is no fault
  actions_write : (all : List Action) (m : Memories) → (actions_expected part s all m).status ≡ 0
      → WritesFiles (actions_expected part s all m).output_events (actions_files part s all m)
  actions_write [] m fine = none_written
  actions_write (action ∷ all) m fine =
      let first = action_expected part s action m in
      actions_in_turn first first.status (actions_expected part s all) (action_files part s action m)
      (actions_files part s all (effects part (action_items action) m)) refl (action_writes action m)
      (subst (λ (n : Memories). (actions_expected part s all n).status ≡ 0
      → WritesFiles (actions_expected part s all n).output_events
      (actions_files part s all (effects part (action_items action) m))) (sym (action_leaves action m))
      (actions_write all (effects part (action_items action) m))) fine

-- so the expected run writes the plan's files
pub expected_writes : (plan : Plan) (m : Memories) → (expected_run plan m).status ≡ 0
    → WritesFiles (expected_run plan m).output_events (saved_files plan m)
expected_writes plan m fine =
    let working = actions_expected plan.part plan.switches (actions plan) m in
    let files = actions_files plan.part plan.switches (actions plan) m in
    subst (λ (files : List Writing). WritesFiles (expected_run plan m).output_events files)
    (append-nil files ∙ files_by_tasks plan m) (both_write working.output_events (ending_output plan working.status)
    files [] (actions_write plan.part plan.switches (actions plan) m fine)
    (subst (λ (status : ℕ). WritesFiles (ending_output plan status) []) (sym fine)
    (informing_writes plan.switches.quiet (codes "done" ∷ []))))

-- ---- a whole run

-- the files that were made, by the uses
pub created_by_uses : (files : List Writing) (old now : Record) → all_files now ≡ all_files old ++ named_files files
    → files_among (all_uses now) ≡ files_among (all_uses old) ++ named_files files
created_by_uses files old now is = search (rules, files_used)

-- what is put out saves these files
pub these_saved : (output_events : List OutputEvent) (files : List Writing) (old now : DeskState)
    → WritesFiles output_events files → ChangesRecord (after_events output_events) old now
    → FilesAreSaved files old.kept now.kept
these_saved output_events files old now writes passes = record {
  created = created_by_uses files old.kept now.kept (ap all_files passes ∙ writes.created old.kept);
  output = ap (λ (r : Record). r.output) passes ∙ writes.output old.kept;
}
