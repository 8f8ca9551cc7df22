-- A desk over two writers and the files of a system: its record stays true, call after call.
use Rattle.std.proofs.Common.{◌≡◌, ◌⊎◌, ◌∙◌, inr, sym, ap, subst, refl, arith, ℕ, ◌==◌, ◌&&◌, ◌||◌, not, true, false, List, [], ◌∷◌, ◌++◌, append_assoc, append-nil, length, take, Option, None, Some, rules}
use Rattle.std.specs.Prelude.{◌≤◌, IfErr, IfOk, Ok, Result}
use Rattle.std.proofs.KnownBytes.{Appends-nil, Consumes-nil}
use Rattle.avr_io.specs.Record.{Bytes, DeskState, Record, after_read, all_files, all_uses, noted, nothing_kept, use_of, with_absent, with_none_held, with_open, with_replaced, with_tried, after_write}
use Rattle.avr_io.specs.declared.record.Open.TheVariants.{ToRead, ToWrite}
use Rattle.std.proofs.lemmas.Bool.{or_parts}
use Rattle.std.proofs.lemmas.Bool.Decides.{nat_tests}
use Rattle.std.proofs.lemmas.Grind.{common_steps, flat_map-append}
use Rattle.std.proofs.lemmas.List.Folds.{list_any-append}
use Rattle.std.proofs.lemmas.List.Elements.{All-append, All-cons, All-nil, Contains-append_left, Contains-push}
use Rattle.std.specs.Io.KnownBytes.{Appends, Keeps}
use Rattle.std.specs.List.{All}
use Rattle.std.specs.Option.{option_len}
use Rattle.std.specs.declared.io.ErrorKind.{ErrorKind}
use Rattle.std.specs.declared.io.Read.{Ghosts as Reads}
use Rattle.std.specs.declared.io.Write.{Ghosts as Writes}
use Rattle.ghosts.specs.Preserves.{Preserves}
use Rattle.avr_io.specs.Named.{is_dash}
use Rattle.avr_desk.proofs.FileUses.Calls.{opened, calls_opened, calls_replaced, made_dash, opened_dash, opened_named}
use Rattle.avr_desk.proofs.FileUses.Uses.{files_absent, files_opened, files_replaced}
use Rattle.avr_desk.specs.Journal.{Counts, ChangesCalls, FileCall, Gives, ReleasesHeld, CrashMayAlsoLeave, CrashLeavesNoMore, Opens, with_calls, calls_of_record, with_one_more_held, made, no_calls}
use Rattle.avr_io.specs.Fault.{IsCall, WriteCounts}
use Rattle.avr_io.specs.Stream.{IsWrite, SendsTaken}
use Rattle.avr_io.specs.declared.stream.Stream.{Stream}
use Rattle.avr_io.specs.declared.desk.DeskFault.{DeskFault}
use Rattle.avr_io.specs.declared.desk.DeskFault.TheVariants.{Failed}
use Rattle.avr_desk.specs.Handles.{CrashLeaves, IsTrueRecord, HandleGave, IsHeldBy, IsTrueOpen, IsTrueUse}
use Rattle.avr_desk.specs.OpenFile.{OpenFileGives, GivesBytes, OpenFileGivesNothing, IsClosed, is_output}
use Rattle.avr_desk.specs.Shown.{Shown, IsTrueSince, RecordsAll, has_dash, writes_to_output}
use Rattle.avr_desk.specs.declared.file_system.FileSystem.{Ghosts}
use Rattle.avr_io.specs.declared.record.FileUse.{FileUse}
use Rattle.avr_io.specs.declared.record.FileUse.TheVariants.{Created, Opened}
use Rattle.avr_io.specs.declared.record.Opening.TheVariants.{Absent, Found}
use Rattle.avr_io.specs.declared.record.Open.{Open}
use Rattle.avr_io.specs.declared.record.Reading.{Reading}
use Rattle.avr_io.specs.declared.record.Writing.{Writing}
use Rattle.avr_desk.specs.declared.system.OpenFile.{OpenFile}
use Rattle.avr_desk.specs.declared.system.OpenFile.TheVariants as open_file

-- ---- files that are the output

-- if no file is `-`, none of the first files is, and none of the last ones
no_dash_parts : {all : List Writing} (front back : List Writing) → all ≡ front ++ back → has_dash all ≡ false
    → (has_dash front ≡ false) × (has_dash back ≡ false)
no_dash_parts front back is none =
    or_parts (has_dash front) (has_dash back) (sym (list_any-append _ front back) ∙ (sym (ap has_dash is) ∙ none))

-- writing bytes doesn't make a file the output
written_dashes : (bytes : Bytes) (r : Record) → has_dash (all_files (after_write bytes r)) ≡ has_dash (all_files r)
written_dashes bytes r = grind (arith, nat_tests, list_any-append)

-- ---- reading from a handle

module _ {H : Type 0} (reads : Reads H) where
  -- a handle that was just opened has given nothing
  given_none : (now : H) (name : Bytes) → HandleGave reads now now (record { name = name; bytes = []; ended = false })
  given_none now name = record { gave = Consumes-nil (reads.remaining now); ends = λ e. absurd (cc) }

  -- after one more read a handle has given these bytes, too
  given_more : (first old new : H) (x : Reading) (buf : Bytes) (n : ℕ) → HandleGave reads first old x
      → GivesBytes reads old new buf n → HandleGave reads first new
      (record x { bytes = x.bytes ++ take n buf; ended = x.ended || (n == 0 && not (length buf == 0)) })
  given_more first old new x buf n given gives = grind (arith, common_steps, nat_tests)

-- ---- what a call records

-- a call keeps `IsCall` by these three facts
pub is_call : {D S T : Type 0} {view : D → DeskState} {started_as : S → D → Type 0}
    {Counted : DeskState → DeskState → Result T DeskFault → Type 0} {old new : D} {r : Result T DeskFault}
    → Counted (view old) (view new) r → IfErr r (λ e. e ≡ Failed) → Preserves started_as old new
    → IsCall view started_as Counted old new r
is_call counts fault stays = record { counts = counts; fault = fault; stays = stays }

-- a write keeps `IsWrite` by these five facts
pub is_write : {D S : Type 0} {view : D → DeskState} {started_as : S → D → Type 0} {stream : Stream} {bytes : Bytes}
    {old new : D} {r : Result ℕ DeskFault} → IfOk r (λ n. n ≤ length bytes)
    → SendsTaken stream bytes (view old) (view new) r → WriteCounts stream bytes (view old) (view new) r
    → IfErr r (λ e. e ≡ Failed) → Preserves started_as old new → IsWrite view started_as stream bytes old new r
is_write bound kept counts fault stays = record { bound = bound; kept = kept; call = is_call counts fault stays }

-- ---- one call

module _ {S F I H O E : Type 0} (system : Ghosts S F I H) (reads : Reads F) (writes : Writes F) (input : Reads I)
    (output_of : Writes O) (messages_of : Writes E) where
  -- the states of a desk over this system and these writers
  abbrev Desk : Type 0
  Desk = Shown S F H I O E

  -- what the record gained between two states is true
  abbrev Since : Desk → Desk → Type 0
  Since = IsTrueSince system reads writes input output_of messages_of

  -- the open handle gave or took what the record says
  abbrev TrueOpen : OpenFile F I → Open → Type 0
  TrueOpen = IsTrueOpen system reads writes input

  -- a finished use is as the record says
  abbrev TrueUse : FileUse → Type 0
  TrueUse = IsTrueUse system reads writes input

  -- the record of files and standard input is true in this state of the system
  abbrev Files : S → OpenFile F I → Option H → Record → Type 0
  Files = IsTrueRecord system reads writes input

  -- the file that was open to write is closed
  abbrev Closed : OpenFile F I → Type 0
  Closed = IsClosed system.closed

  -- once the open file is closed, all uses are true, that file among them
  uses_true : (s : S) (opened : OpenFile F I) (hold : Option H) (r : Record) → Files s opened hold r → Closed opened
      → All TrueUse (all_uses r)
  uses_true s opened hold r are closed =
      All-append TrueUse r.uses (use_of r.current) are.uses (search (rules, nat_tests))

  -- one more use, after all others
  more_true : (s : S) (opened : OpenFile F I) (hold : Option H) (r : Record) (u : FileUse) → TrueUse u
      → Files s opened hold r → Closed opened → All TrueUse (all_uses r ++ u ∷ [])
  more_true s opened hold r u is are closed =
      All-append TrueUse (all_uses r) (u ∷ []) (uses_true s opened hold r are closed)
      (All-cons TrueUse u [] is (All-nil TrueUse))

  -- ---- what the system did

  -- the system has made these calls, and holds a file if a name is held
  abbrev Did : List FileCall → Option Bytes → S → Type 0
  Did calls held now = system.has_done (record { calls = calls; holds = option_len held }) now

  -- the same, by another list of the same calls
  did_as : {one other : List FileCall} (held : Option Bytes) (now : S) → one ≡ other → Did other held now
      → Did one held now
  did_as held now same has_done = subst (λ (calls : List FileCall). Did calls held now) (sym same) has_done

  -- the held file is released
  left_none : {old new : S} (hold : Option H) (held : Option Bytes) (calls : List FileCall)
      → IsHeldBy system hold held → ReleasesHeld system.has_done hold old new → Did calls held old → Did calls None new
  left_none hold held calls is leaves has_done = search rules

  -- the system holds as many files as the desk
  abbrev Holds : Option H → S → Type 0
  Holds hold now = Counts system.has_done (option_len hold) now

  -- the system holds as many files as the desk has locks
  counts : (s : S) (hold : Option H) (held : Option Bytes) (calls : List FileCall) → IsHeldBy system hold held
      → Did calls held s → Holds hold s
  counts s hold held calls is has_done = search rules

  -- ---- what a crash may leave

  -- in the second state a crash may leave nothing that it could not leave in the first
  abbrev NoMore : S → S → Type 0
  NoMore = CrashLeavesNoMore system.left

  -- two steps after which a crash may leave nothing more are one such step
  left_on : {s t u : S} → NoMore s t → NoMore t u → NoMore s u
  left_on keeps keeps_on = λ name found is. keeps name found (keeps_on name found is)

  -- if a crash may leave nothing more, the replacements tried still cover what it leaves
  crash_kept : {s t : S} (tried : List Writing) → NoMore s t → CrashLeaves system s tried → CrashLeaves system t tried
  crash_kept tried keeps leaves = λ name found is. leaves name found (keeps name found is)

  -- they also do once a file is held: a crash may then leave what was there
  crash_held : {s t : S} (tried : List Writing) {name : Bytes} → CrashMayAlsoLeave system.left name (system.began name)
      s t → CrashLeaves system s tried → CrashLeaves system t tried
  crash_held tried also leaves = search rules

  -- bytes were to replace the file of this name
  crash_tried : {s t : S} (tried : List Writing) {name own bytes : Bytes} → own ≡ name
      → CrashMayAlsoLeave system.left name (λ found. system.began name found ⊎ (found ≡ Some bytes)) s t
      → CrashLeaves system s tried → CrashLeaves system t (tried ++ record { name = own; bytes = bytes } ∷ [])
  crash_tried tried {own = own} {bytes = bytes} same also leaves = λ other found is.
      let push = Contains-push tried (record { name = own; bytes = bytes }) in
      search (rules, Contains-append_left)

  -- the state that a desk shows is the one inside
  pub from_inside : {inside now new : Desk} → inside ≡ now → Since inside new → Preserves Since now new
  from_inside {inside = inside} {new = new} is then = search (rules, append_assoc)

  -- after a call that sent nothing
  module _ (b : Desk) (failures unreported : ℕ) (error : Option ErrorKind) where
    -- the desk with another system, open file, lock and record, and these counts of failures
    abbrev Then : S → OpenFile F I → Option H → Record → Desk
    Then now o hold kept = record b {
      system = now;
      failures = failures;
      message_failures = unreported;
      last_error = error;
      opened = o;
      hold = hold;
      kept = kept;
    }

    -- the record of files was true before the call
    abbrev Before : Type 0
    Before = Files b.system b.opened b.hold b.kept

    -- it holds as many files as the desk, by any name of the lock
    holds : {held : Option H} → held ≡ b.hold → Before → Holds held b.system
    holds same are = rw same (counts b.system b.hold b.kept.held _ are.held are.has_done)

    -- A call that sends nothing keeps what is known of the writers. Its record is true if that of its files is.
    quiet : {s : S} {o : OpenFile F I} {h : Option H} {k : Record} → k.output ≡ b.kept.output
        → k.messages ≡ b.kept.messages → (has_dash (all_files k) ≡ false → has_dash (all_files b.kept) ≡ false)
        → (has_dash (all_files k) ≡ false → writes_to_output b ≡ false → is_output o ≡ false)
        → (Before → Files s o h k) → Since b (Then s o h k)
    quiet put emitted dashes elsewhere files = search (rules, append-nil b.kept.messages)

    -- the same files, the same one open
    same_files : {s : S} {h : Option H} {k : Record} → k.output ≡ b.kept.output → k.messages ≡ b.kept.messages
        → all_files k ≡ all_files b.kept → (Before → Files s b.opened h k) → Since b (Then s b.opened h k)
    same_files put emitted same = quiet put emitted (λ none. ap has_dash (sym same) ∙ none) (λ none was. was)

    -- a failure was counted
    pub counted_true : Since b (Then b.system b.opened b.hold b.kept)
    counted_true = same_files refl refl refl (λ are. are)

    -- a failed call did nothing
    pub failed_true : {s : S} (held : Option H) → held ≡ b.hold → Preserves system.has_done b.system s
        → (Holds held b.system → NoMore b.system s) → Since b (Then s b.opened b.hold b.kept)
    failed_true held is_hold stays keeps =
        same_files refl refl refl (λ are. let kept = keeps (holds is_hold are) in search rules)

    -- only the uses and the open file change
    files_now : {s t : S} {o p : OpenFile F I} {h : Option H} {r : Record} {uses : List FileUse} {current : Open}
        → Files s o h r → All TrueUse uses → TrueOpen p current
        → system.has_done (calls_of_record (record r { uses = uses; current = current })) t → NoMore s t
        → Files t p h (record r { uses = uses; current = current })
    files_now are uses current has_done keeps = search rules

    -- a file was opened
    opened_true : {s : S} {o : OpenFile F I} {k : Record} (x : Reading) → k ≡ with_open (ToRead x) b.kept
        → is_output o ≡ false → (Before → TrueOpen o (ToRead x)) → Closed b.opened
        → ChangesCalls system.has_done (with_calls (opened x.name ∷ [])) b.system s → NoMore b.system s
        → Since b (Then s o b.hold k)
    opened_true {s = s} x kept elsewhere is closed does keeps =
        rw kept (quiet refl refl
        (λ none. (no_dash_parts (all_files b.kept) [] (files_opened (ToRead x) b.kept) none).0) (λ none was. elsewhere)
        (λ are. files_now are (uses_true b.system b.opened b.hold b.kept are closed) (is are)
        (did_as b.kept.held s (calls_opened (ToRead x) (Opened (Found x)) b.kept refl) (does _ are.has_done))
        keeps))

    -- standard input was opened
    pub input_true : {s t : S} {o : OpenFile F I} {k : Record} {name own : Bytes} {i : I} → o ≡ open_file.Input i
        → own ≡ name → true ≡ is_dash name → k ≡ with_open (ToRead (record { name = own; bytes = []; ended = false }))
        b.kept → Closed b.opened → system.is_input i → ChangesCalls system.has_done (with_calls (Gives ∷ [])) b.system s
        → Preserves system.has_done s t → NoMore b.system s → NoMore s t → Since b (Then t o b.hold k)
    input_true {own = own} {i = i} is_open same dash kept closed begins does stays keeps keeps_on =
        let x : Reading = record { name = own; bytes = []; ended = false } in
        let is : is_dash own ≡ true = sym (dash ∙ ap is_dash (sym same)) in
        rw is_open (opened_true x kept refl (λ are. (x, refl, is, (i, begins, given_none input i own))) closed
        (λ done has_done. rw (opened_dash own is) (stays _ (does done has_done))) (left_on keeps keeps_on))

    -- a file was opened by its name
    pub file_true : {s t : S} {o : OpenFile F I} {k : Record} {name own : Bytes} {h : F} (held : Option H)
        → held ≡ b.hold → o ≡ open_file.ToRead h → own ≡ name → false ≡ is_dash name
        → (Holds held b.system → system.is_of h name)
        → k ≡ with_open (ToRead (record { name = own; bytes = []; ended = false })) b.kept
        → Closed b.opened → ChangesCalls system.has_done (with_calls (Opens name ∷ [])) b.system s
        → Preserves system.has_done s t → NoMore b.system s → NoMore s t → Since b (Then t o b.hold k)
    file_true {own = own} {h = h} held is_hold is_open same no_dash named kept closed does stays keeps keeps_on =
        let x : Reading = record { name = own; bytes = []; ended = false } in
        rw is_open (opened_true x kept refl
        (λ are. (x, refl, (h, subst (system.is_of h) (sym same) (named (holds is_hold are)), given_none reads h own)))
        closed (λ done has_done. rw (opened_named own (sym (no_dash ∙ ap is_dash (sym same))), same)
        (stays _ (does done has_done))) (left_on keeps keeps_on))

    -- there was no such file
    pub absent_true : {s t : S} {o : OpenFile F I} {k : Record} {name own : Bytes} (held : Option H) → held ≡ b.hold
        → o ≡ open_file.Nothing → own ≡ name → (Holds held b.system → system.lacks name)
        → k ≡ with_absent own b.kept → Closed b.opened → Preserves system.has_done b.system s
        → Preserves system.has_done s t → NoMore b.system s → NoMore s t → Since b (Then t o b.hold k)
    absent_true {t = t} {own = own} held is_hold is_open same lacks kept closed fails stays keeps keeps_on =
        rw (is_open, kept) (quiet refl refl (λ none. sym (ap has_dash (files_absent own b.kept)) ∙ none)
        (λ none was. refl) (λ are. files_now are (more_true b.system b.opened b.hold b.kept (Opened (Absent own))
        (subst system.lacks (sym same) (lacks (holds is_hold are))) are closed) refl
        (did_as b.kept.held t (search (rules, append-nil, flat_map-append)) (stays _ (fails _ are.has_done)))
        (left_on keeps keeps_on)))

    -- a file was created
    create_true : {s : S} {o : OpenFile F I} {k : Record} (x : Writing) → k ≡ with_open (ToWrite x) b.kept
        → is_output o ≡ is_dash x.name → TrueOpen o (ToWrite x) → Closed b.opened
        → ChangesCalls system.has_done (with_calls (made x.name)) b.system s → (Before → NoMore b.system s)
        → Since b (Then s o b.hold k)
    create_true {s = s} x kept to_output is closed does keeps =
        let parts = no_dash_parts (all_files b.kept) (x ∷ []) (files_opened (ToWrite x) b.kept) in
        rw kept (quiet refl refl (λ none. (parts none).0)
        (λ none was. to_output ∙ (or_parts (is_dash x.name) false (parts none).1).0)
        (λ are. files_now are (uses_true b.system b.opened b.hold b.kept are closed) is
        (did_as b.kept.held s (calls_opened (ToWrite x) (Created x) b.kept refl) (does _ are.has_done)) (keeps are)))

    -- `-` was created, so the output is the open file
    pub output_true : {s : S} {o : OpenFile F I} {k : Record} {name own : Bytes} → o ≡ open_file.Output → own ≡ name
        → true ≡ is_dash name → k ≡ with_open (ToWrite (record { name = own; bytes = [] })) b.kept → Closed b.opened
        → Preserves system.has_done b.system s → NoMore b.system s → Since b (Then s o b.hold k)
    output_true {own = own} is_open same dash kept closed stays keeps =
        let is : true ≡ is_dash own = dash ∙ ap is_dash (sym same) in
        let x : Writing = record { name = own; bytes = [] } in
        rw is_open (create_true x kept is (x, refl, sym is) closed
        (λ done has_done. rw (made_dash own (sym is), append-nil done.calls) (stays _ has_done)) (λ are. keeps))

    -- a file was created by its name
    pub created_true : {s t : S} {o : OpenFile F I} {k : Record} {name own : Bytes} {h : F} → o ≡ open_file.ToWrite h
        → own ≡ name → false ≡ is_dash name → system.is_of h name
        → k ≡ with_open (ToWrite (record { name = own; bytes = [] })) b.kept → Closed b.opened
        → ChangesCalls system.has_done (with_calls (made name)) b.system s → Preserves system.has_done s t
        → (held : Option H) → held ≡ b.hold → (Holds held b.system → NoMore b.system s)
        → NoMore s t → Since b (Then t o b.hold k)
    created_true {own = own} {h = h} is_open same no_dash named kept closed does stays held is_hold keeps keeps_on =
        let x : Writing = record { name = own; bytes = [] } in
        rw is_open (create_true x kept (no_dash ∙ ap is_dash (sym same))
        (x, refl, (h, subst (system.is_of h) (sym same) named, Appends-nil (writes.contents h))) closed
        (λ done has_done. rw same (stays _ (does done has_done)))
        (λ are. left_on (keeps (holds is_hold are)) keeps_on))

    -- a file was replaced, and the held file released
    pub replace_true : {s t u : S} {o : OpenFile F I} {g : Option H} {k : Record} {name own bytes : Bytes}
        (h : Option H) → own ≡ name → g ≡ None → o ≡ open_file.Nothing → k ≡ with_replaced own bytes b.kept
        → system.replaced name bytes
        → ((name : Option Bytes) → IsHeldBy system b.hold name → IsHeldBy system h name) → Closed b.opened
        → ChangesCalls system.has_done (with_calls (made name)) b.system s → ReleasesHeld system.has_done h s t
        → Preserves system.has_done t u
        → CrashMayAlsoLeave system.left name (λ found. system.began name found ⊎ (found ≡ Some bytes)) b.system s
        → NoMore s t → NoMore t u → Since b (Then u o g k)
    replace_true {u = u} {own = own} {bytes = bytes} h same none is_open kept replaced still closed does leaves stays
        also keeps keeps_on =
        let x : Writing = record { name = own; bytes = bytes } in
        rw (none, is_open, kept) (quiet refl refl
        (λ no. (no_dash_parts (all_files b.kept) (x ∷ []) (files_replaced own bytes b.kept) no).0) (λ no was. refl)
        (λ are. record {
          uses = more_true b.system b.opened b.hold b.kept (Created x)
              (inr (inr (subst (λ (n : Bytes). system.replaced n bytes) (sym same) replaced))) are closed;
          current = refl;
          denied = are.denied;
          held = tt;
          has_done = did_as None u (calls_replaced own bytes b.kept)
              (stays _ (left_none h b.kept.held _ (still b.kept.held are.held) leaves (rw same (does _ are.has_done))));
          crash = crash_kept _ keeps_on (crash_kept _ keeps (crash_tried _ same also are.crash));
        }))

    -- replacing a file failed
    pub unreplaced_true : {s : S} {h : Option H} {k : Record} {name own bytes : Bytes} → own ≡ name
        → k ≡ with_tried own bytes b.kept
        → ((name : Option Bytes) → IsHeldBy system b.hold name → IsHeldBy system h name)
        → Preserves system.has_done b.system s → CrashMayAlsoLeave system.left name (λ found. system.began name found
        ⊎ (found ≡ Some bytes)) b.system s → Since b (Then s b.opened h k)
    unreplaced_true same kept still stays also =
        rw kept (same_files refl refl refl (λ are. let crash = crash_tried _ same also are.crash in search rules))

    -- a file is held, and the one held before is released
    pub held_true : {s t : S} {h : H} {k : Record} {name own : Bytes} → own ≡ name
        → k ≡ record b.kept { held = Some own } → system.holds h name
        → ChangesCalls system.has_done with_one_more_held b.system s → ReleasesHeld system.has_done b.hold s t
        → CrashMayAlsoLeave system.left name (system.began name) b.system s → NoMore s t
        → Since b (Then t b.opened (Some h) k)
    held_true {h = h} {own = own} same kept holds does leaves also keeps =
        rw kept (same_files refl refl refl (λ are.
        let held = subst (system.holds h) (sym same) holds in
        let had = does _ are.has_done in
        let crash = crash_kept _ keeps (crash_held _ also are.crash) in search rules))

    -- another process held the file
    pub denied_true : {s : S} {k : Record} {name own : Bytes} → own ≡ name
        → system.denies name → k ≡ record b.kept { denied = b.kept.denied ++ own ∷ [] }
        → Preserves system.has_done b.system s → CrashMayAlsoLeave system.left name (system.began name) b.system s
        → Since b (Then s b.opened b.hold k)
    denied_true {own = own} same denies kept stays also =
        rw kept (same_files refl refl refl (grind (arith, common_steps)))

    -- the file was not held
    pub unheld_true : {s : S} {name : Bytes} → Preserves system.has_done b.system s
        → CrashMayAlsoLeave system.left name (system.began name) b.system s → Since b (Then s b.opened b.hold b.kept)
    unheld_true stays also = same_files refl refl refl (λ are. let crash = crash_held _ also are.crash in search rules)

    -- the held file was released, if there was one
    pub released_true : {t : S} {h : Option H} {k : Record} → h ≡ None → k ≡ with_none_held b.kept
        → ReleasesHeld system.has_done b.hold b.system t → NoMore b.system t → Since b (Then t b.opened h k)
    released_true none kept leaves keeps = rw (none, kept) (same_files refl refl refl (λ are.
        let has_done = left_none b.hold b.kept.held _ are.held leaves are.has_done in search rules))

    -- what a read does to the open file, and to the calls of the record
    read_open : (old new : OpenFile F I) (current : Open) (buf : Bytes) (n : ℕ)
        → OpenFileGives reads input old new buf n → TrueOpen old current → TrueOpen new (noted (take n buf) (n == 0 && not (length buf == 0)) current)
    read_open old new current buf n gives is = search (rules, given_more)

    -- the open file gave these bytes
    pub read_true : {o : OpenFile F I} {k : Record} (buf : Bytes) (n : ℕ) → k ≡ after_read buf (Ok n) b.kept
        → is_output o ≡ is_output b.opened → OpenFileGives reads input b.opened o buf n
        → Since b (Then b.system o b.hold k)
    read_true {o = o} buf n kept same gives = rw kept (quiet refl refl (search rules) (λ none was. same ∙ was) (λ are.
        let current = read_open b.opened o b.kept.current buf n gives are.current in
        files_now are are.uses current (did_as b.kept.held b.system (search (rules, flat_map-append)) are.has_done)
        (λ name found is. is)))

    -- the open file gave or took nothing
    unchanged_true : {o : OpenFile F I} → is_output o ≡ is_output b.opened → (Before → TrueOpen o b.kept.current)
        → Since b (Then b.system o b.hold b.kept)
    unchanged_true same current = quiet refl refl (λ none. none) (λ none was. same ∙ was)
        (λ are. files_now are are.uses (current are) are.has_done (λ name found is. is))

    -- a read of the open file failed
    pub unread_true : {o : OpenFile F I} → is_output o ≡ is_output b.opened
        → OpenFileGivesNothing reads input b.opened o → Since b (Then b.system o b.hold b.kept)
    unread_true same none = unchanged_true same (λ are. search (rules, nat_tests))

    -- the open file took these bytes
    pub write_true : {k : Record} {old new : F} (bytes : Bytes) → b.opened ≡ open_file.ToWrite old
        → Appends (writes.contents old) (writes.contents new) bytes → k ≡ after_write bytes b.kept
        → Since b (Then b.system (open_file.ToWrite new) b.hold k)
    write_true {old = old} {new = new} bytes was took kept =
        rw kept (quiet refl refl
        (λ none. sym (written_dashes bytes b.kept) ∙ none) (λ none elsewhere. refl)
        (grind (arith, common_steps)))

    -- a write to the open file failed
    pub unwritten_true : {old new : F} → b.opened ≡ open_file.ToWrite old
        → Keeps (writes.contents old) (writes.contents new)
        → Since b (Then b.system (open_file.ToWrite new) b.hold b.kept)
    unwritten_true was keeps = unchanged_true (ap is_output (sym was))
        (λ are. let current = rw was at are.current in search rules)

    -- the desk after a call that sent to the output, or to the messages
    abbrev Put : O → Record → Desk
    Put output kept = record b
        { output = output; failures = failures; message_failures = unreported; last_error = error; kept = kept }

    abbrev Reported : E → Record → Desk
    Reported messages kept = record b
        { messages = messages; failures = failures; message_failures = unreported; last_error = error; kept = kept }

    -- the output took these bytes as those of the file `-`
    pub write_out_true : {w : O} {k : Record} (bytes : Bytes) → b.opened ≡ open_file.Output
        → k ≡ after_write bytes b.kept → Since b (Put w k)
    write_out_true bytes was kept = rw kept (record {
      message_bytes = [];
      messages = sym (append-nil b.kept.messages);
      messages_taken = Appends-nil (messages_of.contents b.messages);
      output_bytes = [];
      output = sym (append-nil b.kept.output);
      dashes = λ none. sym (written_dashes bytes b.kept) ∙ none;
      out = λ none elsewhere. absurd (search rules);
      files = search (rules, flat_map-append);
    })

    -- the output took these bytes
    pub out_true : {w : O} {k : Record} (bytes : Bytes) → k ≡ record b.kept { output = b.kept.output ++ bytes }
        → Appends (output_of.contents b.output) (output_of.contents w) bytes → Since b (Put w k)
    out_true bytes kept took = search (rules, append-nil b.kept.messages)

    -- the messages took these bytes
    pub err_true : {w : E} {k : Record} (bytes : Bytes) → k ≡ record b.kept { messages = b.kept.messages ++ bytes }
        → Appends (messages_of.contents b.messages) (messages_of.contents w) bytes → Since b (Reported w k)
    err_true bytes kept took = grind (arith, nat_tests, append-nil)

  -- nothing was done
  pub true_now : (a : Desk) → Since a a
  true_now a = counted_true a _ _ _

-- ---- a new desk

module _ {S F I H : Type 0} (system : Ghosts S F I H) (reads : Reads F) (writes : Writes F) (input : Reads I) where
  -- an empty record is true of a system that has done nothing
  pub none_kept_true : (fresh : S) → system.has_done no_calls fresh
      → ((name : Bytes) (found : Option Bytes) → system.left fresh name found → ⊥)
      → IsTrueRecord system reads writes input fresh open_file.Nothing None nothing_kept
  none_kept_true fresh has_done unheld = search rules

-- the record of a desk that was new
module _ {S F I H O E : Type 0} (system : Ghosts S F I H) (reads : Reads F) (writes : Writes F) (input : Reads I)
    (output_of : Writes O) (messages_of : Writes E) where
  -- if the desk was new, its record is true and has all that the system did
  pub reported_all : {old new : Shown S F H I O E}
      → Preserves (IsTrueSince system reads writes input output_of messages_of) old new
      → RecordsAll system reads writes input old new
  reported_all {old = old} stays is =
      (stays old (true_now system reads writes input output_of messages_of old)).files
      (rw (is.opened, is.hold, is.kept) (none_kept_true system reads writes input old.system is.fresh is.unheld))
