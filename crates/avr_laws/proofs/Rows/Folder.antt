-- The laws of a crash aren't about nothing: a model of a folder meets each clause of avr_desk's `Folder`, and a crash
-- can leave several things in it. It has definitions and lemmas, and no code. `tools/reach.py --check` compares its
-- clauses with those of the trait.
--
-- In two things the model is as bad as the clauses allow. What a new file has that isn't synced is lost when the file
-- gets its name, and the sync of a folder says nothing of the disk. In others it is better than a real system: each
-- call is one step, also writing over a file. A crash leaves of the held file what it has on the disk, or what it has
-- now.
use Rattle.std.proofs.Common.{◌≡◌, ◌∙◌, ap, sym, subst, refl, arith, rules, inl, inr, ◌+◌, Bool, true, false, List, [], ◌∷◌, ◌++◌, Option, Some, None, Result, Ok, Err}
use Rattle.std.specs.Prelude.{◌⊎◌, codes, IfErr, IfOk, MatchOption, MatchResult, OnOk, if◌then◌else◌}
use Rattle.std.specs.Option.{option_len}
use Rattle.std.proofs.lemmas.Bool.{cases_Bool}
use Rattle.std.proofs.lemmas.Slice.Eq.{bytes_eq-Decides}
use Rattle.std.specs.IoError.{error_kind}
use Rattle.std.specs.Str.{bytes_eq}
use Rattle.std.specs.declared.io.Read.{Ghosts as Reads}
use Rattle.std.specs.declared.io.Write.{Ghosts as Writes}
use Rattle.std.proofs.lemmas.List.Elements.{All-cons, All-nil}
use Rattle.avr_desk.specs.Handles.{CrashLeaves, IsTrueRecord, IsTrueUse}
use Rattle.avr_desk.specs.declared.file_system.FileSystem.{Ghosts as Systems}
use Rattle.avr_io.specs.declared.record.FileUse.TheVariants.{Created}
use Rattle.avr_io.specs.declared.record.Writing.{Writing}
use Rattle.avr_desk.specs.declared.system.OpenFile.TheVariants.{Nothing}
use Rattle.std.specs.declared.io.Error.{Error}
use Rattle.std.specs.declared.io.ErrorKind.TheVariants as ErrorKind
use Rattle.avr_desk.specs.Journal.{FileCall, SystemCalls, Gives, Opens, AddsCalls, ChangesCalls, Counts, CrashLeavesNoMore, CrashMayAlsoLeave, IsUncounted, TakesHold, made, with_calls, with_one_more_held}
use Rattle.avr_io.specs.Record.{Bytes, Record, nothing_kept}
use Rattle.avr_desk.specs.declared.folder.Folder.{Ghosts}
use Rattle.ghosts.specs.Preserves.{Preserves}
use Rattle.avr_laws.proofs.Memories.Bytes.{bytes_same}

-- what each name has
abbrev Names : Type 0
Names = Bytes → Option Bytes

abbrev put : Bytes → Bytes → Names → Names
put name bytes names other = if bytes_eq other name then Some bytes else names other

record Moment : Type 0 where
  pub now : Names
  pub disk : Names
  -- the name of the held file, and what it had when it was locked
  pub held : Option (Bytes × Option Bytes)

record System : Type 0 where
  pub at : Moment
  pub past : List Moment
  pub calls : List FileCall

-- a file beside the place of this name: its bytes, and those of them that are on the disk
record NewFile : Type 0 where
  pub place : Bytes
  pub bytes : Bytes
  pub synced : Bytes

record Over (T : Type 0) : Type 0 where
  pub old : T
  pub new : T

record At (T : Type 0) : Type 0 where
  pub now : T

abbrev from_to : {T : Type 0} → T → T → Over T
from_to old new = record { old = old; new = new }

abbrev is_now : {T : Type 0} → T → At T
is_now it = record { now = it }

-- ---- what the calls do

abbrev after : Moment → List FileCall → System → System
after m calls s = record { at = m; past = s.at ∷ s.past; calls = calls }

-- a call that changes no file
abbrev called : List FileCall → System → System
called calls s = after s.at (s.calls ++ calls) s

abbrev created : Bytes → System → System
created name s = after (record s.at { now = put name [] s.at.now }) (s.calls ++ made name) s

-- what was there before is on the disk by then
abbrev locked : Bytes → System → System
locked name s = after (record { now = s.at.now; disk = s.at.now; held = Some (name, s.at.now name) }) s.calls s

-- the new file has its place
abbrev placed : NewFile → System → System
placed file s = after (record s.at { now = put file.place file.synced s.at.now }) s.calls s

-- everything is on the disk now
abbrev synced : Bytes → System → System
synced name s = after (record s.at { disk = s.at.now }) (s.calls ++ made name) s

abbrev written_over : Bytes → Bytes → System → System
written_over name bytes s =
    after (record s.at { now = put name bytes s.at.now; disk = put name bytes s.at.disk }) (s.calls ++ made name) s

abbrev unlocked : System → System
unlocked s = after (record s.at { held = None }) s.calls s

-- ---- lemmas

-- what a name has after another was put
put_at : (name bytes other : Bytes) (names : Names) (found : Option Bytes) → put name bytes names other ≡ found
    → (names other ≡ found) ⊎ ((other ≡ name) × (found ≡ Some bytes))
put_at name bytes other names found is = elim (cases_Bool (bytes_eq other name)) [
  | inl same ↦ search (rules, bytes_eq-Decides, is, same)
  | inr not ↦ search (rules, is, not)
]

-- what was put is there
put_there : (name bytes : Bytes) (names : Names) → put name bytes names name ≡ Some bytes
put_there name bytes names = search (rules, bytes_same name)

-- the name of the held file
abbrev name_in : Option (Bytes × Option Bytes) → Bytes
name_in None = []
name_in (Some held) = held.0

-- what it had when it was locked
abbrev was_in : Option (Bytes × Option Bytes) → Option Bytes
was_in None = None
was_in (Some held) = held.1

-- A run in this model: its moments, the places where another file is mounted, the files that others hold, and the
-- errors of calls that were to hold a file.
record Run : Type 1 where
  pub happened : Moment → Type 0
  pub mounted : Bytes → Type 0
  pub denied : Bytes → Type 0
  pub failed : Bytes → Error → Type 0

module _ (run : Run) where
  -- ---- what a crash leaves

  -- another file is mounted there
  abbrev is_mounted : Bytes → Type 0
  is_mounted name = run.mounted name

  -- at this moment a crash may leave this of the held file
  abbrev MayLeave : Bytes → Option Bytes → Moment → Type 0
  MayLeave name found m = ((was : Option Bytes) × (m.held ≡ Some (name, was))) × (is_mounted name → ⊥)
      × ((m.disk name ≡ found) ⊎ (m.now name ≡ found))

  -- at one of these moments
  abbrev left_at : List Moment → Bytes → Option Bytes → Type 0
  left_at [] name found = ⊥
  left_at (m ∷ ms) name found = MayLeave name found m ⊎ left_at ms name found

  -- ---- the members of the trait

  -- the calls that were made, and how many files are held
  abbrev has_done : SystemCalls → System → Type 0
  has_done done s = done ≡ record { calls = s.calls; holds = option_len s.at.held }

  -- what a crash may leave, now or before
  abbrev left : System → Bytes → Option Bytes → Type 0
  left s name found = left_at (s.at ∷ s.past) name found

  -- a file that was held began with this
  abbrev began : Bytes → Option Bytes → Type 0
  began name found = (m : Moment) × run.happened m × (m.held ≡ Some (name, found))

  -- this was on the disk at some moment
  abbrev lasts : Bytes → Bytes → Type 0
  lasts name bytes = (m : Moment) × run.happened m × (m.disk name ≡ Some bytes)

  -- a name has these bytes
  abbrev finds : System → Bytes → Bytes → Type 0
  finds s name bytes = s.at.now name ≡ Some bytes

  -- (the sync of a folder says nothing here, as on xfs after an error of the disk)
  abbrev finds_synced : System → Bytes → Bytes → Type 0
  finds_synced s name bytes = finds s name bytes

  -- what the name has is on the disk
  abbrev is_spare : System → Bytes → Type 0
  is_spare s name = s.at.disk name ≡ s.at.now name

  abbrev saw : Bytes → Option Bytes → Type 0
  saw held seen = began held seen

  abbrev finds_seen_and_new : System → Option Bytes → NewFile → Type 0
  finds_seen_and_new s seen file = (s.at.held ≡ Some (file.place, seen)) × (s.at.now file.place ≡ seen)

  -- the name isn't that of the held file
  abbrev is_free : System → Bytes → Type 0
  is_free s name = (was : Option Bytes) → s.at.held ≡ Some (name, was) → ⊥

  abbrev leads_to_no_held_file : System → Bytes → Type 0
  leads_to_no_held_file s name = is_free s name

  abbrev name_of : Bytes → Bytes
  name_of place = place

  abbrev held_name : Bytes → Bytes
  held_name held = held

  abbrev denies : Bytes → Type 0
  denies name = run.denied name

  abbrev fails : Bytes → Error → Type 0
  fails name error = run.failed name error

  abbrev has : NewFile → Bytes → Type 0
  has file bytes = file.bytes ≡ bytes

  abbrev keeps : NewFile → Bytes → Type 0
  keeps file bytes = (file.bytes ≡ bytes) × (file.synced ≡ bytes)

  abbrev is_input : Unit {0} → Type 0
  is_input input = Unit {0}

  abbrev is_of : Bytes → Bytes → Type 0
  is_of file name = file ≡ name

  abbrev closed : Bytes → Type 0
  closed file = Unit {0}

  abbrev lacks : Bytes → Type 0
  lacks name = (m : Moment) × run.happened m × (m.now name ≡ None)
      × ((was : Option Bytes) → m.held ≡ Some (name, was) → was ≡ None)

  abbrev folder : Ghosts System Bytes (Unit {0}) Bytes (Unit {0}) (Unit {0}) (Unit {0}) Bytes Bytes NewFile NewFile
  folder = record {
    has_done = has_done;
    left = left;
    began = began;
    lasts = lasts;
    finds = finds;
    finds_synced = finds_synced;
    is_spare = is_spare;
    saw = saw;
    finds_seen_and_new = finds_seen_and_new;
    leads_to_no_held_file = leads_to_no_held_file;
    is_free = is_free;
    name_of = name_of;
    held_name = held_name;
    is_mounted = is_mounted;
    denies = denies;
    fails = fails;
    has = has;
    keeps = keeps;
    is_input = is_input;
    is_of = is_of;
    closed = closed;
    lacks = lacks;
  }

  -- ---- the clauses of each call, as in the trait

  record InputClauses (self : Over System) (result : Unit {0}) : Type 0 where
    begins : is_input result
    keeps : CrashLeavesNoMore left self.old self.new
    gives : ChangesCalls has_done (with_calls (Gives ∷ [])) self.old self.new

  record OpenClauses (self : Over System) (name : At Bytes) (result : Result Bytes Error) : Type 0 where
    named : Counts has_done 0 self.old ⊎ is_free self.old name.now → MatchResult result (λ file. is_of file name.now)
        (λ error. error_kind error ≡ ErrorKind.NotFound → lacks name.now)
    opens : AddsCalls has_done (Opens name.now ∷ []) self.old self.new result
    keeps : CrashLeavesNoMore left self.old self.new

  record CreateClauses (self : Over System) (name : At Bytes) (result : Result Bytes Error) : Type 0 where
    named : IfOk result (λ file. is_of file name.now)
    creates : AddsCalls has_done (made name.now) self.old self.new result
    alone : Counts has_done 0 self.old → CrashLeavesNoMore left self.old self.new
    keeps : leads_to_no_held_file self.old name.now → CrashLeavesNoMore left self.old self.new

  record CloseClauses (self : Over System) (file : Bytes) : Type 0 where
    closes : closed file
    stays : IsUncounted has_done left self.old self.new

  record FindClauses (self : Over System) (name : At Bytes) (result : Result Bytes Error) : Type 0 where
    named : MatchResult result (λ place. name_of place ≡ name.now) (fails name.now)
    stays : IsUncounted has_done left self.old self.new

  record OpenParentClauses (self : Over System) (place : At Bytes) (result : Result (Unit {0}) Error) : Type 0 where
    fails : IfErr result (fails (name_of place.now))
    stays : IsUncounted has_done left self.old self.new

  record OpenLockClauses (self : Over System) (place : At Bytes) (result : Result (Option (Unit {0})) Error)
      : Type 0 where
    denied : MatchResult result
        (λ file. MatchOption file (denies (name_of place.now)) (λ file. Unit {0})) (fails (name_of place.now))
    stays : IsUncounted has_done left self.old self.new

  record LockClauses (self : Over System) (place : At Bytes) (result : Result (Option (Unit {0})) Error) : Type 0 where
    denied : MatchResult result
        (λ lock. MatchOption lock (denies (name_of place.now)) (λ lock. Unit {0})) (fails (name_of place.now))
    stays : IsUncounted has_done left self.old self.new

  record ConfirmClauses (self : Over System) (place : Bytes) (result : Result (Option Bytes) Error) : Type 0 where
    holds : TakesHold has_done (λ held. held_name held ≡ name_of place) (denies (name_of place))
        (fails (name_of place)) self.old self.new result
    leaves : CrashMayAlsoLeave left (name_of place) (began (name_of place)) self.old self.new

  record IsNamedClauses (self : At System) (held name : At Bytes) (result : Bool) : Type 0 where
    same : result ≡ true → held_name held.now ≡ name.now
    only : held_name held.now ≡ name.now → result ≡ true
    other : result ≡ false → Counts has_done 1 self.now → is_free self.now name.now

  record SeeClauses (self : Over System) (held : At Bytes) (result : Result (Option Bytes) Error) : Type 0 where
    saw : MatchResult result (λ seen. ∥ saw held.now seen ∥₁) (fails (held_name held.now))
    stays : IsUncounted has_done left self.old self.new

  record OpenSeenClauses (self : Over System) (held : At Bytes) (result : Result Bytes Error) : Type 0 where
    named : MatchResult result (λ file. is_of file (held_name held.now))
        (λ error. error_kind error ≡ ErrorKind.NotFound → lacks (held_name held.now))
    opens : AddsCalls has_done (Opens (held_name held.now) ∷ []) self.old self.new result
    keeps : CrashLeavesNoMore left self.old self.new

  record CheckNotHeldClauses (self : Over System) (name : At Bytes) (result : Result (Unit {0}) Error) : Type 0 where
    apart : OnOk result (Counts has_done 1 self.new → leads_to_no_held_file self.new name.now)
    stays : IsUncounted has_done left self.old self.new

  record MakeClauses (self : Over System) (result : Result NewFile Error) : Type 0 where
    empty : IfOk result (λ file. has file [])
    stays : IsUncounted has_done left self.old self.new

  record WriteClauses (self : Over System) (file : Over NewFile) (bytes : At Bytes) (result : Result (Unit {0}) Error)
      : Type 0 where
    written : OnOk result ((before : Bytes) → has file.old before → has file.new (before ++ bytes.now))
    stays : IsUncounted has_done left self.old self.new

  record SyncClauses (self : Over System) (file : Over NewFile) (result : Result (Unit {0}) Error) : Type 0 where
    synced : OnOk result ((bytes : Bytes) → has file.old bytes → keeps file.new bytes)
    stays : IsUncounted has_done left self.old self.new

  record CheckUnchangedClauses (self : Over System) (seen : At (Option Bytes)) (file : At NewFile)
      (result : Result (Unit {0}) Error) : Type 0 where
    found : OnOk result (finds_seen_and_new self.new seen.now file.now)
    stays : IsUncounted has_done left self.old self.new

  record DiscardClauses (self : Over System) : Type 0 where
    stays : IsUncounted has_done left self.old self.new

  record PlaceNewClauses (self : Over System) (held : At Bytes) (file : NewFile) (result : Result NewFile Error)
      : Type 0 where
    only : IfOk result (λ placed. lacks (held_name held.now))
    whole : (bytes : Bytes) → keeps file bytes
        → CrashMayAlsoLeave left (held_name held.now) (λ found. found ≡ Some bytes) self.old self.new
    placed : IfOk result (λ placed. (bytes : Bytes) → keeps file bytes → finds self.new (held_name held.now) bytes)
    stays : Preserves has_done self.old self.new

  record RenameClauses (self : Over System) (held : At Bytes) (file : NewFile) (result : Result NewFile Error)
      : Type 0 where
    whole : (bytes : Bytes) → keeps file bytes
        → CrashMayAlsoLeave left (held_name held.now) (λ found. found ≡ Some bytes) self.old self.new
    placed : IfOk result (λ placed. (bytes : Bytes) → keeps file bytes → finds self.new (held_name held.now) bytes)
    busy : IfErr result (λ e. error_kind e ≡ ErrorKind.ResourceBusy → is_mounted (held_name held.now))
    stays : Preserves has_done self.old self.new

  record SyncNameClauses (self : Over System) (held : At Bytes) (result : Result (Unit {0}) Error) : Type 0 where
    synced : OnOk result ((bytes : Bytes) → finds self.old (held_name held.now) bytes
        → finds_synced self.new (held_name held.now) bytes)
    stays : IsUncounted has_done left self.old self.new

  record SyncPlacedClauses (self : Over System) (held : At Bytes) (result : Result (Unit {0}) Error) : Type 0 where
    lasts : MatchResult result (λ done. (bytes : Bytes) → finds_synced self.old (held_name held.now) bytes
        → lasts (held_name held.now) bytes
        × ChangesCalls has_done (with_calls (made (held_name held.now))) self.old self.new)
        (λ error. Preserves has_done self.old self.new)
    spare : OnOk result (is_spare self.new (held_name held.now))
    keeps : CrashLeavesNoMore left self.old self.new

  record WriteOverClauses (self : Over System) (held bytes : At Bytes) (result : Result (Unit {0}) Error) : Type 0 where
    lasts : OnOk result (lasts (held_name held.now) bytes.now)
    writes : AddsCalls has_done (made (held_name held.now)) self.old self.new result
    spare : OnOk result (is_spare self.new (held_name held.now))
    keeps : CrashLeavesNoMore left self.old self.new

  record RemoveNewClauses (self : Over System) : Type 0 where
    stays : IsUncounted has_done left self.old self.new

  record UnlockClauses (self : Over System) : Type 0 where
    leaves : (done : SystemCalls) → has_done (with_one_more_held done) self.old → has_done done self.new
    keeps : CrashLeavesNoMore left self.old self.new

  -- ---- lemmas

  -- a call that changes nothing
  uncounted : (s : System) → IsUncounted has_done left s s
  uncounted s = record { done = λ done is. is; kept = λ name found may. may }

  -- a call that changes no file
  repeated : (s : System) (calls : List FileCall) → CrashLeavesNoMore left s (called calls s)
  repeated s calls name found e = search rules

  -- if no file is held, each name is free
  none_held : (s : System) (name : Bytes) → Counts has_done 0 s → is_free s name
  none_held s name (done, is, none) was held = search rules

  -- a name is free if no file is held, or else by itself
  free : (s : System) (name : Bytes) → Counts has_done 0 s ⊎ is_free s name → is_free s name
  free s name e = search (rules, none_held)

  -- another name than the held one's
  unheld : (s : System) (held name : Bytes) (was : Option Bytes) → s.at.held ≡ Some (held, was)
      → bytes_eq held name ≡ false → is_free s name
  unheld s held name was is not other there = search (rules, bytes_same)

  -- a crash may leave what was put under a name
  put_leaves : (s : System) (name bytes : Bytes) (calls : List FileCall)
      → CrashMayAlsoLeave left name (λ found. found ≡ Some bytes) s
      (after (record s.at { now = put name bytes s.at.now }) calls s)
  put_leaves s name bytes calls other found e = search (rules, put_at)

  -- making a file that isn't held
  create_leaves : (s : System) (name : Bytes) → is_free s name → CrashLeavesNoMore left s (created name s)
  create_leaves s name e other found is = search (rules, put_at, unheld)

  -- locking a file
  locking_leaves : (s : System) (name : Bytes) → run.happened (locked name s).at
      → CrashMayAlsoLeave left name (began name) s (locked name s)
  locking_leaves s name was other found e = search rules

  -- a new file that gets its place
  placed_whole : (s : System) (file : NewFile) (bytes : Bytes) → keeps file bytes
      → CrashMayAlsoLeave left file.place (λ found. found ≡ Some bytes) s (placed file s)
  placed_whole s file bytes kept = search (rules, put_leaves)

  -- it is there then
  placed_there : (s : System) (file : NewFile) (bytes : Bytes) → keeps file bytes
      → finds (placed file s) file.place bytes
  placed_there s file bytes kept = put_there file.place file.synced s.at.now ∙ ap Some kept.1

  -- a sync of everything
  sync_leaves : (s : System) (name : Bytes) → CrashLeavesNoMore left s (synced name s)
  sync_leaves s name other found e = search rules

  -- writing over a mounted file
  over_leaves : (s : System) (name bytes : Bytes) → is_mounted name
      → CrashLeavesNoMore left s (written_over name bytes s)
  over_leaves s name bytes mounted other found e = search (rules, put_at)

  -- unlocking
  unlock_leaves : (s : System) → CrashLeavesNoMore left s (unlocked s)
  unlock_leaves s other found e = search rules

  -- ---- each call meets its clauses. After an error the system is as it was.

  input_met : (s : System) → InputClauses (from_to s (called (Gives ∷ []) s)) tt
  input_met s = record {
    begins = tt;
    keeps = repeated s (Gives ∷ []);
    gives = λ done is. ap (with_calls (Gives ∷ [])) is;
  }

  open_met : (s : System) (name : Bytes) → OpenClauses (from_to s (called (Opens name ∷ []) s)) (is_now name) (Ok name)
  open_met s name = record {
    named = λ unheld. refl;
    opens = λ done is. ap (with_calls (Opens name ∷ [])) is;
    keeps = repeated s (Opens name ∷ []);
  }

  open_fails : (s : System) (name : Bytes) (error : Error) → run.happened s.at
      → (error_kind error ≡ ErrorKind.NotFound → s.at.now name ≡ None)
      → OpenClauses (from_to s s) (is_now name) (Err error)
  open_fails s name error was absent = record {
    named = λ unheld kind. (s.at, was, absent kind, λ before held. absurd (free s name unheld before held));
    opens = λ done is. is;
    keeps = λ other found may. may;
  }

  create_met : (s : System) (name : Bytes) → CreateClauses (from_to s (created name s)) (is_now name) (Ok name)
  create_met s name = record {
    named = refl;
    creates = λ done is. ap (with_calls (made name)) is;
    alone = λ none. create_leaves s name (none_held s name none);
    keeps = create_leaves s name;
  }

  create_fails : (s : System) (name : Bytes) (error : Error) → CreateClauses (from_to s s) (is_now name) (Err error)
  create_fails s name error = record {
    named = tt;
    creates = λ done is. is;
    alone = λ none other found may. may;
    keeps = λ unheld other found may. may;
  }

  close_met : (s : System) (file : Bytes) → CloseClauses (from_to s s) file
  close_met s file = record { closes = tt; stays = uncounted s }

  find_met : (s : System) (name : Bytes) (result : Result Bytes Error)
      → MatchResult result (λ place. place ≡ name) (fails name) → FindClauses (from_to s s) (is_now name) result
  find_met s name result is = record { named = is; stays = uncounted s }

  open_parent_met : (s : System) (place : Bytes) (result : Result (Unit {0}) Error) → IfErr result (fails place)
      → OpenParentClauses (from_to s s) (is_now place) result
  open_parent_met s place result is = record { fails = is; stays = uncounted s }

  open_lock_met : (s : System) (place : Bytes) (result : Result (Option (Unit {0})) Error)
      → MatchResult result (λ file. MatchOption file (denies place) (λ file. Unit {0})) (fails place)
      → OpenLockClauses (from_to s s) (is_now place) result
  open_lock_met s place result is = record { denied = is; stays = uncounted s }

  lock_met : (s : System) (place : Bytes) (result : Result (Option (Unit {0})) Error)
      → MatchResult result (λ lock. MatchOption lock (denies place) (λ lock. Unit {0})) (fails place)
      → LockClauses (from_to s s) (is_now place) result
  lock_met s place result is = record { denied = is; stays = uncounted s }

  confirm_met : (s : System) (place : Bytes) → s.at.held ≡ None → run.happened (locked place s).at
      → ConfirmClauses (from_to s (locked place s)) place (Ok (Some place))
  confirm_met s place none was = record {
    holds = (
      refl,
      λ done is. ap with_one_more_held is ∙ ap (λ (h : Option (Bytes × Option Bytes)).
          with_one_more_held (record { calls = s.calls; holds = option_len h })) none,
    );
    leaves = locking_leaves s place was;
  }

  confirm_denied : (s : System) (place : Bytes) → denies place → ConfirmClauses (from_to s s) place (Ok None)
  confirm_denied s place denied = record { holds = (denied, λ done is. is); leaves = λ other found may. inl may }

  confirm_fails : (s : System) (place : Bytes) (error : Error) → fails place error
      → ConfirmClauses (from_to s s) place (Err error)
  confirm_fails s place error failed = record { holds = (failed, λ done is. is); leaves = λ other found may. inl may }

  is_named_met : (s : System) (held name : Bytes) (was : Option Bytes) → s.at.held ≡ Some (held, was)
      → IsNamedClauses (is_now s) (is_now held) (is_now name) (bytes_eq held name)
  is_named_met s held name was is = record {
    same = λ same. search (rules, bytes_eq-Decides, same);
    only = λ same. subst (λ (n : Bytes). bytes_eq held n ≡ true) same (bytes_same held);
    other = λ not one. unheld s held name was is not;
  }

  see_met : (s : System) (held : Bytes) (seen : Option Bytes) → run.happened s.at → s.at.held ≡ Some (held, seen)
      → SeeClauses (from_to s s) (is_now held) (Ok seen)
  see_met s held seen was is = record { saw = ∣ (s.at, was, is) ∣₁; stays = uncounted s }

  open_seen_met : (s : System) (held : Bytes)
      → OpenSeenClauses (from_to s (called (Opens held ∷ []) s)) (is_now held) (Ok held)
  open_seen_met s held = record {
    named = refl;
    opens = λ done is. ap (with_calls (Opens held ∷ [])) is;
    keeps = repeated s (Opens held ∷ []);
  }

  open_seen_fails : (s : System) (held : Bytes) (error : Error) → run.happened s.at
      → (error_kind error ≡ ErrorKind.NotFound → (s.at.held ≡ Some (held, None)) × (s.at.now held ≡ None))
      → OpenSeenClauses (from_to s s) (is_now held) (Err error)
  open_seen_fails s held error was absent = record {
    named = λ kind. (s.at, was, (absent kind).1, λ before is. ap was_in (sym is ∙ (absent kind).0));
    opens = λ done is. is;
    keeps = λ other found may. may;
  }

  check_not_held_met : (s : System) (held name : Bytes) (was : Option Bytes) → s.at.held ≡ Some (held, was)
      → bytes_eq held name ≡ false → CheckNotHeldClauses (from_to s s) (is_now name) (Ok tt)
  check_not_held_met s held name was is not = search (rules, unheld, uncounted)

  make_met : (s : System) (held : Bytes)
      → MakeClauses (from_to s s) (Ok (record { place = held; bytes = []; synced = [] }))
  make_met s held = record { empty = refl; stays = uncounted s }

  write_met : (s : System) (file : NewFile) (bytes : Bytes)
      → WriteClauses (from_to s s) (from_to file (record file { bytes = file.bytes ++ bytes })) (is_now bytes) (Ok tt)
  write_met s file bytes = search (rules, uncounted)

  sync_met : (s : System) (file : NewFile)
      → SyncClauses (from_to s s) (from_to file (record file { synced = file.bytes })) (Ok tt)
  sync_met s file = record { synced = λ bytes has. (has, has); stays = uncounted s }

  check_unchanged_met : (s : System) (seen : Option Bytes) (file : NewFile) → finds_seen_and_new s seen file
      → CheckUnchangedClauses (from_to s s) (is_now seen) (is_now file) (Ok tt)
  check_unchanged_met s seen file finds = record { found = finds; stays = uncounted s }

  discard_met : (s : System) → DiscardClauses (from_to s s)
  discard_met s = record { stays = uncounted s }

  place_new_met : (s : System) (file : NewFile) → run.happened s.at → finds_seen_and_new s None file
      → PlaceNewClauses (from_to s (placed file s)) (is_now file.place) file (Ok file)
  place_new_met s file was finds = record {
    only = (s.at, was, finds.1, λ before is. ap was_in (sym is ∙ finds.0));
    whole = placed_whole s file;
    placed = placed_there s file;
    stays = λ done is. is;
  }

  rename_met : (s : System) (seen : Bytes) (file : NewFile) → finds_seen_and_new s (Some seen) file
      → RenameClauses (from_to s (placed file s)) (is_now file.place) file (Ok file)
  rename_met s seen file finds = record {
    whole = placed_whole s file;
    placed = placed_there s file;
    busy = tt;
    stays = λ done is. is;
  }

  rename_fails : (s : System) (file : NewFile) (error : Error)
      → (error_kind error ≡ ErrorKind.ResourceBusy → is_mounted file.place)
      → RenameClauses (from_to s s) (is_now file.place) file (Err error)
  rename_fails s file error busy = record {
    whole = λ bytes kept other found may. inl may;
    placed = tt;
    busy = busy;
    stays = λ done is. is;
  }

  sync_name_met : (s : System) (held : Bytes) → SyncNameClauses (from_to s s) (is_now held) (Ok tt)
  sync_name_met s held = record { synced = λ bytes finds. finds; stays = uncounted s }

  sync_placed_met : (s : System) (held : Bytes) → run.happened (synced held s).at
      → SyncPlacedClauses (from_to s (synced held s)) (is_now held) (Ok tt)
  sync_placed_met s held was = record {
    lasts = λ bytes is. (((synced held s).at, was, is), λ done is. ap (with_calls (made held)) is);
    spare = refl;
    keeps = sync_leaves s held;
  }

  write_over_met : (s : System) (held bytes : Bytes) → is_mounted held → run.happened (written_over held bytes s).at
      → WriteOverClauses (from_to s (written_over held bytes s)) (is_now held) (is_now bytes) (Ok tt)
  write_over_met s held bytes mounted was = record {
    lasts = ((written_over held bytes s).at, was, put_there held bytes s.at.disk);
    writes = λ done is. ap (with_calls (made held)) is;
    spare = put_there held bytes s.at.disk ∙ sym (put_there held bytes s.at.now);
    keeps = over_leaves s held bytes mounted;
  }

  remove_new_met : (s : System) (held : Bytes) → is_spare s held → RemoveNewClauses (from_to s s)
  remove_new_met s held spare = record { stays = uncounted s }

  unlock_met : (s : System) (held : Bytes) (was : Option Bytes) → s.at.held ≡ Some (held, was)
      → UnlockClauses (from_to s (unlocked s))
  unlock_met s held was is = record {
    leaves = λ done have.
        let calls : done.calls ≡ s.calls = ap (λ (d : SystemCalls). d.calls) have in
        let count : done.holds + 1 ≡ 1 = ap (λ (d : SystemCalls). d.holds) have ∙ ap option_len is in
        let none : done.holds ≡ 0 = omega (arith, count) in
        search (rules, calls, none);
    keeps = unlock_leaves s;
  }

-- ---- a run that replaces a chip, or makes a new one: `was` is what there was

module _ (was : Option Bytes) (new : Bytes) where
  abbrev chip : Bytes
  chip = codes "chip"

  -- only the chip's file may be there
  abbrev files : Names
  files name = if bytes_eq name chip then was else None

  abbrev begun : System
  begun = record { at = record { now = files; disk = files; held = None }; past = []; calls = [] }

  abbrev file : NewFile
  file = record { place = chip; bytes = new; synced = new }

  abbrev holding : System
  holding = locked chip begun

  abbrev renamed : System
  renamed = placed file holding

  abbrev saved : System
  saved = synced chip renamed

  abbrev ended : System
  ended = unlocked saved

  abbrev happened : Moment → Type 0
  happened m = (m ≡ holding.at) ⊎ (m ≡ renamed.at) ⊎ (m ≡ saved.at)

  abbrev run : Run
  run = record {
    happened = happened;
    mounted = λ name. ⊥;
    denied = λ name. ⊥;
    failed = λ name error. ⊥;
  }

  abbrev may_leave : System → Option Bytes → Type 0
  may_leave s found = left run s chip found

  -- nothing may be left before a file is held
  none_begun : (name : Bytes) (found : Option Bytes) → left run begun name found → ⊥
  none_begun name found e = search rules

  -- a crash may leave the old chip
  old_left : may_leave ended was
  old_left = inr (inr (inl ((was, refl), λ mounted. mounted, inl refl)))

  -- or the new one
  new_left : may_leave ended (Some new)
  new_left = inr (inr (inl ((was, refl), λ mounted. mounted, inr refl)))

  -- the new one is on the disk
  new_lasts : lasts run chip new
  new_lasts = (saved.at, inr (inr refl), refl)

  -- the new file's first name may be removed once the chip is saved, and not before
  spare_removed : is_spare run saved chip × RemoveNewClauses run (from_to saved saved)
  spare_removed = (refl, remove_new_met run saved chip refl)

  -- before the chip is saved the new file's first name may not be removed
  unsaved_kept : (was ≡ Some new → ⊥) → is_spare run renamed chip → ⊥
  unsaved_kept differs spare = differs spare

  -- the chip began with what there was
  began_was : (found : Option Bytes) → began run chip found → found ≡ was
  began_was found e = search rules

  -- by the clauses alone: what was there when the chip was locked, or the new chip
  old_or_new : (name : Bytes) (found : Option Bytes) → left run ended name found
      → (name ≡ chip) × (began run chip found ⊎ (found ≡ Some new))
  old_or_new name found may =
      let unlocking = (unlock_met run saved chip was refl).keeps name found may in
      let syncing = (sync_placed_met run renamed chip (inr (inr refl))).keeps name found unlocking in
      elim (placed_whole run holding file new (refl, refl) name found syncing) [
        | inr is ↦ (is.0, inr is.1)
        | inl locking ↦ elim ((confirm_met run begun chip refl (inl refl)).leaves name found locking) [
          | inr is ↦ (is.0, inl is.1)
          | inl none ↦ absurd (none_begun name found none)
        ]
      ]

-- an old chip is replaced; below, a new one is made
chip_replaced : (old new : Bytes) → RenameClauses (run (Some old) new)
    (from_to (holding (Some old) new) (renamed (Some old) new)) (is_now (codes "chip")) (file (Some old) new)
    (Ok (file (Some old) new))
chip_replaced old new = rename_met (run (Some old) new) (holding (Some old) new) old (file (Some old) new) (refl, refl)

chip_made : (new : Bytes) → PlaceNewClauses (run None new) (from_to (holding None new) (renamed None new))
    (is_now (codes "chip")) (file None new) (Ok (file None new))
chip_made new = place_new_met (run None new) (holding None new) (file None new) (inl refl) (refl, refl)

-- ---- two wrong systems

-- renames in two steps: between them no file has the name
abbrev torn : Bytes → Bytes → System
torn old new = placed (file (Some old) new) (after (record (holding (Some old) new).at { now = λ name. None }) []
    (holding (Some old) new))

-- the clauses refuse this system
torn_refused : (old new : Bytes) → RenameClauses (run (Some old) new) (from_to (holding (Some old) new) (torn old new))
    (is_now (codes "chip")) (file (Some old) new) (Ok (file (Some old) new)) → ⊥
torn_refused old new meets =
    let may : left (run (Some old) new) (torn old new) (codes "chip") None =
    inr (inl ((Some old, refl), λ mounted. mounted, inr refl)) in
    elim (meets.whole new (refl, refl) (codes "chip") None may) [
      | inl (inl (held, bare, inl is)) ↦ cc
      | inl (inl (held, bare, inr is)) ↦ cc
      | inl (inr (inl ((before, held), bare, rest))) ↦ cc
      | inl (inr (inr none)) ↦ none
      | inr is ↦ cc
    ]

-- syncs nothing, and says that it has
abbrev unsynced : Bytes → Bytes → Run
unsynced old new =
    record (run (Some old) new) {
      happened = λ m. (m ≡ (holding (Some old) new).at) ⊎ (m ≡ (renamed (Some old) new).at);
    }

-- so they do this one
unsynced_refused : (old new : Bytes) → (old ≡ new → ⊥) → SyncPlacedClauses (unsynced old new)
    (from_to (renamed (Some old) new) (renamed (Some old) new)) (is_now (codes "chip")) (Ok tt) → ⊥
unsynced_refused old new differs meets = search rules

-- ---- the record of a desk over this folder

-- the folder as a system of files, as avr_desk makes one of any folder
abbrev system : Option Bytes → Bytes → Systems System Bytes (Unit {0}) Bytes
system was new = record {
  has_done = has_done (run was new);
  is_input = is_input (run was new);
  is_of = is_of (run was new);
  closed = closed (run was new);
  lacks = lacks (run was new);
  holds = λ held name. held ≡ name;
  denies = denies (run was new);
  fails = fails (run was new);
  replaced = lasts (run was new);
  left = left (run was new);
  began = began (run was new);
}

-- the chip's file
abbrev written : Bytes → Writing
written new = record { name = codes "chip"; bytes = new }

-- the record of a run that replaced it
abbrev replaced : Bytes → Record
replaced new = record nothing_kept { uses = Created (written new) ∷ []; tried = written new ∷ []; releases = 1 }

-- what a crash may leave is in the record
crash_recorded : (was : Option Bytes) (new : Bytes) → CrashLeaves (system was new) (ended was new) (written new ∷ [])
crash_recorded was new name found may = search (rules, old_or_new was new name found may)

-- so the record is true
replacement_recorded : (was : Option Bytes) (new : Bytes) (reads : Reads Bytes) (writes : Writes Bytes)
    (input : Reads (Unit {0}))
    → IsTrueRecord (system was new) reads writes input (ended was new) Nothing None (replaced new)
replacement_recorded was new reads writes input = record {
  uses = All-cons (IsTrueUse (system was new) reads writes input) (Created (written new)) []
      (inr (inr (new_lasts was new))) (All-nil (IsTrueUse (system was new) reads writes input));
  current = refl;
  denied = All-nil (denies (run was new));
  held = tt;
  has_done = refl;
  crash = crash_recorded was new;
}

-- it isn't, if the renaming is made in two steps
torn_unrecorded : (old new : Bytes) (reads : Reads Bytes) (writes : Writes Bytes) (input : Reads (Unit {0}))
    → IsTrueRecord (system (Some old) new) reads writes input (torn old new) Nothing None (replaced new) → ⊥
torn_unrecorded old new reads writes input truly = search (rules, began_was)
