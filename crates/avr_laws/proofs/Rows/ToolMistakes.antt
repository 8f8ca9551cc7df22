-- Known mistakes that the contracts of avr_tool refuse. Each row has an outcome that the mistake would have, and names
-- the clause that refuses it.
use lib.Utf8.{encode}
use Rattle.std.proofs.Common.{◌≡◌, refl, arith, rules, inl, inr, ◌⊎◌, ℕ, true, List, [], ◌∷◌, ◌++◌, append-nil, Option, Some, None, Ok, Err}
use Rattle.std.proofs.lemmas.Bool.{false≢true}
use Rattle.std.proofs.lemmas.List.Folds.{list_any-append}
use Rattle.std.specs.List.{list_any}
use Rattle.std.specs.Prelude.{codes}
use Rattle.std.specs.Str.{bytes_eq, chars}
use Rattle.std.specs.declared.io.Read.{Ghosts as Reads}
use Rattle.std.specs.declared.io.Write.{Ghosts as Writes}
use Rattle.clap.specs.Takes.{flags_pass, walk_passes}
use Rattle.clap.specs.Walk.{bundle_met, walked}
use Rattle.clap.specs.Words.{takes}
use Rattle.avr_part.specs.BuiltIn.{m328p}
use Rattle.avr_part.specs.ChipFile.{chip_file}
use Rattle.avr_part.specs.Part.{Part}
use Rattle.avr_part.specs.State.{ChipState as Chip, fresh_state}
use Rattle.avr_io.specs.OutputEvents.{CreatesFile, after, after_opening}
use Rattle.avr_io.specs.Lines.{error}
use Rattle.avr_io.specs.Record.{Bytes, DeskState, Record, after_err, all_uses, nothing_kept, showing, with_absent, with_held, with_none_held, with_replaced}
use Rattle.avr_io.specs.declared.record.FileUse.TheVariants.{Opened, Created}
use Rattle.avr_io.specs.declared.record.Open.TheVariants.{Closed}
use Rattle.avr_io.specs.declared.record.Opening.{Opening}
use Rattle.avr_io.specs.declared.record.Opening.TheVariants.{Absent, Found}
use Rattle.avr_io.specs.declared.record.Writing.{Writing}
use Rattle.avr_plan.specs.Command.{avrstk, options, settings_from_arguments}
use Rattle.avr_plan.specs.Lines.{no_part_pieces}
use Rattle.avr_plan.specs.Plan.{Plan}
use Rattle.avr_plan.specs.declared.settings.Port.TheVariants as port
use Rattle.avr_plan.specs.declared.settings.Settings.{Settings}
use Rattle.avr_plan.specs.declared.settings.SettingsFault.TheVariants.{BadPort}
use Rattle.avr_session.specs.Run.{RunsSession}
use Rattle.avr_session.specs.Runs.{Devices, devices}
use Rattle.avr_session.specs.Session.{session}
use Rattle.stk_emu.specs.Wired.{wired_link}
use Rattle.stk_frame.specs.Frame.{frame}
use Rattle.stk_host.specs.Dialog.{bytes_sent, played}
use Rattle.stk_host.specs.Operations.{closing, handshake, opening, operation}
use Rattle.stk_host.specs.Steps.{attempt, attempts_or_fault, exchange, play}
use Rattle.stk_host.specs.Tape.{Tape, answer}
use Rattle.stk_host.specs.Transcript.{LinkState, Transcript, Got, Sent, heard, sent}
use Rattle.stk_host.specs.declared.link.Item.TheVariants.{End}
use Rattle.avr_tool.specs.Emulated.{IsSavedIfSent, RunsEmulator}
use Rattle.avr_tool.specs.Headline.{IsRun, IsStopped, run}
use Rattle.avr_tool.specs.Holding.{LoadsLocked, LocksAndLoads}
use Rattle.avr_tool.specs.OverNet.{RunsOverNet, new_link}
use Rattle.avr_tool.specs.Program.{RunsProgram, StartsProgram}
use Rattle.avr_tool.specs.Saving.{SavesChip}
use Rattle.avr_tool.specs.ServedNet.{ServesNet}
use Rattle.avr_tool.specs.ServedRun.{ServesChip, ServesPart}
use Rattle.avr_tool.specs.Sockets.{IsOverAddress, Peers}
use Rattle.avr_tool.specs.declared.serving_link.Served.{Served}
use Rattle.avr_laws.proofs.ChipFile.Found.{found, found_kept}
use Rattle.avr_laws.proofs.Rows.Promise.{network, unknown}
use Rattle.avr_laws.specs.Worked.{worked_settings}

-- a desk that never failed
abbrev shown : Record → DeskState
shown r = showing r 0 0

-- nothing was done yet
abbrev begun : Devices
begun = devices new_link (shown nothing_kept)

-- the file is locked
abbrev holding : Bytes → Record
holding file = with_held file nothing_kept

-- the file was locked, and found absent
abbrev tried : Bytes → Record
tried file = with_absent file (holding file)

-- ---- the chip file

-- it is locked until it is replaced (`saves` of avr_tool's `save_chip`)
pub locked_until_saved : (file bytes : Bytes) → SavesChip (shown (holding file))
    (shown (with_replaced file bytes (with_none_held (holding file)))) file bytes (Ok tt) → ⊥
locked_until_saved file bytes saves = search rules

-- it is locked before it is opened, whatever its name (`loads` of avr_tool's `hold_chip`)
pub locked_before_loaded : LocksAndLoads m328p [] (shown nothing_kept) (shown (with_absent [] nothing_kept))
    (Ok (fresh_state m328p)) → ⊥
locked_before_loaded it =
    let kept = found_kept m328p [] it.held_desk _ (fresh_state m328p) it.loaded in search rules

-- ---- serving

-- each reply is sent before the next read: `not_ahead` of Rows/Served (`serves` of avr_tool's `serve_link`)

abbrev name_of : Opening → Bytes
name_of (Absent name) = name
name_of (Found x) = x.name

-- loading a chip opens its file once
opened_by : (part : Part) (file : Bytes) (old new : DeskState) (chip : Chip) → LoadsLocked part file old new (Ok chip)
    → (opening : Opening) × (name_of opening ≡ file)
    × (all_uses new.kept ≡ all_uses old.kept ++ Opened opening ∷ [])
opened_by part file old new chip it =
    (found part file it.held_desk new chip it.loaded, (search rules), (search (rules, append-nil, found_kept)))

-- with status 0 the file was opened and replaced
served_by : (part : Part) (file : Bytes) (most : ℕ) (old new : Devices) → ServesPart part file most old new 0
    → (opening : Opening) × (name_of opening ≡ file) × (made : Writing)
    × (new.desk.kept.uses ≡ (all_uses old.desk.kept ++ Opened opening ∷ []) ++ Created made ∷ [])
served_by part file most old new (inl it) =
    let opened = opened_by part file old.desk it.loaded_desk it.chip it.loaded in (
      opened.0,
      opened.1,
      record { name = file; bytes = chip_file it.then_is.left.programmer.chip },
      (search (rules, opened.2)),
    )
served_by part file most old new (inr refused) = absurd (search rules)

-- the chip of the named file is served (`runs` of avr_tool's `serve_part`)
pub chip_of_its_file_is_served : (bytes : Bytes) (link : LinkState) → ServesPart m328p (codes "a.bin") 5 begun
    (devices link (shown (with_replaced (codes "a.bin") bytes (tried (codes "chip.bin"))))) 0 → ⊥
chip_of_its_file_is_served bytes link serves =
    let it = served_by m328p (codes "a.bin") 5 begun _ serves in search rules

-- it is loaded for the client, and not only checked before (`serves` of avr_tool's `serve_net`)
abbrev checked : Bytes → Record
checked bytes = with_none_held (after_opening
    (Found (record { name = codes "a.bin"; bytes = bytes; ended = true })) (holding (codes "a.bin")))

pub chip_is_loaded_for_its_client : (Unused : Type 0) (over : Option LinkState → Type 0) (bytes left : Bytes)
    → ServesNet Unused over (record worked_settings { port = port.Served (codes "5000") (codes "a.bin") })
    (codes "5000") (codes "a.bin") (shown nothing_kept)
    (shown (with_replaced (codes "a.bin") left (checked bytes))) 0 → ⊥
chip_is_loaded_for_its_client Unused over bytes left (inl (part, desk, check, inl (link, is_over, serves))) =
    let it = check.then_is.1 in
    let before = opened_by check.part (codes "a.bin") check.part_desk it.loaded_desk it.chip it.loaded in
    let none : all_uses check.part_desk.kept ≡ [] = let found = check.found.comes [] in search rules in
    let again = served_by part (codes "a.bin") 16777216 (devices new_link desk) (devices link _) serves in
    search rules
chip_is_loaded_for_its_client Unused over bytes left (inl (part, desk, check, inr refused)) = search rules
chip_is_loaded_for_its_client Unused over bytes left (inr refused) = search rules

-- it is saved after a failure of the link, too (`serves` of avr_tool's `serve_chip`)
pub chip_is_saved_after_a_failure : (chip : Chip) (file line : Bytes)
    → ServesChip chip file 5 (devices new_link (shown (holding file)))
    (devices (record new_link { failures = 1 }) (shown (after_err line (holding file)))) 1 → ⊥
chip_is_saved_after_a_failure chip file line serves = search rules

-- ---- a run over a link

abbrev Runs : Settings → Devices → Devices → ℕ → Type 0
Runs s old new status = IsRun s old new status ⊎ IsStopped s old new status

abbrev refusal : Bytes
refusal = error (no_part_pieces (codes "none"))

-- a refused run leaves the desk's files and the link alone
refused_alone : (new : Devices) (status : ℕ) → Runs unknown begun new status
    → (new.desk.kept.current ≡ Closed) × (sent new.link.transcript ≡ [])
refused_alone new status (inl ran) = let is = ran.is [] [] in search rules
refused_alone new status (inr (inl stopped, one)) = let none = stopped.made.comes [] in absurd (search rules)
refused_alone new status (inr (inr broke, one)) = let bare = broke.bare refl refl in search rules

-- after a refusal no file is created, and nothing is sent (`runs` of avr_tool's `run`)
pub no_file_after_a_refusal : Runs unknown begun
    (devices new_link (shown (after (CreatesFile (codes "out.h")) (after_err refusal nothing_kept)))) 1 → ⊥
no_file_after_a_refusal ran = let closed = refused_alone _ 1 ran in search rules

-- a link over which the host signed on
abbrev signed_on : Transcript → LinkState
signed_on more = record new_link { transcript = Sent (frame 1 (1 ∷ [])) ∷ more }

pub no_frame_after_a_refusal : Runs unknown begun
    (devices (signed_on []) (shown (after_err refusal nothing_kept))) 1 → ⊥
no_frame_after_a_refusal ran = let none = refused_alone _ 1 ran in search rules

-- a dry run has its session, too (`runs` of avr_tool's `run`)
abbrev dry : Settings
dry = record worked_settings { switches = record worked_settings.switches { dry = true } }

-- over an empty tape the run waits
waits : (openings : List Opening) → (run dry openings []).outcome ≡ None
unfolding session opening handshake attempts_or_fault attempt exchange answer play operation closing
waits openings = refl

pub dry_run_is_a_run : Runs dry begun begun 0 → ⊥
dry_run_is_a_run (inl ran) =
    let is = ran.is [] [] in let none = waits (ran.openings ++ []) in search rules
dry_run_is_a_run (inr stopped) = search rules

-- ---- a session with status 0 has sent something

-- each session begins with a frame
signs_on : (plan : Plan) (tape : Tape)
    → (more : List ℕ) × (bytes_sent (played (session plan) 1 tape).events ≡ 0x1B ∷ more)
unfolding session opening handshake attempts_or_fault attempt exchange answer play operation closing
signs_on plan tape = (_, refl)

-- so one with status 0 sent something
sent_some : (plan : Plan) (old new : DeskState) (link : LinkState) (status : ℕ)
    → RunsSession plan (devices new_link old) (devices link new) status → status ≡ 0
    → sent link.transcript ≡ [] → ⊥
sent_some plan old new link status (inl (after, ran)) zero none =
    let first = signs_on plan (heard ran.during ++ []) in let plays = ran.plays.plays [] in search rules
sent_some plan old new link status (inr (stopped, one)) zero none = omega (arith, one, zero)

-- ---- a run over the network: a connection to `here:1` was made

module _ (reads : Reads (List ℕ)) (timed_out : List ℕ → Type 0) (s : Settings) (old new : DeskState) where
  abbrev Over : Writes (List ℕ) → (List ℕ → Type 0) → Bytes → ℕ → Type 0
  Over writes closed address =
      RunsOverNet network.unused (IsOverAddress network reads timed_out writes closed address) s address old new

  -- only the named address is called (`runs` of avr_tool's `run_net`)
  pub named_address_is_called : (writes : Writes (List ℕ)) (status : ℕ)
      → Over writes (λ side. Unit {0}) (codes "away:1") status → ⊥
  named_address_is_called writes status ran = search rules

  -- with status 0 something was sent over the connection, and it is closed at the end (`runs` of avr_tool's `run_net`)
  pub connection_is_used : Over (record { contents = λ side. Some [] }) (λ side. Unit {0}) (codes "here:1") 0 → ⊥
  connection_is_used (inl (link, over, ran)) =
      let none : sent link.transcript ≡ [] = search (rules, over.truly.took) in
      sent_some ran.plan ran.between new link 0 ran.then_is refl none
  connection_is_used (inr missed) = search rules

  pub connection_is_closed : (writes : Writes (List ℕ)) (status : ℕ)
      → Over writes (λ side. ⊥) (codes "here:1") status → ⊥
  connection_is_closed writes status ran = search rules

-- ---- a run over the emulator

-- the file was replaced
left_by : (these : List ℕ) (old new : DeskState) (file bytes : Bytes) (ran : ℕ)
    → IsSavedIfSent these old new file bytes ran 0 → (ran ≡ 0 → these ≡ [] → ⊥)
    → list_any (λ (made : Writing). bytes_eq made.name file) new.kept.tried ≡ bytes_eq file file
left_by these old new file bytes ran saved some = search (rules, list_any-append)

abbrev Emulates : DeskState → Type 0
Emulates new =
    RunsEmulator (record dry { port = port.Emulated (codes "a.bin") }) (codes "a.bin") (shown nothing_kept) new 0

-- with status 0 its file was saved
saved_by : (new : DeskState) → Emulates new
    → list_any (λ (made : Writing). bytes_eq made.name (codes "a.bin")) new.kept.tried ≡ true
saved_by new (inl r) =
    left_by (sent r.after.transcript) r.played_desk new (codes "a.bin") _ r.session_status r.saved
    (sent_some r.plan r.loaded_desk r.played_desk (wired_link r.after) r.session_status r.runs)
saved_by new (inr refused) = absurd (search rules)

-- the file of its port is used, also in a dry run (`runs` of avr_tool's `run_emu`)
pub file_of_its_port_is_used : (bytes lines : Bytes)
    → Emulates (shown (with_replaced (codes "chip.bin") bytes (after_err lines (tried (codes "chip.bin"))))) → ⊥
file_of_its_port_is_used bytes lines ran = false≢true (saved_by _ ran)

-- the chip is saved after a session (`runs` of avr_tool's `run_emu`)
pub used_chip_is_saved : (lines : Bytes)
    → Emulates (shown (with_none_held (after_err lines (tried (codes "a.bin"))))) → ⊥
used_chip_is_saved lines ran = false≢true (saved_by _ ran)

-- ---- the program

-- the last word counts: it is the emulator's, so no stream is used (`starts` of avr_tool's `run_command_line`)
abbrev words : List Bytes
words = codes "avrstk" ∷ codes "-p" ∷ codes "m328p" ∷ codes "-P" ∷ codes "stdio:" ∷ codes "-Pemu:a.bin" ∷ []

-- the settings of these words
words_read : settings_from_arguments words ≡ Ok (record worked_settings { port = port.Emulated (codes "a.bin") })
unfolding avrstk options bundle_met walked chars encode
words_read = refl

pub last_word_counts : (peers : Peers) (desk : DeskState)
    → StartsProgram {C = Unit {0}} (record { is_words = λ given. given ≡ words; unread = ⊥ }) peers begun
    (devices (signed_on (Got (End ∷ []) ∷ [])) desk) 1 → ⊥
last_word_counts peers desk ran = search (rules, words_read)

-- the status is that of the run (`runs` of avr_tool's `run_program`)
abbrev bad_words : List Bytes
bad_words = codes "avrstk" ∷ codes "-p" ∷ codes "m328p" ∷ codes "-P" ∷ codes "a.bin" ∷ []

-- these words are a command line
bad_words_taken : takes avrstk bad_words ≡ true
unfolding avrstk options bundle_met walked chars encode walk_passes flags_pass
bad_words_taken = refl

-- which is refused
bad_words_read : settings_from_arguments bad_words ≡ Err (BadPort (Some (codes "a.bin")))
unfolding avrstk options bundle_met walked chars encode
bad_words_read = refl

pub status_is_handed_on : (peers : Peers) (line : Bytes)
    → RunsProgram peers bad_words begun (devices new_link (shown (after_err line nothing_kept))) 0 → ⊥
status_is_handed_on peers line ran = search (rules, bad_words_read, bad_words_taken)
